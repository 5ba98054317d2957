-- The k-nearest query: its walk, and what it answers for every input whatsoever.
--   wanted k t          how many hits there are to be, and the most that are held: min(k, n). Once n are held, all are met
--   over held k top d   of so many held, k are, and d is above top
--   over_top k s d      the heap s is full, and d is above its first, the last of the k held
--   nearest_held k      the rules of the k nearest: the state is a heap of at most k points
--   none_held           the rules of a query that holds nothing, and so passes over nothing
--   holding k points q  the query of the k nearest as seen from q
--   probing             the query that holds nothing, for want of room
--   sorted s            what is held, by (d2, index)
--   answer t q k room   what the query answers, with room for so many hits
--   scan_answer points q k room  the same by a plain scan, with no tree
use Rattle.std.specs.Prelude.{List, [], Bool, true, false, cond, ℕ, min, ltb, eqb, length, get_or, Float}
use Rattle.std.specs.Float.Ieee.{lt}
use Rattle.distance.specs.declared.Coord.{Coord}
use Rattle.tree.specs.Points.{size}
use Rattle.tree.specs.Accepted.{Tree, count}
use Rattle.search.specs.Order.{before}
use Rattle.search.specs.Rules.{Rules, searching}
use Rattle.search.specs.Walk.{Search, Got, broken, got, outcome, walk_all}
use Rattle.search.specs.Refusal.{refusal}
use Rattle.search.specs.Answer.{Answer, refused, damaged, hits}
use Rattle.search.specs.declared.Best.{Best}
use Rattle.heap.specs.Heap.{heap_sort, offer, blank}
use Rattle.k_nearest.specs.Scan.{nearest_k}

abbrev pub wanted : ℕ → Tree → ℕ
wanted k t = min k (count t)

abbrev pub over : ℕ → ℕ → Float → Float → Bool
over held k top d = cond (ltb held k) false (lt top d)

abbrev pub over_top : ℕ → List Best → Float → Bool
over_top k s d = over (length s) k (get_or s 0 blank).d2 d

abbrev pub nearest_held : ℕ → Rules (List Best)
nearest_held k = record {
  nearer_first = true;
  skip = over_top k;
  next = offer before blank k;
  whole = λ d. false;
  add = offer before blank k;
}

abbrev pub none_held : Rules Unit
none_held = record { nearer_first = false; skip = λ s d. false; next = λ s p. s; whole = λ d. false; add = λ s p. s }

abbrev pub holding : ℕ → List Float → Coord → Search (List Best)
holding k points q = searching (nearest_held k) points q

abbrev pub probing : Search Unit
probing = record { skip = λ s b. false; left_first = λ l r. true; next = λ s i. s; whole = λ b. false; add = λ s i. s }

abbrev pub sorted : List Best → List Best
sorted s = heap_sort before blank (length s) s

-- damage, or the hits
abbrev pub found : Got (List Best) → Answer
found broken = damaged
found (got s) = hits (sorted s)

-- damage, or so many hits for which there is no room
abbrev pub no_room : ℕ → Got Unit → Answer
no_room needed broken = damaged
no_room needed (got s) = refused 8 needed

-- refusals 1, 2 and 4; nothing to find, and no walk; no room; else the hits
abbrev pub answer : Tree → Coord → ℕ → ℕ → Answer
answer t q k room =
    cond (ltb 0 (refusal t.points q)) (refused (refusal t.points q) 0)
    (cond (eqb (wanted k t) 0) (hits [])
    (cond (ltb room (wanted k t)) (no_room (wanted k t) (outcome (walk_all t probing tt)))
    (found (outcome (walk_all t (holding (wanted k t) t.points q) [])))))

abbrev pub scan_answer : List Float → Coord → ℕ → ℕ → Answer
scan_answer points q k room =
    cond (ltb 0 (refusal points q)) (refused (refusal points q) 0)
    (cond (eqb (min k (size points)) 0) (hits [])
    (cond (ltb room (min k (size points))) (refused 8 (min k (size points)))
    (hits (nearest_k k points q))))
