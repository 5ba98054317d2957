-- What the inner functions of the radius query ask and promise: points in the order of the walk, each put into a lent slice
-- behind the hits so far, as far as there is room; hits are counted all. With no room at all it is the first walk, which
-- only counts.
--   Held                   the state: how many hits so far, and the slice
--   put room n out i       the slice once i stands at n, if there is room
--   keep room hit s i      point i after s: it is put behind the hits so far, and counted if it is one
--   Asked                  what stays as it is: which slice, the room, which is its length, and the radius, squared
--   rules room r2          the query whose state is Held, by squared distances alone
--   keeping room points q r2  the same as seen from q
--   kept r out             what an inner function's answer r comes to, with the slice that it leaves
use Rattle.std.specs.Prelude.{Bool, true, false, cond, List, ℕ, ◌+◌, ltb, set, Float, Result, Ok, Err}
use Rattle.std.specs.Float.Ieee.{lt, le}
use Rattle.distance.specs.declared.Coord.{Coord}
use Rattle.search.specs.Walk.{Search, Got, broken, got}
use Rattle.search.specs.Rules.{Rules, searching}
use Rattle.search.specs.declared.Damage.{Damage}

pub record Held : Type 0 where
  pub count : ℕ
  pub out : List ℕ

abbrev pub held : ℕ → List ℕ → Held
held n out = record { count = n; out = out }

abbrev pub put : ℕ → ℕ → List ℕ → ℕ → List ℕ
put room n out i = cond (ltb n room) (set out n i) out

-- one that is no hit stands where the next will be put: the count tells what holds
abbrev pub keep : ℕ → Bool → Held → ℕ → Held
keep room hit s i = held (cond hit (s.count + 1) s.count) (put room s.count s.out i)

pub record Asked : Type 0 where
  pub slice : ℕ
  pub room : ℕ
  pub radius_sq : Float

abbrev pub rules : ℕ → Float → Rules Held
rules room r2 = record {
  nearer_first = false;
  skip = λ s b. lt r2 b;
  next = λ s p. keep room (le p.d2 r2) s p.index;
  whole = λ c. le c r2;
  add = λ s p. keep room true s p.index;
}

abbrev pub keeping : ℕ → List Float → Coord → Float → Search Held
keeping room points q r2 = searching (rules room r2) points q

abbrev pub kept : Result ℕ Damage → List ℕ → Got Held
kept (Ok n) out = got (held n out)
kept (Err d) out = broken
