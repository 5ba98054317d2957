-- The heap of a walk in the two slices: how the code's tests of it are the definition's, and that at a walk's end it fills
-- them. Assumes nothing.
use Rattle.std.proofs.Common.{◌≡◌, refl, sym, ap, ◌∙◌, List, [], Bool, true, false, Result, Ok, Err, ltb, ℕ, ◌≤◌, ◌<◌, length, get_or, take, arith, ltb-false}
use lib.ListN.{length-take}
use lib.Seq.{get_or-take, length-take-le, take_all}
use lib.Ieee.{Float, nan}
use Rattle.distance.specs.declared.Coord.{Coord}
use Rattle.tree.specs.Accepted.{Tree, count}
use Rattle.search.specs.Walk.{Walk, got, outcome, walk_all}
use Rattle.search.specs.Rules.{came_to}
use Rattle.search.specs.declared.Best.{Best}
use Rattle.search.specs.declared.Damage.{Damage}
use Rattle.search.proofs.Own.{After}
use Rattle.heap.specs.Heap.{pairs, blank}
use Rattle.heap.proofs.Pairs.{pairs-at, pairs-long, pairs-size}
use Rattle.k_nearest.specs.Query.{over, over_top, holding}
use Rattle.k_nearest.specs.Inner.{heap_of}
use Rattle.k_nearest.proofs.Full.{walk-full, after-got}

-- the first of the heap, where there is one
pub over-is : (k held : ℕ) (is : List ℕ) (ds : List Float) (d : Float) → 0 < k → held ≤ k → k ≡ length is → length ds ≡ k → over_top k (heap_of held is ds) d ≡ over held k (get_or ds 0 nan) d
over-is k held is ds d some few in_i in_d =
    rw (length-take-le held (pairs is ds) (omega (arith, long))) (go (ltb held k) refl)
  where
    long : k ≤ length (pairs is ds)
    long = pairs-long is ds k (omega arith) (omega arith)

    top : k ≤ held → (get_or (heap_of held is ds) 0 blank).d2 ≡ get_or ds 0 nan
    top h = ap (λ (p : Best). p.d2) (get_or-take held (pairs is ds) 0 blank (omega arith) ∙ pairs-at is ds 0 (omega arith) (omega arith))

    go : (b : Bool) → ltb held k ≡ b → over held k (get_or (heap_of held is ds) 0 blank).d2 d ≡ over held k (get_or ds 0 nan) d
    go true e = rw e
    go false e = ap (λ (x : Float). over held k x d) (top (ltb-false held k e))

-- so many are held at the end that both slices are full
all_held : (r : Result Unit Damage) (k held : ℕ) (l : List Best) (w : Walk (List Best)) → length l ≡ k → After (λ z. length z ≡ k) w → came_to r (take held l) ≡ outcome w → came_to r l ≡ outcome w
all_held (Err d) k held l w h a e = e
all_held (Ok u) k held l w h a e =
    let f = after-got (λ z. length z ≡ k) w (take held l) a (sym e) in
    ap got (sym (take_all held l (omega (arith, length-take held l)))) ∙ e

pub slices_full : (t : Tree) (q : Coord) (k held : ℕ) (r : Result Unit Damage) (is js : List ℕ) (ds es : List Float) → 0 < k → k ≤ count t → length is ≡ k → length ds ≡ length is
    → came_to r (heap_of held is ds) ≡ outcome (walk_all t (holding k t.points q) []) → js ≡ is → es ≡ ds → came_to r (pairs js es) ≡ outcome (walk_all t (holding k t.points q) [])
slices_full t q k held r is js ds es o h i d e f g =
    ap (λ (x : List ℕ). came_to r (pairs x es)) f
    ∙ ap (λ (x : List Float). came_to r (pairs is x)) g
    ∙ all_held r k held (pairs is ds) (walk_all t (holding k t.points q) []) (pairs-size is ds d ∙ i) (walk-full t q k o h) e
