-- `k_nearest::find` meets its contract: what the walk left is sorted and rooted. Assumes nothing.
use Rattle.std.proofs.Common.{◌≡◌, ◌∙◌, ap, sym, subst, ℕ, length, take}
use lib.Seq.{length-take-le}
use Rattle.search.specs.Order.{before}
use Rattle.search.specs.Result.{Rooted}
use Rattle.heap.specs.Heap.{heap_sort, pairs, blank}
use Rattle.k_nearest.proofs.Filled.{finished, found_is}
use Rattle.k_nearest.proofs.find.Goals as goal

pub returns : goal.returns
returns c =
    let a = c.args in
    let w = c.hold in
    let s = c.sort in
    let i : length (take a.k a.out_indices.now) ≡ a.k = length-take-le a.k a.out_indices.now c.requires.in_indices in
    let d : length (take a.k a.out_distances.now) ≡ a.k = length-take-le a.k a.out_distances.now c.requires.in_distances in
    finished a.k a.out_indices.now w.new.indices s.new.indices a.out_distances.now w.new.d2s s.new.d2s c.take_roots.new.squares
    (w.auto.indices ∙ i) (w.auto.d2s ∙ d) (s.auto.indices ∙ w.auto.indices ∙ i) (s.auto.d2s ∙ w.auto.d2s ∙ d)
    (s.ensures ∙ ap (λ (n : ℕ). heap_sort before blank n (pairs w.new.indices w.new.d2s)) (w.auto.indices ∙ i)) (subst (λ (n : ℕ). Rooted n s.new.d2s c.take_roots.new.squares) (s.auto.d2s ∙ w.auto.d2s ∙ d) c.take_roots.ensures) _
    (found_is a.tree.now a.place a.k _ w.result (pairs w.new.indices w.new.d2s) (sym c.if-is_err.ensures.value) i w.ensures)
