-- `k_nearest::hold` meets its contract: the walk's, and at its end both slices are full. Assumes nothing.
use Rattle.std.proofs.Common.{ap, sym, rules}
use Rattle.k_nearest.specs.Inner.{Lent}
use Rattle.k_nearest.proofs.Heaps.{slices_full}
use Rattle.k_nearest.proofs.hold.Goals as goal

pub returns : goal.returns
returns c =
    let q = c.walk.new.query in
    let same = c.walk.ensures.fixed in
    let i = sym (ap (λ (f : Lent). f.indices) same) in
    let d = sym (ap (λ (f : Lent). f.d2s) same) in
    slices_full c.args.tree.now c.args.place _ q.held c.walk.result q.indices.now _ q.d2s.now _ c.requires.some c.requires.few (ap (λ (f : Lent). f.k) same) q.alike c.walk.ensures.walks (search (rules, i)) (search (rules, d))
