-- `hits::within_radius_hits` meets its contract: the hits that were answered have room in all three slices, and are set one
-- after the other. Assumes nothing.
use Rattle.std.proofs.Common.{arith}
use Rattle.radius.specs.Within.{reply}
use Rattle.hits.proofs.Records.{set-pairs, few}
use Rattle.hits.proofs.within_radius_hits.Goals as goal

pub each-preserved : goal.each-preserved
each-preserved c =
    let a = c.args in
    let w = c.within_radius_capped-found in
    let n = few (reply a.tree.now a.place a.radius) _ _ c.in-Ok.n _ c.in-Ok.ensures.answered in
    set-pairs w.new.out_indices w.new.out_distances a.hits.now c.each.hits c.each.k
    (omega (arith, n, c.each-test.true, w.auto.out_indices)) (omega (arith, n, c.each-test.true, w.auto.out_distances)) (omega (arith, n, c.each-test.true)) c.each.invariant
