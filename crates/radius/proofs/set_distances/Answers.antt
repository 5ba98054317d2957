-- `radius::set_distances` meets its contract. Assumes nothing.
use Rattle.std.proofs.Common.{arith}
use Rattle.radius.proofs.Measuring.{squares-more}
use Rattle.radius.proofs.set_distances.Goals as goal

pub each-preserved : goal.each-preserved
each-preserved c =
    let a = c.args in
    squares-more a.points.now a.from a.hits.now a.out.now c.each.k (omega (arith, c.each-test.true)) (omega (arith, c.each-test.true, c.requires.as_many)) c.each.out c.each.invariant _ c.coord_distance_sq.ensures
