-- `stream::grow` meets its contract: no row of the table refuses the build. Assumes nothing.
use Rattle.stream.proofs.Raised.{raised}
use Rattle.stream.proofs.grow.Goals as goal

pub returns : goal.returns
returns c =
    let a = c.args in
    raised _ a.points.now a.indices.now a.boxes.now a.links.now c.requires _ _ (λ k h. c.type_inv.points k) c.build.ensures
