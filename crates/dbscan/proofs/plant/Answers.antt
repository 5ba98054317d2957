-- `dbscan::plant` meets its contract: where the build refuses nothing, it builds, and what it builds is accepted. Assumes nothing.
use Rattle.dbscan.proofs.Verdicts.{planted}
use Rattle.dbscan.proofs.plant.Goals as goal

pub returns : goal.returns
returns c =
    planted _ _ _ _ c.new.ensures (λ k o. c.type_inv.points k) c.requires c.build.ensures
