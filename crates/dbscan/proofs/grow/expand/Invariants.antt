-- `dbscan::grow::expand` meets its contract. The invariant: the cluster grows; each turn takes one point from what waits, of
-- which there are n at most. Assumes nothing.
use Prim.Native.Nat.{◌-◌, ◌*◌}
use Rattle.tree.specs.Points.{size}
use Rattle.labels.specs.Labels.{near}
use Rattle.dbscan.specs.Growing.{Growing}
use Rattle.dbscan.proofs.grow.expand.Given as goal

abbrev pub invariant-loop-head : goal.invariant-loop-head
invariant-loop-head l = Growing (near l.tree.points l.density.epsilon) (size l.tree.points) l.density.min_samples l.cluster.seed l.cluster.label l.work l.head l.tail l.labels

abbrev pub decreases-loop-head : goal.decreases-loop-head
decreases-loop-head l = 2 * size l.tree.points - l.head
