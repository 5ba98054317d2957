-- `dbscan::grow::label_all` meets its contract. The invariant: the cores below i have labels, and nothing waits. Assumes nothing.
use Rattle.tree.specs.Points.{size}
use Rattle.labels.specs.Labels.{near}
use Rattle.dbscan.specs.Growing.{Between}
use Rattle.dbscan.proofs.grow.label_all.Given as goal

abbrev pub invariant-loop-i : goal.invariant-loop-i
invariant-loop-i l = Between (near l.tree.points l.density.epsilon) (size l.tree.points) l.density.min_samples l.i l.c l.work l.labels
