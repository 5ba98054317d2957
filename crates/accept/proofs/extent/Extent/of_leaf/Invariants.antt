-- `accept::extent::Extent::of_leaf` meets its contract: the box is that of the entries from start to k. Assumes nothing.
use Rattle.accept.specs.Inner.{Tight}
use Rattle.accept.proofs.extent.Extent.of_leaf.Given as goal

abbrev pub invariant-loop-k : goal.invariant-loop-k
invariant-loop-k l = Tight l.tree l.fn.leaf.start l.k l.extent
