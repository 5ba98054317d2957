-- `accept::once::each_once` meets its contract: after k entries the set has each number as often as it stood there. Assumes nothing.
use Rattle.accept.proofs.Turns.{Passed}
use Rattle.accept.proofs.once.each_once.Given as goal

abbrev pub invariant-loop-index : goal.invariant-loop-index
invariant-loop-index l = Passed l.indices l.seen l.index-index
