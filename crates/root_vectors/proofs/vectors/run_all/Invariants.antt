-- `run_all` meets its contract: the loop's invariant is `Seen` of `Tallies.antt`. Assumes nothing.
use Rattle.root_vectors.proofs.Tallies.{Seen}
use Rattle.root_vectors.proofs.vectors.run_all.Given as goal

abbrev pub invariant-loop-i : goal.invariant-loop-i
invariant-loop-i l = Seen l.text l.agree l.i
