-- `word` meets its contract: the loop's invariant is `Written` of `Text.antt`. Assumes nothing.
use Rattle.patterns.proofs.Text.{Written}
use Rattle.patterns.proofs.word.Given as goal

abbrev pub invariant-loop-c : goal.invariant-loop-c
invariant-loop-c l = Written l.text l.at l.v l.c-index
