-- `replay` counts the lines before the place that it has come to. Assumes nothing.
use Rattle.replay_answers.specs.Lines.{Tallied}
use Rattle.replay_answers.proofs.answers.replay.Given as goal

abbrev pub invariant-lines : goal.invariant-lines
invariant-lines l = Tallied l.text l.at l.tally
