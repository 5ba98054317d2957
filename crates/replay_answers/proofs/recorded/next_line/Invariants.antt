-- `next_line` has met no line that begins. Assumes nothing.
use Rattle.std.proofs.Common.{◌≡◌, false, ℕ, ◌<◌}
use Rattle.replay_answers.specs.Lines.{begins}
use Rattle.replay_answers.proofs.recorded.next_line.Given as goal

abbrev pub invariant-bytes : goal.invariant-bytes
invariant-bytes l = (k : ℕ) → l.fn.at < k → k < l.i → begins l.text k ≡ false
