-- `distance::far_end_sq` meets its contract: the branch that is taken is the one of the definition. Assumes nothing.
use Rattle.distance.specs.Distance.{sq, larger}
use Rattle.distance.proofs.far_end_sq.Goals as goal

pub returns-then-to_low-to_high : goal.returns-then-to_low-to_high
unfolding sq larger
returns-then-to_low-to_high c = rw c.if-to_low-to_high.true

pub returns-else-to_low-to_high : goal.returns-else-to_low-to_high
unfolding sq larger
returns-else-to_low-to_high c = rw c.if-to_low-to_high.false
