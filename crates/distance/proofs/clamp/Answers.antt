-- `distance::clamp` meets its contract: the branch that is taken is the one of the definition. Assumes nothing.
use Rattle.distance.specs.Distance.{clamp}
use Rattle.distance.proofs.clamp.Goals as goal

pub returns-then-q-low : goal.returns-then-q-low
unfolding clamp
returns-then-q-low c = rw c.if-q-low.true

pub returns-then-high-q : goal.returns-then-high-q
unfolding clamp
returns-then-high-q c = rw (c.if-q-low.false, c.if-high-q.true)

pub returns-else-high-q : goal.returns-else-high-q
unfolding clamp
returns-else-high-q c = rw (c.if-q-low.false, c.if-high-q.false)
