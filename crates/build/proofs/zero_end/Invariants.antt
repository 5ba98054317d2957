-- `build::zero_end` meets its contract: after k turns none of the first k entries has the zero that is sought (`Plain.antt`).
-- Assumes nothing.
use Rattle.select.specs.Order.{offset}
use Rattle.build.proofs.Plain.{Missed}
use Rattle.build.proofs.zero_end.Given as goal

abbrev pub invariant-loop-entry : goal.invariant-loop-entry
invariant-loop-entry l = Missed l.points (offset l.axis) l.part l.sought l.entry-index
