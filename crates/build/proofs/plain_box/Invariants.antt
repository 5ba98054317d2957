-- `build::plain_box` meets its contract: after k turns the ends are those of the first k + 1 entries by the order of numbers
-- (`Plain.antt`). Assumes nothing.
use Rattle.std.proofs.Common.{◌+◌}
use Rattle.build.proofs.Plain.{Looked}
use Rattle.build.proofs.plain_box.Given as goal

abbrev pub invariant-loop-entry : goal.invariant-loop-entry
invariant-loop-entry l = Looked l.points l.part (l.entry-index + 1) l.x0 l.x1 l.y0 l.y1
