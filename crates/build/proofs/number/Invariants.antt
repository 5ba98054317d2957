-- `build::number` meets its contract: after i turns, 0 to i - 1 stand each once (`Numbering.antt`). Assumes nothing.
use Rattle.std.proofs.Common.{take}
use Rattle.build.specs.Built.{Each}
use Rattle.build.proofs.number.Given as goal

abbrev pub invariant-loop-i : goal.invariant-loop-i
invariant-loop-i l = Each l.i (take l.i l.part)
