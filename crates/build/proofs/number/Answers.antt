-- `build::number` meets its contract: after i turns, 0 to i - 1 stand each once (`Numbering.antt`). Assumes nothing.
use Rattle.std.proofs.Common.{arith}
use Rattle.build.proofs.Numbering.{each_more}
use Rattle.build.proofs.number.Goals as goal

pub loop-i-preserved : goal.loop-i-preserved
loop-i-preserved c = each_more c.loop-i.i c.loop-i.part (omega (arith, c.loop-i.auto.part, c.loop-i-test.true)) c.loop-i.invariant
