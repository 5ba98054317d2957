-- `root::guess` meets its contract: no pattern that it reads is a NaN's. Assumes nothing.
use native.Mathlib.Omega.{arith}
use Rattle.root.proofs.Floats.{pattern_no-nan}
use Rattle.root.proofs.guess.Goals as goal

pub float_from_bits-f : goal.float_from_bits-f
float_from_bits-f c = pattern_no-nan _ (omega arith)

pub float_from_bits-w : goal.float_from_bits-w
float_from_bits-w c = pattern_no-nan _ (omega arith)
