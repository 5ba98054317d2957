-- `tree::float_at` meets its contract; past the end, 0 / 0 is the NaN. Assumes nothing.
use mathlib.Core.Path.{sym}
use lib.Ieee.{nan, div, of_bits}
use lib.ListN.{get_or-eq_default}
use Rattle.tree.proofs.float_at.Goals as goal

pub returns-else-i-s : goal.returns-else-i-s
unfolding div of_bits
returns-else-i-s c = sym (get_or-eq_default c.args.s.now nan c.if-i-s.false)
