-- `accept::check_part` meets its contract. The measure is the number of entries. Assumes nothing.
use Rattle.std.proofs.Common.{◌-◌}
use Rattle.accept.proofs.+check_part.Given as goal

abbrev pub decreases-check_part : goal.decreases-check_part
decreases-check_part l = l.node.end - l.node.start
