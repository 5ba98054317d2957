-- `search::visit` meets its contract. The measure is the number of entries. Assumes nothing.
use Rattle.std.proofs.Common.{◌-◌}
use Rattle.search.proofs.+visit.Given as goal

abbrev pub decreases-visit : goal.decreases-visit
decreases-visit g l = l.end - l.start
