-- `tree::count_both` meets its contract. The measure is c. Assumes nothing.
use Rattle.tree.proofs.+count_both.Given as goal

abbrev pub decreases-count_both : goal.decreases-count_both
decreases-count_both l = l.c
