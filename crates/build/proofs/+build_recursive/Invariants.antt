-- `build::build_recursive` meets its contract: a leaf by `leaf-done`, a branch from its two subtrees by `branch-done`
-- (`Step.antt`). The measure is the part's count. Assumes nothing.
use lib.ListN.{length}
use Rattle.build.proofs.+build_recursive.Given as goal

abbrev pub decreases-build_recursive : goal.decreases-build_recursive
decreases-build_recursive l = length l.part.now
