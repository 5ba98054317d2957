-- `tree::first_not_finite` meets its contract: all points before i are finite. Assumes nothing.
use Rattle.std.proofs.Common.{ℕ, ◌<◌}
use lib.Dec.{T}
use Rattle.tree.specs.Points.{finite_at}
use Rattle.tree.proofs.first_not_finite.Given as goal

abbrev pub invariant-loop-i : goal.invariant-loop-i
invariant-loop-i l = (j : ℕ) → j < l.i → T (finite_at l.points j)
