-- `search::take_roots` meets its contract. The invariant: the first i entries are roots. Assumes nothing.
use mathlib.Core.Path.{◌≡◌}
use lib.ListN.{length}
use Rattle.search.specs.Result.{Rooted}
use Rattle.search.proofs.take_roots.Given as goal

abbrev pub invariant-loop-i : goal.invariant-loop-i
invariant-loop-i l = (length l.squares ≡ length l.fn.squares) × Rooted l.i l.fn.squares l.squares
