-- `root::cut_root` meets its contract. The first loop leaves no g that is too large, the second none that is too small:
-- `Squares.antt`. How good the guess is plays no part. Assumes nothing.
use mathlib.Core.Path.{◌≡◌}
use Prim.Native.Nat.{◌-◌, ◌*◌, ◌≤◌, ◌<◌}
use Rattle.root.specs.Steps.{half}
use Rattle.root.proofs.cut_root.Given as goal

abbrev pub invariant-too_large : goal.invariant-too_large
invariant-too_large l = (l.square ≡ l.g * l.g) × (l.g < 4 * half)

abbrev pub decreases-too_large : goal.decreases-too_large
decreases-too_large l = l.g

abbrev pub invariant-loop-g : goal.invariant-loop-g
invariant-loop-g l = (l.square ≡ l.g * l.g) × (l.square ≤ l.a)

abbrev pub decreases-loop-g : goal.decreases-loop-g
decreases-loop-g l = l.a - l.square
