-- `root::cut_root` meets its contract. The first loop leaves no g that is too large, the second none that is too small:
-- `Squares.antt`. How good the guess is plays no part. Assumes nothing.
use Prim.Native.Nat.{◌-◌}
use native.Mathlib.Omega.{arith}
use Rattle.root.proofs.Squares.{some, fits, square_above}
use Rattle.root.proofs.cut_root.Goals as goal

pub overflow_mul-square : goal.overflow_mul-square
overflow_mul-square c = record { fits = omega (arith, fits c.args.first c.requires.guess) }

pub overflow_sub-g : goal.overflow_sub-g
overflow_sub-g c = let l = c.too_large in some c.args.a l.g (omega (arith, l.invariant.0, c.too_large-test.true))

pub overflow_mul-square-in-too_large : goal.overflow_mul-square-in-too_large
overflow_mul-square-in-too_large c = let l = c.too_large in record { fits = omega (arith, fits (l.g - 1) (omega (arith, l.invariant.1))) }

pub too_large-smaller : goal.too_large-smaller
too_large-smaller c = let l = c.too_large in omega (arith, some c.args.a l.g (omega (arith, l.invariant.0, c.too_large-test.true)))

pub overflow_mul-g : goal.overflow_mul-g
overflow_mul-g c = let l = c.loop-g in omega (arith, square_above l.g)
