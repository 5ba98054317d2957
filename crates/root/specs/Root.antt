-- The square root of a binary64 float, rounded to the nearest float. Definitions only.
--   units x      the size of a finite float, in units of 2 ^ -1074
--   next r       the next float up from a finite r above zero
--   previous r   the next float down
--   Nearest x r  x lies strictly between the squares of the points halfway from r to its neighbours
--   Root x r     r is the square root of x
use Rattle.std.specs.Prelude.{◌≡◌, true, false, ℕ, zero, suc, ◌+◌, ◌-◌, ◌*◌, ◌/◌, ◌^◌, ◌<◌, T, Float}
use Rattle.std.specs.Float.{nan, inf, fin, binary64}
use Rattle.std.specs.Float.Ieee.{up, down, of_bits, to_bits}
use Rattle.std.specs.Float.Ieee.Positive.{positive}

-- 2 ^ -1074 is the least float above zero, and every finite float is a whole number of them.
unfoldable pub units : Float → ℕ
units nan = 0
units (inf s) = 0
units (fin s m e) = m * up e * 2 ^ 1074 / down e

-- Neighbours have patterns that are one apart.
unfoldable pub next : Float → Float
unfolding of_bits to_bits
next r = of_bits binary64 (to_bits binary64 r + 1)

unfoldable pub previous : Float → Float
unfolding of_bits to_bits
previous r = of_bits binary64 (to_bits binary64 r - 1)

-- x is units x / 2 ^ 1074, and the point halfway from p to q is (units p + units q) / 2 ^ 1075. So that whole numbers
-- are compared, both sides are multiplied by 2 ^ 2150.
pub record Nearest (x r : Float) : Type 0 where
  pub above : (units (previous r) + units r) * (units (previous r) + units r) < 4 * 2 ^ 1074 * units x
  pub below : 4 * 2 ^ 1074 * units x < (units r + units (next r)) * (units r + units (next r))

-- All NaNs are the one value `nan`; `fin s m e` is m * 2 ^ e, below zero where s is true.
unfoldable pub Root : Float → Float → Type 0
Root nan r = r ≡ nan
Root (inf true) r = r ≡ nan
Root (inf false) r = r ≡ inf false
Root (fin s zero e) r = r ≡ fin s zero e
Root (fin true (suc m) e) r = r ≡ nan
Root (fin false (suc m) e) r = T (positive r) × Nearest (fin false (suc m) e) r
