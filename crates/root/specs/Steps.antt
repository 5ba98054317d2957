-- What the inner functions of the root ensure, over bit patterns and whole numbers. Definitions only.
--   half           2 ^ 26: a root's 53 digits are g * 2 ^ 26 + q
--   lead           2 ^ 52: the leading digit of a normal float, and the place of the exponent in a pattern
--   sign           2 ^ 63: the place of the sign
--   infinity       the pattern of the infinity above zero
--   val b          the size of the float of the pattern b, finite and not below zero, in units of 2 ^ -1074
--   CutRoot a g o  g is the root of a, cut to a whole number, and o is what is over
--   Rounds n r     r is the whole number nearest to the root of n, and has 53 digits
--   Splits b a h   the float of b, scaled, is a * 2 ^ 52 * (2 ^ h) ^ 2, and a has 53 or 54 digits
--   RootBits b r   r is the pattern of the root of b's float
use Rattle.std.specs.Prelude.{◌≡◌, cond, ℕ, ◌+◌, ◌-◌, ◌*◌, ◌/◌, ◌%◌, ◌^◌, ◌≤◌, ◌<◌, ltb}

abbrev pub half : ℕ
half = 0x400_0000

abbrev pub lead : ℕ
lead = 0x10_0000_0000_0000

abbrev pub sign : ℕ
sign = 0x8000_0000_0000_0000

abbrev pub infinity : ℕ
infinity = 0x7ff0_0000_0000_0000

unfoldable pub val : ℕ → ℕ
val b = cond (ltb b lead) b ((lead + b % lead) * 2 ^ (b / lead - 1))

-- a is at least the square of g, and below that of g + 1, which is g * g + 2 * g + 1.
pub record CutRoot (a g o : ℕ) : Type 0 where
  pub equal : g * g + o ≡ a
  pub small : o ≤ 2 * g

-- n lies between the squares of r - 1/2 and r + 1/2, which are r * r - r + 1/4 and r * r + r + 1/4.
pub record Rounds (n r : ℕ) : Type 0 where
  pub above : r * r < n + r
  pub below : n ≤ r * r + r
  pub low : lead ≤ r
  pub high : r < 2 * lead

-- The scale is 2 ^ 2148: 2 ^ 1074 by the units, and 2 ^ 1074 more.
pub record Splits (b a h : ℕ) : Type 0 where
  pub equal : val b * 2 ^ 1074 ≡ a * lead * (2 ^ h * 2 ^ h)
  pub low : lead ≤ a
  pub high : a < 4 * lead - 1
  pub h_low : 1 ≤ h
  pub h_high : h < 2000

-- The float of b lies between the squares of the points halfway from r's to its neighbours, whose patterns are r - 1
-- and r + 1. As in `Nearest`, both sides are multiplied by 2 ^ 2150.
pub record RootBits (b r : ℕ) : Type 0 where
  pub above : (val (r - 1) + val r) * (val (r - 1) + val r) < 4 * 2 ^ 1074 * val b
  pub below : 4 * 2 ^ 1074 * val b < (val r + val (r + 1)) * (val r + val (r + 1))
  pub low : lead < r
  pub high : r + lead < infinity
