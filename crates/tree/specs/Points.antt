-- Points: x and y in turn in one list of floats.
--   limit              the most points there may be
--   size points        n, half the list's length
--   x points i         the first coordinate of point i; a NaN past the end
--   y points i         the second
--   finite_at points i point i has two finite coordinates
--   AllFinite points   so has every point
--   FirstBad points r  r is the least index of a point that is not finite; n where there is none
--   found_at points r  what a search for such a point found: its index, or n
--   Usable points      even in length, in limit and finite
--   counted points     the first of the refusals 1 and 2 that applies, or none
--   Checks points r    r is the first of the refusals 1, 2 and 3 that applies, or there is none and the points are usable
use Rattle.std.specs.Prelude.{◌≡◌, Bool, ◌&&◌, false, cond, List, ℕ, ◌+◌, ◌*◌, ◌/◌, ◌%◌, ◌≤◌, ◌<◌, T, eqb, ltb, length, get_or, Float, Option, Some, None, Result, Ok, Err}
use Rattle.std.specs.Float.{nan}
use Rattle.std.specs.Float.Ieee.Scale.{finite}
use Rattle.refusal.specs.declared.Refusal.{Refusal}
use Rattle.refusal.specs.declared.Refusal.TheVariants.{OddCoordinates, TooManyPoints, PointNotFinite}

abbrev pub limit : ℕ
limit = 1_048_576

abbrev pub size : List Float → ℕ
size points = length points / 2

abbrev pub x : List Float → ℕ → Float
x points i = get_or points (2 * i) nan

abbrev pub y : List Float → ℕ → Float
y points i = get_or points (2 * i + 1) nan

abbrev pub finite_at : List Float → ℕ → Bool
finite_at points i = finite (x points i) && finite (y points i)

abbrev pub AllFinite : List Float → Type 0
AllFinite points = (k : ℕ) → k < length points → T (finite (get_or points k nan))

pub record FirstBad (points : List Float) (r : ℕ) : Type 0 where
  pub within : r ≤ size points
  pub before : (i : ℕ) → i < r → T (finite_at points i)
  pub there : r < size points → finite_at points r ≡ false

abbrev pub found_at : List Float → Option ℕ → ℕ
found_at points (Some i) = i
found_at points None = size points

pub record Usable (points : List Float) : Type 0 where
  pub even : length points % 2 ≡ 0
  pub in_limit : size points ≤ limit
  pub all_finite : AllFinite points

abbrev pub counted : List Float → Result Unit Refusal
counted points =
    cond (eqb (length points % 2) 1) (Err OddCoordinates)
    (cond (ltb limit (size points)) (Err TooManyPoints) (Ok tt))

pub data Checks (points : List Float) : Result Unit Refusal → Type 0 where
  odd : length points % 2 ≡ 1 → Checks points (Err OddCoordinates)
  many : length points % 2 ≡ 0 → limit < size points → Checks points (Err TooManyPoints)
  not_finite : {i : ℕ} → length points % 2 ≡ 0 → size points ≤ limit → i < size points → FirstBad points i → Checks points (Err (PointNotFinite i))
  usable : Usable points → Checks points (Ok tt)
