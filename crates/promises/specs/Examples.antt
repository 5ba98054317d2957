-- The worked examples that are proved, in one table with one statement.
--   Example        an input of a query, of the labels or of the root, and what it comes to
--   Holds e        the definitions say so: the scans, the labels' definition, the root's
--   Each es        every example of a list holds
--   examples       the table
use Rattle.std.specs.Prelude.{◌≡◌, List, [], ◌∷◌, ℕ, Float}
use Rattle.std.specs.Float.{binary64}
use Rattle.std.specs.Float.Ieee.{of_bits}
use Rattle.distance.specs.Distance.{sq}
use Rattle.distance.specs.declared.Coord.{Coord}
use Rattle.root.specs.Root.{Root}
use Rattle.tree.specs.Points.{size}
use Rattle.tree.specs.Accepted.{tree}
use Rattle.search.specs.Walk.{plain}
use Rattle.search.specs.Result.{Roots, indices_of, squares_of}
use Rattle.search.specs.Order.{at}
use Rattle.nearest.specs.Nearest.{near_scan, told, Says}
use Rattle.nearest.specs.declared.Nearest.TheVariants.{Hit}
use Rattle.k_nearest.specs.Scan.{nearest_k}
use Rattle.radius.specs.Within.{within}
use Rattle.labels.specs.Labels as l
use Rattle.labels.specs.Labels.{noise, Labelled}

pub data Example : Type 0 where
  -- points, the place, the index and the distance
  nearest : List Float → Coord → ℕ → Float → Example
  -- points, the place, k, the indices and the distances
  first : List Float → Coord → ℕ → List ℕ → List Float → Example
  -- points, the place, the radius, the indices
  inside : List Float → Coord → Float → List ℕ → Example
  -- points, epsilon, min_samples, the labels
  labels : List Float → Float → ℕ → List ℕ → Example
  -- a number and its root
  root : Float → Float → Example

abbrev pub Holds : Example → Type 0
Holds (nearest points q index distance) = Says (near_scan (tree points [] [] []) q) (told (Hit index distance))
Holds (first points q k indices distances) = (indices_of (nearest_k k points q) ≡ indices) × Roots (squares_of (nearest_k k points q)) distances
Holds (inside points q radius indices) = plain (within points q (sq radius)).next [] (size points) ≡ indices
Holds (labels points epsilon samples list) = Labelled (l.near points epsilon) (size points) samples list
Holds (root x r) = Root x r

abbrev pub Each : List Example → Type 0
Each [] = Unit
Each (e ∷ es) = Holds e × Each es

-- ---- the numbers that occur
abbrev f : ℕ → Float
f bits = of_bits binary64 bits

abbrev zero : Float
zero = f 0

abbrev one : Float
one = f 0x3ff0_0000_0000_0000

abbrev one_and_half : Float
one_and_half = f 0x3ff8_0000_0000_0000

abbrev two : Float
two = f 0x4000_0000_0000_0000

abbrev two_and_half : Float
two_and_half = f 0x4004_0000_0000_0000

abbrev three : Float
three = f 0x4008_0000_0000_0000

abbrev four : Float
four = f 0x4010_0000_0000_0000

abbrev six : Float
six = f 0x4018_0000_0000_0000

abbrev eight : Float
eight = f 0x4020_0000_0000_0000

abbrev ten : Float
ten = f 0x4024_0000_0000_0000

abbrev eleven : Float
eleven = f 0x4026_0000_0000_0000

abbrev hundred : Float
hundred = f 0x4059_0000_0000_0000

abbrev minus_one : Float
minus_one = f 0xbff0_0000_0000_0000

abbrev minus_one_and_half : Float
minus_one_and_half = f 0xbff8_0000_0000_0000

abbrev minus_two : Float
minus_two = f 0xc000_0000_0000_0000

abbrev minus_three : Float
minus_three = f 0xc008_0000_0000_0000

-- the root of 52
abbrev to_corner : Float
to_corner = f 0x401c_d82b_4461_59f3

-- ---- the table
-- (0,0) (3,4) (6,8) (-3,4)
abbrev pub Q : List Float
Q = zero ∷ zero ∷ three ∷ four ∷ six ∷ eight ∷ minus_three ∷ four ∷ []

abbrev pub examples : List Example
examples =
    nearest Q (at zero four) 1 three
    ∷ first Q (at zero four) 3 (1 ∷ 3 ∷ 0 ∷ []) (three ∷ three ∷ four ∷ [])
    ∷ first Q (at zero four) 9 (1 ∷ 3 ∷ 0 ∷ 2 ∷ []) (three ∷ three ∷ four ∷ to_corner ∷ [])
    ∷ inside Q (at zero four) three (1 ∷ 3 ∷ [])
    ∷ inside Q (at zero four) two_and_half []
    ∷ inside Q (at three four) zero (1 ∷ [])
    ∷ labels (zero ∷ zero ∷ one ∷ zero ∷ zero ∷ one ∷ ten ∷ ten ∷ eleven ∷ ten ∷ ten ∷ eleven ∷ []) two 2 (0 ∷ 0 ∷ 0 ∷ 1 ∷ 1 ∷ 1 ∷ [])
    ∷ labels (zero ∷ zero ∷ one ∷ zero ∷ zero ∷ one ∷ hundred ∷ hundred ∷ []) two 2 (0 ∷ 0 ∷ 0 ∷ noise ∷ [])
    ∷ labels (zero ∷ zero ∷ one ∷ zero ∷ one_and_half ∷ zero ∷ two ∷ zero ∷ minus_one ∷ zero ∷ minus_one_and_half ∷ zero ∷ minus_two ∷ zero ∷ [])
    one 4 (0 ∷ 0 ∷ 0 ∷ 0 ∷ 1 ∷ 1 ∷ 1 ∷ [])
    ∷ root four two
    ∷ root two (f 0x3ff6_a09e_667f_3bcd)
    ∷ []
