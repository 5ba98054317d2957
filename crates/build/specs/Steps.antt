-- What the inner functions of the build ask and leave. The promise of the build itself needs none of this.
--   Number x      x is no NaN
--   smaller a b   the lesser of two by the order of numbers; the greater is `larger`
--   Plain points axis part lo hi   lo and hi are coordinates of the part's points, and as a number none is below lo or above hi
--   PlainBox points part b         so are the ends of b on both axes
--   Settled points axis part end had sought r   r is `end`, unless its bits are `had` and a coordinate of the part's points has
--                 the bits `sought`: then r is such a coordinate
--   own_of b      the six floats of a node
--   Ready points part   a part to build over: it has entries, each a point and none twice; all points are finite
--   Room leaf node start count boxes links   room for the nodes over so many points, in slices of these lengths
--   Raised ..     the subtree over a part stands in the front of the two node slices; the rest of them is as it was
use Rattle.std.specs.Prelude.{◌≡◌, ℕ, ◌+◌, ◌*◌, ◌^◌, ◌<◌, ◌≤◌, cond, not, List, [], ◌∷◌, length, take, drop, T, Float}
use Rattle.std.specs.Float.{binary64}
use Rattle.std.specs.Float.Ieee.{is_nan, le, lt, to_bits}
use Rattle.distance.specs.declared.Bounds.{Bounds}
use Rattle.tree.specs.Points.{size, AllFinite}
use Rattle.tree.specs.Count.{nodes}
use Rattle.tree.specs.Accepted.{times}
use Rattle.tree.specs.Entries.{◌∈◌, Same, Within}
use Rattle.select.specs.Order.{coord}
use Rattle.build.specs.Built.{Subtree}

abbrev pub Number : Float → Type 0
Number x = T (not (is_nan x))

unfoldable pub smaller : Float → Float → Float
smaller a b = cond (lt b a) b a

pub record Plain (points : List Float) (axis : ℕ) (part : List ℕ) (lo hi : Float) : Type 0 where
  pub low : ℕ
  pub low_in : low ∈ part
  pub low_is : lo ≡ coord points axis low
  pub least : (v : ℕ) → v ∈ part → T (le lo (coord points axis v))
  pub high : ℕ
  pub high_in : high ∈ part
  pub high_is : hi ≡ coord points axis high
  pub greatest : (v : ℕ) → v ∈ part → T (le (coord points axis v) hi)

pub record PlainBox (points : List Float) (part : List ℕ) (b : Bounds) : Type 0 where
  pub x : Plain points 0 part b.min_x b.max_x
  pub y : Plain points 1 part b.min_y b.max_y

pub data Settled (points : List Float) (axis : ℕ) (part : List ℕ) (end : Float) (had sought : ℕ) : Float → Type 0 where
  kept : (to_bits binary64 end ≡ had → (v : ℕ) → v ∈ part → to_bits binary64 (coord points axis v) ≡ sought → ⊥)
      → Settled points axis part end had sought end
  turned : (v : ℕ) → to_bits binary64 end ≡ had → v ∈ part → to_bits binary64 (coord points axis v) ≡ sought
      → Settled points axis part end had sought (coord points axis v)

abbrev pub own_of : Bounds → List Float
own_of b = b.cx ∷ b.cy ∷ b.min_x ∷ b.max_x ∷ b.min_y ∷ b.max_y ∷ []

pub record Ready (points : List Float) (part : List ℕ) : Type 0 where
  pub all_finite : AllFinite points
  pub limit : size points < 2 ^ 32
  pub within : Within (size points) part
  pub once : (v : ℕ) → times v part ≤ 1
  pub some : 0 < length part

pub record Room (leaf node start count boxes links : ℕ) : Type 0 where
  pub one : 0 < leaf
  pub floats : 6 * nodes leaf count ≤ boxes
  pub numbers : 4 * nodes leaf count ≤ links
  pub node_fits : node + nodes leaf count < 2 ^ 32
  pub place_fits : start + count < 2 ^ 32

pub record Raised (points : List Float) (leaf node start : ℕ) (part₀ : List ℕ) (boxes₀ : List Float) (links₀ : List ℕ)
    (part : List ℕ) (boxes : List Float) (links : List ℕ) (r : ℕ) : Type 0 where
  pub number : r ≡ nodes leaf (length part₀)
  pub same : Same part part₀
  pub tree : Subtree points leaf node start part (take (6 * r) boxes) (take (4 * r) links)
  pub boxes_rest : drop (6 * r) boxes ≡ drop (6 * r) boxes₀
  pub links_rest : drop (4 * r) links ≡ drop (4 * r) links₀
