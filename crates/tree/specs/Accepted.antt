-- The trees that are accepted, whoever made them.
--   Tree               what a query is lent: points, indices, boxes, links
--   tree p i b l       the same from four lists
--   count t            n
--   point t i          the place of point i, where i is below n
--   Finite b           the four ends of the box are finite
--   Holds b px py      the box holds the point, ends included, by numeric order
--   Boxed t b a e      there is an entry from a to e, b is finite, and it holds the point of each of them
--   Sound t v a e      node v covers a to e, it is boxed, and so, halved, is all below it
--   times i l          how often i stands in l
--   Grown t            n indices, 0 to n - 1 each once, and node 0 is sound over all of them
--   Accepted t         points even in length, in limit and finite; and none of them, or Grown
-- Centres are asked nothing.
use Rattle.std.specs.Prelude.{◌≡◌, ◌⊎◌, List, [], ◌∷◌, cond, ℕ, ◌+◌, ◌%◌, ◌≤◌, ◌<◌, T, eqb, ltb, Option, Some, None, length, get_or, take, Float}
use Rattle.std.specs.Float.Ieee.{le}
use Rattle.std.specs.Float.Ieee.Scale.{finite}
use Rattle.distance.specs.declared.Bounds.{Bounds}
use Rattle.distance.specs.declared.Coord.{Coord}
use Rattle.tree.specs.declared.Kind.TheVariants.{Leaf, Branch}
use Rattle.tree.specs.Points.{limit, size, x, y, AllFinite}
use Rattle.tree.specs.Node.{bounds, kind, mid}

pub record Tree : Type 0 where
  pub points : List Float
  pub indices : List ℕ
  pub boxes : List Float
  pub links : List ℕ

abbrev pub tree : List Float → List ℕ → List Float → List ℕ → Tree
tree points indices boxes links = record { points = points; indices = indices; boxes = boxes; links = links }

abbrev pub count : Tree → ℕ
count t = size t.points

abbrev pub point : Tree → ℕ → Option Coord
point t i = cond (ltb i (count t)) (Some (record { x = x t.points i; y = y t.points i })) None

pub record Finite (b : Bounds) : Type 0 where
  pub min_x : T (finite b.min_x)
  pub max_x : T (finite b.max_x)
  pub min_y : T (finite b.min_y)
  pub max_y : T (finite b.max_y)

pub record Holds (b : Bounds) (px py : Float) : Type 0 where
  pub above_x : T (le b.min_x px)
  pub below_x : T (le px b.max_x)
  pub above_y : T (le b.min_y py)
  pub below_y : T (le py b.max_y)

pub record Boxed (t : Tree) (b : Bounds) (a e : ℕ) : Type 0 where
  pub some : a < e
  pub closed : Finite b
  pub holds : (k : ℕ) → a ≤ k → k < e → Holds b (x t.points (get_or t.indices k 0)) (y t.points (get_or t.indices k 0))

pub data Sound (t : Tree) : ℕ → ℕ → ℕ → Type 0 where
  leaf : {v a e : ℕ} → Boxed t (bounds t.boxes v) a e → kind t.boxes t.links v a e ≡ Leaf → Sound t v a e
  branch : {v a e : ℕ} (l r : ℕ) → Boxed t (bounds t.boxes v) a e → kind t.boxes t.links v a e ≡ Branch l r
      → Sound t l a (mid a e) → Sound t r (mid a e) e → Sound t v a e

abbrev pub times : ℕ → List ℕ → ℕ
times i [] = 0
times i (j ∷ js) = cond (eqb i j) 1 0 + times i js

pub record Grown (t : Tree) : Type 0 where
  pub room : count t ≤ length t.indices
  pub below : (k : ℕ) → k < count t → get_or t.indices k 0 < count t
  pub once : (i : ℕ) → i < count t → times i (take (count t) t.indices) ≡ 1
  pub root : Sound t 0 0 (count t)

pub record Accepted (t : Tree) : Type 0 where
  pub even : length t.points % 2 ≡ 0
  pub in_limit : count t ≤ limit
  pub all_finite : AllFinite t.points
  pub tree : (count t ≡ 0) ⊎ Grown t
