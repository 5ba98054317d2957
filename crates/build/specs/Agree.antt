-- Two trees that are one but for what a build leaves free: the centres, and the order of the indices inside a leaf.
--   Held points            every coordinate is a value of an f64, as it is in every slice of them
--   SameBoxes bs cs        the floats of nodes, six each: equal, but for the centres
--   SameLeaves leaf xs ys  indices, halved down to leaves: each leaf of xs has the entries of the leaf of ys at its place
--   Agree leaf_size t u    the same points, links and rest of each slice; the floats of the nodes equal but for the centres,
--                          the indices but for the order inside a leaf
use Rattle.std.specs.Prelude.{◌≡◌, ℕ, ◌*◌, ◌/◌, ◌<◌, ◌≤◌, List, [], ◌∷◌, ◌++◌, length, get_or, take, drop, T, Float}
use Rattle.std.specs.Float.{nan, binary64}
use Rattle.std.specs.Float.Ieee.{fits}
use Rattle.tree.specs.Count.{leaf_of}
use Rattle.tree.specs.Accepted.{Tree, count}
use Rattle.tree.specs.Entries.{Same}
use Rattle.build.specs.Built.{needed}

abbrev pub Held : List Float → Type 0
Held points = (k : ℕ) → k < length points → T (fits binary64 (get_or points k nan))

pub data SameBoxes : List Float → List Float → Type 0 where
  no_box : SameBoxes [] []
  a_box : {cx cy cx' cy' min_x max_x min_y max_y : Float} {bs cs : List Float} → SameBoxes bs cs
      → SameBoxes (cx ∷ cy ∷ min_x ∷ max_x ∷ min_y ∷ max_y ∷ bs) (cx' ∷ cy' ∷ min_x ∷ max_x ∷ min_y ∷ max_y ∷ cs)

pub data SameLeaves (leaf : ℕ) : List ℕ → List ℕ → Type 0 where
  in_leaf : {xs ys : List ℕ} → length xs ≤ leaf → length xs ≡ length ys → Same xs ys → SameLeaves leaf xs ys
  in_halves : {l r l' r' xs ys : List ℕ} → leaf < length xs → xs ≡ l ++ r → ys ≡ l' ++ r' → length l ≡ length xs / 2 → length l' ≡ length l
      → SameLeaves leaf l l' → SameLeaves leaf r r' → SameLeaves leaf xs ys

pub record Agree (leaf_size : ℕ) (t u : Tree) : Type 0 where
  pub points : t.points ≡ u.points
  pub entries : SameLeaves (leaf_of leaf_size) (take (count t) t.indices) (take (count t) u.indices)
  pub entries_past : drop (count t) t.indices ≡ drop (count t) u.indices
  pub floats : SameBoxes (take (6 * needed leaf_size t.points) t.boxes) (take (6 * needed leaf_size t.points) u.boxes)
  pub floats_past : drop (6 * needed leaf_size t.points) t.boxes ≡ drop (6 * needed leaf_size t.points) u.boxes
  pub numbers : t.links ≡ u.links
