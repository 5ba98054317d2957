-- What a build leaves in the slices: one tree for one map, but for the order inside a leaf and the centres.
-- A subtree is told by the lists that it fills: its part of the indices, and six floats and four numbers for each of its
-- nodes. Its own node comes first, then the left subtree's nodes, then the right one's.
--   Tight points axis part lo hi  lo and hi are coordinates of the part's points, and by totalOrder none is below lo or above hi
--   Box points part own           own is six floats: a centre, which may be anything, and the tight box
--   axis_of own                   the axis to split on: X (0) where the box's X extent >= its Y extent, else Y (1)
--   Lower R xs ys                 every entry of xs ranks below every entry of ys
--   LeafNode, BranchNode          a node over at most `leaf` points, and one over more
--   Subtree points leaf node start part boxes links
--                                 the subtree whose first node is numbered `node` and whose part starts at `start`
--   Each n xs                     xs holds 0 to n - 1, each once, and nothing else
--   needed leaf_size points       N(n); leaf size 0 counts as 1
--   Built leaf_size t₀ t          t is what a build makes of t₀: the tree over its points; entries past n and N(n) as they were
use Rattle.std.specs.Prelude.{◌≡◌, ℕ, ◌+◌, ◌*◌, ◌/◌, ◌<◌, ◌≤◌, cond, List, [], ◌∷◌, ◌++◌, length, get_or, take, drop, ltb, Float}
use Rattle.std.specs.Float.{nan, binary64}
use Rattle.std.specs.Float.Ieee.{le, sub}
use Rattle.distance.specs.TotalOrder.{key}
use Rattle.tree.specs.Points.{size}
use Rattle.tree.specs.Count.{leaf_of, nodes}
use Rattle.tree.specs.Accepted.{Tree, count, times}
use Rattle.tree.specs.Entries.{◌∈◌}
use Rattle.select.specs.Order.{coord, key_at, rank}

pub record Tight (points : List Float) (axis : ℕ) (part : List ℕ) (lo hi : Float) : Type 0 where
  pub low : ℕ
  pub low_in : low ∈ part
  pub low_is : lo ≡ coord points axis low
  pub least : (v : ℕ) → v ∈ part → key lo ≤ key_at points axis v
  pub high : ℕ
  pub high_in : high ∈ part
  pub high_is : hi ≡ coord points axis high
  pub greatest : (v : ℕ) → v ∈ part → key_at points axis v ≤ key hi

pub record Box (points : List Float) (part : List ℕ) (own : List Float) : Type 0 where
  pub six : length own ≡ 6
  pub x : Tight points 0 part (get_or own 2 nan) (get_or own 3 nan)
  pub y : Tight points 1 part (get_or own 4 nan) (get_or own 5 nan)

abbrev pub axis_of : List Float → ℕ
axis_of own = cond (le (sub binary64 (get_or own 5 nan) (get_or own 4 nan)) (sub binary64 (get_or own 3 nan) (get_or own 2 nan))) 0 1

abbrev pub Lower : (ℕ → ℕ) → List ℕ → List ℕ → Type 0
Lower R xs ys = (v w : ℕ) → v ∈ xs → w ∈ ys → R v < R w

pub record LeafNode (points : List Float) (leaf start : ℕ) (part : List ℕ) (boxes : List Float) (links : List ℕ) : Type 0 where
  pub some : 0 < length part
  pub few : length part ≤ leaf
  pub box : Box points part boxes
  pub numbers : links ≡ start ∷ (start + length part) ∷ 0 ∷ 0 ∷ []

-- the part is l and then r, the floats are own and then those of the two subtrees, and so the numbers
pub record BranchNode (points : List Float) (leaf node start : ℕ) (part : List ℕ) (boxes : List Float) (links : List ℕ)
    (l r : List ℕ) (own lb rb : List Float) (ll rl : List ℕ) : Type 0 where
  pub many : leaf < length part
  pub parts : part ≡ l ++ r
  pub half : length l ≡ length part / 2
  pub lower : Lower (rank points (axis_of own)) l r
  pub box : Box points part own
  pub floats : boxes ≡ own ++ (lb ++ rb)
  pub numbers : links ≡ start ∷ (start + length part) ∷ (node + 1) ∷ (node + 1 + nodes leaf (length l)) ∷ (ll ++ rl)

pub data Subtree (points : List Float) (leaf : ℕ) : ℕ → ℕ → List ℕ → List Float → List ℕ → Type 0 where
  a_leaf : {node start : ℕ} {part : List ℕ} {boxes : List Float} {links : List ℕ}
      → LeafNode points leaf start part boxes links
      → Subtree points leaf node start part boxes links
  a_branch : {node start : ℕ} {part : List ℕ} {boxes : List Float} {links : List ℕ} (l r : List ℕ) (own lb rb : List Float) (ll rl : List ℕ)
      → BranchNode points leaf node start part boxes links l r own lb rb ll rl
      → Subtree points leaf (node + 1) start l lb ll
      → Subtree points leaf (node + 1 + nodes leaf (length l)) (start + length l) r rb rl
      → Subtree points leaf node start part boxes links

abbrev pub Each : ℕ → List ℕ → Type 0
Each n xs = (v : ℕ) → times v xs ≡ cond (ltb v n) 1 0

abbrev pub needed : ℕ → List Float → ℕ
needed leaf_size points = nodes (leaf_of leaf_size) (size points)

pub record Built (leaf_size : ℕ) (t₀ t : Tree) : Type 0 where
  pub points : t.points ≡ t₀.points
  pub each : Each (count t₀) (take (count t₀) t.indices)
  pub root : 0 < count t₀ → Subtree t₀.points (leaf_of leaf_size) 0 0 (take (count t₀) t.indices)
      (take (6 * needed leaf_size t₀.points) t.boxes) (take (4 * needed leaf_size t₀.points) t.links)
  pub indices_past : drop (count t₀) t.indices ≡ drop (count t₀) t₀.indices
  pub boxes_past : drop (6 * needed leaf_size t₀.points) t.boxes ≡ drop (6 * needed leaf_size t₀.points) t₀.boxes
  pub links_past : drop (4 * needed leaf_size t₀.points) t.links ≡ drop (4 * needed leaf_size t₀.points) t₀.links
