-- What inner functions cite of a branch: which child is visited first, and which entries each covers.
--   in_turn z l r    the children l and r; l comes first where z is true
--   first t q z l r  whether l comes first: where its centre is no farther from q, if z is true, else always
--   left_of n l      the child l as the left one of node n, and right_of n r the child r as the right one: each with its half
--   Turned t q z n l r T   T is the order of the children l and r of node n, and neither is damage
--   Shares t n T     both have entries of the node n, fewer than it has, and no more together; and neither is damage
--   OneDamaged t n l r     one of them is damage
use Rattle.std.specs.Prelude.{◌≡◌, ◌⊎◌, Bool, true, cond, ℕ, ◌+◌, ◌-◌, ◌<◌, ◌≤◌}
use Rattle.distance.specs.declared.Coord.{Coord}
use Rattle.tree.specs.declared.Node.{Node}
use Rattle.tree.specs.declared.Kind.TheVariants.{Damaged}
use Rattle.tree.specs.Node.{bounds, mid}
use Rattle.tree.specs.Inner.{sound}
use Rattle.tree.specs.Accepted.{Tree}
use Rattle.tree.specs.Lent.{node, kind_of}
use Rattle.search.specs.Order.{left_nearer}
use Rattle.search.specs.declared.Turn.{Turn}

abbrev pub in_turn : Bool → Node → Node → Turn
in_turn z l r = record {
  near = node (cond z l.number r.number) (cond z l.start r.start) (cond z l.end r.end);
  far = node (cond z r.number l.number) (cond z r.start l.start) (cond z r.end l.end);
}

abbrev pub first : Tree → Coord → Bool → ℕ → ℕ → Bool
first t q z l r = cond z (left_nearer q (bounds t.boxes l) (bounds t.boxes r)) true

abbrev pub left_of : Node → ℕ → Node
left_of n l = node l n.start (mid n.start n.end)

abbrev pub right_of : Node → ℕ → Node
right_of n r = node r (mid n.start n.end) n.end

pub record Turned (t : Tree) (q : Coord) (z : Bool) (n : Node) (l r : ℕ) (T : Turn) : Type 0 where
  pub turned : T ≡ in_turn (first t q z l r) (left_of n l) (right_of n r)
  pub left_sound : sound (kind_of t (left_of n l)) ≡ true
  pub right_sound : sound (kind_of t (right_of n r)) ≡ true

pub record Shares (t : Tree) (n : Node) (T : Turn) : Type 0 where
  pub near_some : T.near.start < T.near.end
  pub near_less : T.near.end - T.near.start < n.end - n.start
  pub near_sound : sound (kind_of t T.near) ≡ true
  pub far_some : T.far.start < T.far.end
  pub far_less : T.far.end - T.far.start < n.end - n.start
  pub far_sound : sound (kind_of t T.far) ≡ true
  pub no_more : (T.near.end - T.near.start) + (T.far.end - T.far.start) ≤ n.end - n.start

abbrev pub OneDamaged : Tree → Node → ℕ → ℕ → Type 0
OneDamaged t n l r = (kind_of t (left_of n l) ≡ Damaged) ⊎ (kind_of t (right_of n r) ≡ Damaged)
