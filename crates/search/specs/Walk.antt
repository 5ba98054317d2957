-- The walk of every query over a tree: what it reads, what it passes over, and what is damage.
--   Search S          a query whose state is an S: its five choices
--   Walk S            what a walk comes to: damage; or the state, the nodes visited and the distances worked out
--   scan n f c s l    from s, the points of the list l by f, at c distances each; one not below n is damage
--   visit             a node of some kind, given the walk of its children
--   walk t Q d v a e s  from s, node v, which is to cover a to e; the depth d bounds the way down, and e - a is enough
--   walk_all t Q s    from node 0 over all n entries
--   plain f s n       from s, the points 0 to n - 1 in turn by f, with no tree
--   Got S, outcome w  what a walk comes to, without the counts
--   Walks t Q v a e s g  at every depth that is enough the walk comes to g
use Rattle.std.specs.Prelude.{◌≡◌, List, [], ◌∷◌, Bool, cond, ℕ, zero, suc, ◌+◌, ◌-◌, ◌≤◌, ltb, length}
use Rattle.distance.specs.declared.Bounds.{Bounds}
use Rattle.tree.specs.Node.{bounds, kind, mid, part}
use Rattle.tree.specs.Accepted.{Tree, count}
use Rattle.tree.specs.declared.Kind.{Kind}
use Rattle.tree.specs.declared.Kind.TheVariants.{Leaf, Branch, Damaged}

-- When a node is passed over, with all below it; which child is visited first; what a point makes of the state once its
-- distance is worked out; which leaves are taken whole, and what a point of such a leaf makes of the state.
pub record Search (S : Type 0) : Type 0 where
  pub skip : S → Bounds → Bool
  pub left_first : Bounds → Bounds → Bool
  pub next : S → ℕ → S
  pub whole : Bounds → Bool
  pub add : S → ℕ → S

pub data Walk (S : Type 0) : Type 0 where
  damage : Walk S
  done : S → ℕ → ℕ → Walk S

module _ {S : Type 0} where
  -- so many nodes and distances more
  abbrev pub more : ℕ → ℕ → Walk S → Walk S
  more nodes dists damage = damage
  more nodes dists (done s n d) = done s (nodes + n) (dists + d)

  -- one walk, and another from where it ends
  abbrev pub and_then : Walk S → (S → Walk S) → Walk S
  and_then damage w = damage
  and_then (done s n d) w = more n d (w s)

  abbrev pub scan : ℕ → (S → ℕ → S) → ℕ → S → List ℕ → Walk S
  scan n f c s [] = done s 0 0
  scan n f c s (i ∷ is) = cond (ltb i n) (more 0 c (scan n f c (f s i) is)) damage

  -- the points of a leaf with the box b
  abbrev pub leaf_scan : ℕ → Search S → Bounds → S → List ℕ → Walk S
  leaf_scan n Q b s l = cond (Q.whole b) (scan n Q.add 0 s l) (scan n Q.next 1 s l)

  -- a damaged node is damage before anything else is asked of it
  abbrev pub visit : (t : Tree) (Q : Search S) → (ℕ → ℕ → ℕ → S → Walk S) → Kind → ℕ → ℕ → ℕ → S → Walk S
  visit t Q go Damaged v a e s = damage
  visit t Q go Leaf v a e s =
      cond (Q.skip s (bounds t.boxes v)) (done s 1 0)
      (more 1 0 (leaf_scan (count t) Q (bounds t.boxes v) s (part t.indices a e)))
  visit t Q go (Branch l r) v a e s =
      cond (Q.skip s (bounds t.boxes v)) (done s 1 0)
      (more 1 0
      (cond (Q.left_first (bounds t.boxes l) (bounds t.boxes r))
      (and_then (go l a (mid a e) s) (go r (mid a e) e))
      (and_then (go r (mid a e) e s) (go l a (mid a e)))))

  unfoldable pub walk : Tree → Search S → ℕ → ℕ → ℕ → ℕ → S → Walk S
  walk t Q zero v a e s = damage
  walk t Q (suc depth) v a e s = visit t Q (walk t Q depth) (kind t.boxes t.links v a e) v a e s

  -- an index slice of fewer than n entries is damage
  abbrev pub walk_all : Tree → Search S → S → Walk S
  walk_all t Q s = cond (ltb (length t.indices) (count t)) damage (walk t Q (count t) 0 0 (count t) s)

  abbrev pub plain : (S → ℕ → S) → S → ℕ → S
  plain f s zero = s
  plain f s (suc i) = f (plain f s i) i

pub data Got (S : Type 0) : Type 0 where
  broken : Got S
  got : S → Got S

abbrev pub outcome : {S : Type 0} → Walk S → Got S
outcome damage = broken
outcome (done s n d) = got s

abbrev pub Walks : {S : Type 0} → Tree → Search S → ℕ → ℕ → ℕ → S → Got S → Type 0
Walks t Q v a e s g = (depth : ℕ) → e - a ≤ depth → g ≡ outcome (walk t Q depth v a e s)
