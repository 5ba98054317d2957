-- `tree::node_count` meets its contract; what it counts is below twice n, so it is a u32. Assumes nothing.
use mathlib.Core.Path.{◌≡◌, sym, ap, ◌∙◌, subst}
use Prim.Native.Nat.{ℕ, ◌<◌}
use Rattle.tree.specs.Count.{leaf_of, nodes}
use Rattle.tree.proofs.Counting.{leaf_of-pos, nodes-small}
use borrow.Author.Tests.{le-leb, lt-leb}
use native.Mathlib.Omega.{arith}
use Rattle.tree.proofs.node_count.Goals as goal
use Rattle.tree.proofs.node_count.Goals.{After-count_nodes}

pub returns-then-n-gt-MAX_POINTS : goal.returns-then-n-gt-MAX_POINTS
returns-then-n-gt-MAX_POINTS c = rw (lt-leb _ _ c.if-n-gt-MAX_POINTS.true)

pub count_nodes-requires : goal.count_nodes-requires
count_nodes-requires c = (subst (λ (z : ℕ). 0 < z) (sym c.leaf_of.ensures) (leaf_of-pos c.args.leaf_size), c.if-n-gt-MAX_POINTS.false)

counted : (c : After-count_nodes) → c.count_nodes.result ≡ nodes (leaf_of c.args.leaf_size) c.args.n
counted c = c.count_nodes.ensures ∙ ap (λ (z : ℕ). nodes z c.args.n) c.leaf_of.ensures

pub overflow_cast-result : goal.overflow_cast-result
overflow_cast-result c =
    let a = c.args in
    omega (arith, counted (goal.at.overflow_cast-result c).After-count_nodes, nodes-small (leaf_of a.leaf_size) a.n (leaf_of-pos a.leaf_size) c.if-n-gt-MAX_POINTS.false)

pub returns : goal.returns
returns c = rw (le-leb _ _ c.if-n-gt-MAX_POINTS.false) (counted (goal.at.returns c).After-count_nodes)
