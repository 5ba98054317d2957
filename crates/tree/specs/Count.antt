-- N(c), the number of nodes of a tree over c points.
--   leaf_of size          the leaf size that counts: 0 counts as 1
--   nodes_to depth leaf c one where c is at most a leaf's; else one more than those of the two halves, down to a depth
--   nodes leaf c          none for no points, else that, to a depth that is enough
--   node_count n size     the nodes that n points need at a leaf size; 0 where n is past the limit
-- That c is deep enough is shown by `nodes-leaf` and `nodes-branch` of proofs/Counting.
use Rattle.std.specs.Prelude.{cond, ℕ, zero, suc, ◌+◌, ◌-◌, ◌/◌, leb, ltb, eqb}
use Rattle.tree.specs.Points.{limit}

abbrev pub leaf_of : ℕ → ℕ
leaf_of size = cond (ltb 0 size) size 1

unfoldable pub nodes_to : ℕ → ℕ → ℕ → ℕ
nodes_to zero leaf c = 1
nodes_to (suc depth) leaf c = cond (leb c leaf) 1 (1 + nodes_to depth leaf (c / 2) + nodes_to depth leaf (c - c / 2))

unfoldable pub nodes : ℕ → ℕ → ℕ
nodes leaf c = cond (eqb c 0) 0 (nodes_to c leaf c)

abbrev pub node_count : ℕ → ℕ → ℕ
node_count n size = cond (leb n limit) (nodes (leaf_of size) n) 0
