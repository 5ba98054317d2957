-- A node of a lent tree, with the entries that it is to cover.
--   node v a e    node v over the entries a to e
--   kind_of t n   what it is, at that place
--   part_of t n   the entries under it
use Rattle.std.specs.Prelude.{List, ℕ}
use Rattle.tree.specs.declared.Kind.{Kind}
use Rattle.tree.specs.declared.Node.{Node}
use Rattle.tree.specs.Node.{kind, part}
use Rattle.tree.specs.Accepted.{Tree}

abbrev pub node : ℕ → ℕ → ℕ → Node
node v a e = record { number = v; start = a; end = e }

abbrev pub kind_of : Tree → Node → Kind
kind_of t n = kind t.boxes t.links n.number n.start n.end

abbrev pub part_of : Tree → Node → List ℕ
part_of t n = part t.indices n.start n.end
