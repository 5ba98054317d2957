-- `tree::count_nodes` meets its contract: none for no points, else the first of the two numbers. Assumes nothing.
use mathlib.Core.Path.{sym, ap, ◌∙◌}
use native.Mathlib.Nat.{pos_of_ne-zero}
use Rattle.tree.specs.Count.{nodes}
use Rattle.tree.proofs.Counting.{nodes-none}
use Rattle.tree.proofs.count_nodes.Goals as goal

pub returns-then-c-eq0 : goal.returns-then-c-eq0
returns-then-c-eq0 c = sym (ap (nodes c.args.leaf) c.if-c-eq0.true ∙ nodes-none c.args.leaf)

pub count_both-requires : goal.count_both-requires
count_both-requires c = (c.requires.0, pos_of_ne-zero c.if-c-eq0.false, c.requires.1)
