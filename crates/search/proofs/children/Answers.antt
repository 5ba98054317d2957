-- `search::children` meets its contract: a child has entries of its branch, and fewer. Assumes nothing.
use Rattle.std.proofs.Common.{rules}
use Rattle.search.specs.Turn.{Turned}
use Rattle.search.proofs.Turning.{shares}
use Rattle.search.proofs.children.Goals as goal
use Rattle.search.proofs.children.Goals.{then-not-is_nearer_first, else-not-is_nearer_first}

pub returns-clause-shares : goal.returns-clause-shares
returns-clause-shares g c =
    let a = c.args in
    let turned : Turned a.tree.now a.from (g.Q.Query.rules (g.Q.Query.fixed a.query.now)).nearer_first a.parent a.left a.right c.in_turn.result = search rules in
    shares a.tree.now a.from (g.Q.Query.rules (g.Q.Query.fixed a.query.now)).nearer_first a.parent a.left a.right _ c.requires turned
