-- `accept::check_part` meets its contract, way by way. Assumes nothing.
use Rattle.std.proofs.Common.{sym, ◌∙◌}
use Rattle.accept.proofs.Nodes.{Found, found-damaged, found-left, found-right, found-leaf, found-branch, kind-leaf}
use Rattle.accept.proofs.+check_part.Goals as goal
use Rattle.accept.proofs.+check_part.Goals.{After-check_part, After-check_part-2}

-- what the calls for the two halves have found
found_low : (t : _) (c : After-check_part t) → Found c.args.tree.now c.left.result c.check_part.result
found_low t c = record { sound = c.check_part.ensures.sound; tight = c.check_part.ensures.tight }

found_high : (t : _) (c : After-check_part-2 t) → Found c.args.tree.now c.right.result c.check_part-2.result
found_high t c = record { sound = c.check_part-2.ensures.sound; tight = c.check_part-2.ensures.tight }

pub returns-in-Damaged : goal.returns-in-Damaged
returns-in-Damaged t c =
    let f = found-damaged c.args.tree.now c.args.node (sym c.kind-kind.ensures ∙ c.in-Damaged.is) in
    record { sound = f.sound; tight = f.tight }

pub returns-in_default-kind : goal.returns-in_default-kind
returns-in_default-kind t c =
    let k = sym c.kind-kind.ensures ∙ kind-leaf c.kind-kind.result c.in_default.not-Damaged c.in_default-kind.not-Branch in
    let f = found-leaf c.args.tree.now c.args.node k c.of_leaf.result c.of_leaf.ensures in
    rw (c.inside.ensures, c.bounds-bounds.ensures) (record { sound = f.sound; tight = f.tight })

pub returns-in_err-low : goal.returns-in_err-low
returns-in_err-low t c =
    let k = sym c.kind-kind.ensures ∙ c.in-Branch.is in
    let f = found-left c.args.tree.now c.args.node _ _ k _ c.check_part.result c.in_err-low.was (rw c.left.ensures at (found_low t (goal.at.returns-in_err-low t c).After-check_part)) in
    rw c.from_residual.ensures (record { sound = f.sound; tight = f.tight })

pub returns-in_err-high : goal.returns-in_err-high
returns-in_err-high t c =
    let k = sym c.kind-kind.ensures ∙ c.in-Branch.is in
    let f = found-right c.args.tree.now c.args.node _ _ k c.check_part.result _ c.in_err-high.was (rw c.right.ensures at (found_high t (goal.at.returns-in_err-high t c).After-check_part-2)) in
    rw c.from_residual-in_err-high.ensures (record { sound = f.sound; tight = f.tight })

pub returns : goal.returns
returns t c =
    let k = sym c.kind-kind.ensures ∙ c.in-Branch.is in
    let p = rw c.left.ensures at (found_low t (goal.at.returns t c).After-check_part) in
    let q = rw c.right.ensures at (found_high t (goal.at.returns t c).After-check_part-2) in
    let f = found-branch c.args.tree.now c.args.node _ _ k _ _ c.requires.ready c.requires.within _ _ c.in_ok-low.was c.in_ok-high.was p q in
    rw (c.inside-2.ensures, c.joined.ensures, c.bounds-bounds.ensures) (record { sound = f.sound; tight = f.tight })
