-- `accept::check_tree` meets its contract: refused for its points, accepted, or damaged. Assumes nothing.
use Rattle.std.proofs.Common.{sym, ◌∙◌}
use mathlib.Core.Logic.{inl, inr}
use borrow.Author.Tests.{eqb-true, eqb-false}
use Rattle.std.proofs.lemmas.Result.{err_from_is_err_and}
use Rattle.accept.proofs.Entry.{answered-points, usable_points, answered-accepted, answered-damaged}
use Rattle.accept.proofs.check_tree.Goals as goal
use Rattle.accept.proofs.check_tree.Goals.{then-is_empty, else-is_empty}

pub returns-in_err-check_points : goal.returns-in_err-check_points
returns-in_err-check_points c =
    let p = err_from_is_err_and c.from_residual.result c.from_residual.ensures.1 in
    let a = answered-points c.args.tree.now _ (rw (c.points.ensures, c.in_err-check_points.was) at c.check_points.ensures) in
    rw (p.1, p.2) (record { lowest = a.lowest; accepted = a.accepted })

pub returns-then-is_grown : goal.returns-then-is_grown
returns-then-is_grown c =
    let u = usable_points c.args.tree.now _ (rw (c.points.ensures, c.in_ok-check_points.was) at c.check_points.ensures) in
    let a = answered-accepted c.args.tree.now u (elim c.if-is_empty.branch [
      | then-is_empty w ↦ inl (eqb-true _ _ (sym w.if-is_empty.ensures))
      | else-is_empty w ↦ inr (w.is_grown.ensures.0 (sym w.value-is ∙ c.if-is_grown.true))
    ]) in
    record { lowest = a.lowest; accepted = a.accepted }

pub returns-else-is_grown : goal.returns-else-is_grown
returns-else-is_grown c =
    let u = usable_points c.args.tree.now _ (rw (c.points.ensures, c.in_ok-check_points.was) at c.check_points.ensures) in
    let a = answered-damaged c.args.tree.now u (λ g. elim c.if-is_empty.branch [
      | then-is_empty w ↦ absurd cc
      | else-is_empty w ↦ elim g [ inl z ↦ eqb-false _ _ (sym w.if-is_empty.ensures) z | inr g ↦ let h = w.is_grown.ensures.1 g in absurd cc ]
    ]) in
    record { lowest = a.lowest; accepted = a.accepted }
