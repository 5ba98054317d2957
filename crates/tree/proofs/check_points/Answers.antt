-- `tree::check_points` meets its contract: what the count was refused for, then the first point that is not finite.
-- Assumes nothing.
use Rattle.std.proofs.Common.{sym, ◌∙◌, arith}
use Rattle.std.proofs.lemmas.Result.{err_from_is_err_and}
use Rattle.tree.specs.Points.{not_finite, usable}
use Rattle.tree.proofs.NotFinite.{all_finite_of_first_bad}
use Rattle.tree.proofs.Checked.{counted-checks, counted-even, counted-small}
use Rattle.tree.proofs.check_points.Goals as goal

pub returns-in_err-check_count : goal.returns-in_err-check_count
returns-in_err-check_count c =
    let p = err_from_is_err_and c.from_residual.result c.from_residual.ensures.1 in
    rw (p.1, p.2) (counted-checks c.args.points.now _ (sym c.check_count.ensures ∙ c.in_err-check_count.was))

pub returns-in-Some : goal.returns-in-Some
returns-in-Some c =
    let u = sym c.check_count.ensures ∙ c.in_ok-check_count.was in
    not_finite (counted-even c.args.points.now u) (counted-small c.args.points.now u) (rw c.in-Some.is at c.first_not_finite.ensures.within) (rw c.in-Some.is at c.first_not_finite.ensures.least)

pub returns-in-None : goal.returns-in-None
returns-in-None c =
    let u = sym c.check_count.ensures ∙ c.in_ok-check_count.was in
    let f = rw c.in-None.is at c.first_not_finite.ensures.least in
    let e = counted-even c.args.points.now u in
    usable (record { even = e; in_limit = counted-small c.args.points.now u; all_finite = all_finite_of_first_bad c.args.points.now _ e f (omega arith) })
