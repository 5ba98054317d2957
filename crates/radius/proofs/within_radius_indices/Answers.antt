-- `radius::within_radius_indices` meets its contract: each test is the definition's, in the same order. Assumes nothing.
use Rattle.std.proofs.Common.{List, sym, ap, ◌∙◌}
use lib.Ieee.{Float}
use Rattle.search.specs.Refusal.{checked}
use borrow.Author.Tests.{eqb-false}
use Rattle.distance.specs.Distance.{sq}
use Rattle.search.proofs.Unrefused.{checked-ok}
use Rattle.radius.proofs.Answers.{reply-walk, answered_as}
use Rattle.radius.proofs.within_radius_indices.Goals as goal

pub returns : goal.returns
unfolding sq
returns c =
    let a = c.args in
    answered_as (reply-walk a.tree.now a.place a.radius (checked-ok a.tree.now.points a.place _ (ap (λ (l : List Float). checked l a.place) (sym c.points.ensures) ∙ sym c.check_place.ensures ∙ c.in_ok-check_place.was)) c.if-not-radius.false (eqb-false _ _ (sym c.if-is_empty.ensures))) c.collect.ensures
