-- `nearest::nearest_neighbour` meets its contract, way by way. Assumes nothing.
use Rattle.std.proofs.Common.{sym, ◌∙◌}
use Rattle.std.specs.Float.Ieee.{of_bits}
use borrow.Author.Tests.{eqb-true, eqb-false}
use Rattle.search.proofs.Unrefused.{checked-ok, checked-err}
use Rattle.nearest.proofs.Entry.{answers-refused, answers-empty, answers-damaged, answers-found}
use Rattle.nearest.proofs.nearest_neighbour.Goals as goal

pub returns-in-Err : goal.returns-in-Err
returns-in-Err c =
    let a = c.args in
    answers-refused a.tree.now a.place _ (checked-err a.tree.now.points a.place _ (rw c.points.ensures at (sym c.check_place.ensures ∙ c.in-Err.is)))

pub returns-then-is_empty : goal.returns-then-is_empty
returns-then-is_empty c =
    let a = c.args in
    let ok = checked-ok a.tree.now.points a.place _ (rw c.points.ensures at (sym c.check_place.ensures ∙ c.in_default.is)) in
    answers-empty a.tree.now a.place ok (eqb-true _ _ (sym c.is_empty.ensures ∙ c.if-is_empty.true))

pub returns-in-Ok : goal.returns-in-Ok
unfolding of_bits
returns-in-Ok c =
    let a = c.args in
    let ok = checked-ok a.tree.now.points a.place _ (rw c.points.ensures at (sym c.check_place.ensures ∙ c.in_default.is)) in
    answers-found a.tree.now a.place ok (eqb-false _ _ (sym c.is_empty.ensures ∙ c.if-is_empty.false)) _ (rw c.in-Ok.is at c.walk.ensures.walks) _ c.square_root.ensures

pub returns-in-Err-walk : goal.returns-in-Err-walk
unfolding of_bits
returns-in-Err-walk c =
    let a = c.args in
    let ok = checked-ok a.tree.now.points a.place _ (rw c.points.ensures at (sym c.check_place.ensures ∙ c.in_default.is)) in
    answers-damaged a.tree.now a.place ok (eqb-false _ _ (sym c.is_empty.ensures ∙ c.if-is_empty.false)) (rw c.in-Err-walk.is at c.walk.ensures.walks)
