-- `stream::feed_parts` meets its contract: a turn of the loop takes one record more. Assumes nothing.
use Rattle.std.proofs.Common.{refl, sym, ◌∙◌, arith, rules}
use Rattle.stream.specs.Feeding.{so_far}
use Rattle.stream.proofs.Turns.{begun, same_size, turn, done}
use Rattle.stream.proofs.feed_parts.Goals as goal

pub loop-lines-init : goal.loop-lines-init
loop-lines-init c =
    let a = c.args in
    record { fine = rw (c.new-lines.ensures.out, c.new-lines.ensures.at) (begun a.input.now a.from (so_far a.parts.now.points.now a.parts.now.count) a.out.now); ready = c.requires.ready; same_points = refl; same_indices = refl; same_boxes = refl; same_links = refl; same_reference = refl }

pub overflow_sub-lines : goal.overflow_sub-lines
overflow_sub-lines c =
    let a = c.args in
    let l = c.loop-lines in
    omega (arith, same_size a.input.now a.from (so_far a.parts.now.points.now a.parts.now.count) a.out.now l.invariant.fine, l.invariant.fine.room)

pub returns-then-not-goes_on : goal.returns-then-not-goes_on
returns-then-not-goes_on c =
    let a = c.args in
    let l = c.loop-lines in
    let d = done a.input.now a.from (so_far a.parts.now.points.now a.parts.now.count) a.out.now c.loop-lines.invariant.fine c.loop-lines-test.true (sym c.read_at.ensures ∙ c.in-Whole.is) c.take-goes_on.ensures.stepped c.if-not-goes_on.true in
    record {
      ready = c.take-goes_on.ensures.ready;
      fed = search rules;
      same_points = c.take-goes_on.ensures.same_points ∙ l.invariant.same_points;
      same_indices = c.take-goes_on.ensures.same_indices ∙ l.invariant.same_indices;
      same_boxes = c.take-goes_on.ensures.same_boxes ∙ l.invariant.same_boxes;
      same_links = c.take-goes_on.ensures.same_links ∙ l.invariant.same_links;
    }

pub loop-lines-preserved : goal.loop-lines-preserved
loop-lines-preserved c =
    let a = c.args in
    let l = c.loop-lines in
    record {
      fine = turn a.input.now a.from (so_far a.parts.now.points.now a.parts.now.count) a.out.now l.invariant.fine c.loop-lines-test.true (sym c.read_at.ensures ∙ c.in-Whole.is) c.take-goes_on.ensures.stepped c.if-not-goes_on.false;
      ready = c.take-goes_on.ensures.ready;
      same_points = c.take-goes_on.ensures.same_points ∙ l.invariant.same_points;
      same_indices = c.take-goes_on.ensures.same_indices ∙ l.invariant.same_indices;
      same_boxes = c.take-goes_on.ensures.same_boxes ∙ l.invariant.same_boxes;
      same_links = c.take-goes_on.ensures.same_links ∙ l.invariant.same_links;
      same_reference = c.take-goes_on.ensures.same_reference ∙ l.invariant.same_reference;
    }
