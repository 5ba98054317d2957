-- `build::zero_end` meets its contract: after k turns none of the first k entries has the zero that is sought (`Plain.antt`).
-- Assumes nothing.
use Rattle.std.proofs.Common.{arith}
use Rattle.select.specs.Order.{offset}
use Rattle.select.proofs.Ranks.{known-number, offset_two}
use Rattle.tree.proofs.Entries.{has_at}
use Rattle.build.proofs.Boxes.{ready_index}
use Rattle.build.proofs.Plain.{missed_all}
use Rattle.build.specs.Steps.{kept, turned}
use Rattle.build.proofs.zero_end.Goals as goal

pub returns-then-end-had : goal.returns-then-end-had
returns-then-end-had c = kept (λ e. absurd (c.if-end-had.true e))

pub float_to_bits-x : goal.float_to_bits-x
float_to_bits-x c =
    let i = ready_index c.args.points.now c.args.part.now c.requires.ready c.loop-entry.entry-index c.loop-entry-test.true in
    known-number c.args.points.now c.offset.result _ (omega (arith, c.offset.ensures, offset_two c.args.axis)) (record { all_finite = c.requires.ready.all_finite; inside = i })

pub returns-then-x-sought : goal.returns-then-x-sought
returns-then-x-sought c =
    rw c.offset.ensures (turned _ c.if-end-had.false (has_at c.args.part.now c.loop-entry.entry-index c.loop-entry-test.true) (rw c.offset.ensures at c.if-x-sought.true))

pub returns : goal.returns
returns c =
    let a = c.args in
    let l = c.loop-entry in
    kept (λ e. missed_all a.points.now (offset a.axis) a.part.now a.sought l.entry-index l.invariant c.loop-entry-test.false)
