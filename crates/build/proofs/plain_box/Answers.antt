-- `build::plain_box` meets its contract: after k turns the ends are those of the first k + 1 entries by the order of numbers
-- (`Plain.antt`). Assumes nothing.
use Rattle.std.proofs.Common.{◌+◌}
use Rattle.build.proofs.Boxes.{rest_at, rest-in}
use Rattle.build.proofs.Plain.{looked_one, looked_more}
use Rattle.build.proofs.plain_box.Goals as goal

pub loop-entry-init : goal.loop-entry-init
loop-entry-init c = looked_one c.args.points.now c.args.part.now c.requires.ready

pub loop-entry-preserved : goal.loop-entry-preserved
loop-entry-preserved c =
    let part = c.args.part.now in
    let d = c.loop-entry in
    let e = rest_at part d.entry-index in
    looked_more c.args.points.now part c.requires.ready (d.entry-index + 1) d.x0 d.x1 d.y0 d.y1 d.invariant
    c.smaller-x0.result c.larger-x1.result c.smaller-y0.result c.larger-y1.result (rest-in part d.entry-index c.loop-entry-test.true)
    (rw e at c.smaller-x0.ensures) (rw e at c.larger-x1.ensures) (rw e at c.smaller-y0.ensures) (rw e at c.larger-y1.ensures)
