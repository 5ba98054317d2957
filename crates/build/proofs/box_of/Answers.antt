-- `build::box_of` meets its contract: with its zeros settled, the plain box is the tight one (`Plain.antt`). Assumes nothing.
use Rattle.build.proofs.Plain.{box_of_plain}
use Rattle.build.proofs.box_of.Goals as goal

pub returns : goal.returns
returns c =
    let p = c.plain_box-b in
    box_of_plain c.args.points.now c.args.part.now c.type_inv.points p.result _ _ _ _ p.ensures
    c.zero_end-min_x.ensures c.zero_end-max_x.ensures c.zero_end-min_y.ensures c.zero_end-max_y.ensures
