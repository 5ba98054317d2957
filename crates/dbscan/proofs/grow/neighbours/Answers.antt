-- `dbscan::grow::neighbours` meets its contract: the query finds the neighbours, and cannot be refused. Assumes nothing.
use Rattle.dbscan.proofs.Asks.{asked-filled, asked-hits}
use Rattle.dbscan.proofs.grow.neighbours.Goals as goal

pub returns-in_default : goal.returns-in_default
returns-in_default c =
    let a = c.args in
    let w = c.within_radius_indices in
    absurd (c.in_default.not-Ok _ (asked-hits a.tree.now a.epsilon a.i a.out.now c.requires w.result _ (rw c.points-points.ensures at w.ensures)))

pub returns : goal.returns
returns c =
    let a = c.args in
    let w = c.within_radius_indices in
    asked-filled a.tree.now a.epsilon a.i a.out.now c.requires w.result _ (rw c.points-points.ensures at w.ensures) _ c.in-Ok.is
