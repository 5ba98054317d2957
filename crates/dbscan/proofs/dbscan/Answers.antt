-- `dbscan::dbscan` meets its contract, way by way. Assumes nothing.
use mathlib.Core.Path.{sym, ◌∙◌}
use Rattle.tree.specs.Accepted.{tree}
use Rattle.dbscan.proofs.Ends as e
use Rattle.dbscan.proofs.dbscan.Goals as goal

pub returns-then-quiet : goal.returns-then-quiet
returns-then-quiet c =
    let a = c.args in
    e.ends-quiet a.epsilon a.min_samples (tree a.points.now a.indices.now a.boxes.now a.links.now) a.labels.now a.work.now (rw c.in_ok-judge.was at c.judge.ensures) _ (sym c.quiet.ensures ∙ c.if-quiet.true) (c.fill.ensures.after (λ y h. h))

pub plant-requires : goal.plant-requires
plant-requires c =
    let a = c.args in
    (e.ready a.epsilon a.min_samples (tree a.points.now a.indices.now a.boxes.now a.links.now) a.labels.now a.work.now (rw c.in_ok-judge.was at c.judge.ensures)).given
