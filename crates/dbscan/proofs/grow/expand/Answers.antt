-- `dbscan::grow::expand` meets its contract. The invariant: the cluster grows; each turn takes one point from what waits, of
-- which there are n at most. Assumes nothing.
use mathlib.Core.Path.{sym, ◌∙◌}
use Prim.Native.Nat.{◌+◌}
use native.Mathlib.Omega.{arith}
use lib.ListN.{set}
use lib.Seq.{get_or-set_same}
use Rattle.tree.specs.Points.{size}
use Rattle.labels.specs.Labels.{near}
use Rattle.labels.proofs.Neighbours.{near_comm}
use Rattle.dbscan.specs.Growing.{Growing}
use Rattle.dbscan.proofs.Rounds.{growing_start, growing-roomy, growing-by, growing-end, filled-set}
use Rattle.dbscan.proofs.grow.expand.Goals as goal
use Rattle.dbscan.proofs.grow.expand.Goals.{Start}

begun : (c : Start) → Growing (near c.args.tree.now.points c.args.density.epsilon) (size c.args.tree.now.points) c.args.density.min_samples c.args.cluster.seed c.args.cluster.label (set c.args.work.now (size c.args.tree.now.points) c.args.cluster.seed) (size c.args.tree.now.points) ((size c.args.tree.now.points) + 1) (set c.args.labels.now c.args.cluster.seed c.args.cluster.label)
begun c = growing_start (near c.args.tree.now.points c.args.density.epsilon) (size c.args.tree.now.points) c.args.density.min_samples (near_comm c.args.tree.now.points c.args.density.epsilon) c.requires.between c.requires.core c.requires.bare

pub claim_all-tail-requires : goal.claim_all-tail-requires
claim_all-tail-requires c =
    rw c.len-n.ensures (
    growing-roomy (near c.args.tree.now.points c.args.density.epsilon) (size c.args.tree.now.points) c.args.density.min_samples (begun (goal.at.claim_all-tail-requires c).Start) (filled-set (near c.args.tree.now.points c.args.density.epsilon) (size c.args.tree.now.points) c.args.density.min_samples c.args.cluster.seed c.requires.filled))

pub loop-head-init : goal.loop-head-init
loop-head-init c =
    rw c.len-n.ensures (
    growing-by (near c.args.tree.now.points c.args.density.epsilon) (size c.args.tree.now.points) c.args.density.min_samples (near_comm c.args.tree.now.points c.args.density.epsilon) c.args.cluster.seed c.args.around (begun (goal.at.loop-head-init c).Start) (omega arith) (get_or-set_same c.args.work.now (size c.args.tree.now.points) c.args.cluster.seed 0 (omega (arith, c.requires.between.sizes.work, c.requires.core.inside))) c.requires.core (filled-set (near c.args.tree.now.points c.args.density.epsilon) (size c.args.tree.now.points) c.args.density.min_samples c.args.cluster.seed c.requires.filled) (rw c.len-n.ensures at c.claim_all-tail.ensures))

pub visit-tail-requires : goal.visit-tail-requires
visit-tail-requires c =
    record { search = c.requires.search; growing = c.loop-head.invariant; some = c.loop-head-test.true; asked = c.requires.core.asked }

pub overflow_add-head-in-loop-head : goal.overflow_add-head-in-loop-head
overflow_add-head-in-loop-head c =
    let G = c.loop-head.invariant in
    omega (arith, c.loop-head-test.true, G.room, G.sizes.in_limit)

pub loop-head-smaller : goal.loop-head-smaller
loop-head-smaller c = omega (arith, c.loop-head-test.true, c.loop-head.invariant.room)

pub loop-head-preserved : goal.loop-head-preserved
loop-head-preserved c = c.visit-tail.ensures

pub shape_of-labels : goal.shape_of-labels
shape_of-labels c = c.loop-head.invariant.sizes.labels ∙ sym c.requires.between.sizes.labels

pub shape_of-work : goal.shape_of-work
shape_of-work c = c.loop-head.invariant.sizes.work ∙ sym c.requires.between.sizes.work

pub returns : goal.returns
returns c =
    growing-end (near c.args.tree.now.points c.args.density.epsilon) (size c.args.tree.now.points) c.args.density.min_samples c.loop-head.invariant c.loop-head-test.false
