-- `dbscan::grow::visit` meets its contract: the query leaves what waits, and then the point is passed, or claims its
-- neighbours. Assumes nothing.
use mathlib.Core.Path.{◌≡◌, sym, ◌∙◌}
use mathlib.Core.List.{◌++◌}
use native.Mathlib.Omega.{arith}
use lib.ListN.{get_or, drop, length-take}
use lib.Seq.{length-take-le}
use Rattle.tree.specs.Points.{size}
use Rattle.labels.specs.Labels.{near, Core}
use Rattle.labels.proofs.Neighbours.{near_comm}
use Rattle.dbscan.specs.Growing.{Growing}
use Rattle.dbscan.proofs.Rounds.{Queried, queried, growing-moved, growing-roomy, growing-past, growing-by}
use Rattle.dbscan.proofs.grow.visit.Goals as goal
use Rattle.dbscan.proofs.grow.visit.Goals.{After-neighbours-count, Else-count-density}

after : (c : After-neighbours-count) → Queried (near c.args.tree.now.points c.args.density.epsilon) (size c.args.tree.now.points) (get_or c.args.work.now c.args.head 0) c.neighbours-count.result c.args.work.now (c.neighbours-count.new.out ++ drop (size c.args.tree.now.points) c.args.work.now) c.args.labels.now
after c =
    queried (near c.args.tree.now.points c.args.density.epsilon) (size c.args.tree.now.points) (get_or c.args.work.now c.args.head 0) c.neighbours-count.result c.args.work.now c.args.labels.now c.neighbours-count.new.out c.requires.growing.sizes (rw c.len-n.ensures at c.neighbours-count.auto.out) c.neighbours-count.ensures

grows : (c : After-neighbours-count) → Growing (near c.args.tree.now.points c.args.density.epsilon) (size c.args.tree.now.points) c.args.density.min_samples c.args.cluster.seed c.args.cluster.label (c.neighbours-count.new.out ++ drop (size c.args.tree.now.points) c.args.work.now) c.args.head c.args.tail c.args.labels.now
grows c = growing-moved (c.neighbours-count.new.out ++ drop (size c.args.tree.now.points) c.args.work.now) (after c).sizes (after c).behind c.requires.growing

first : (c : After-neighbours-count) → get_or (c.neighbours-count.new.out ++ drop (size c.args.tree.now.points) c.args.work.now) c.args.head 0 ≡ (get_or c.args.work.now c.args.head 0)
first c = (after c).behind c.args.head c.requires.growing.behind

core : (c : Else-count-density) → Core (near c.args.tree.now.points c.args.density.epsilon) (size c.args.tree.now.points) c.args.density.min_samples (get_or c.args.work.now c.args.head 0)
core c =
    record { inside = c.requires.growing.inside c.args.head (omega arith) c.requires.some; asked = c.requires.asked; many = omega (arith, c.if-count-density.false, c.neighbours-count.ensures.count) }

pub overflow_cast-q : goal.overflow_cast-q
overflow_cast-q c = omega (arith, c.type_inv.work c.args.head)

pub slice_bounds-neighbours-end-2 : goal.slice_bounds-neighbours-end-2
slice_bounds-neighbours-end-2 c = simp length-take (omega arith)

pub neighbours-count-requires : goal.neighbours-count-requires
neighbours-count-requires c =
    record { search = c.requires.search; point = c.requires.growing.inside c.args.head (omega arith) c.requires.some; room = rw c.len-n.ensures (length-take-le _ c.args.work.now (omega (arith, c.requires.growing.sizes.work))) }

pub shape_of-work-then-count-density : goal.shape_of-work-then-count-density
shape_of-work-then-count-density c = rw c.len-n.ensures ((after (goal.at.shape_of-work-then-count-density c).After-neighbours-count).sizes.work ∙ sym c.requires.growing.sizes.work)

pub returns-then-count-density : goal.returns-then-count-density
returns-then-count-density c =
    rw c.len-n.ensures (
    growing-past (near c.args.tree.now.points c.args.density.epsilon) (size c.args.tree.now.points) c.args.density.min_samples (get_or c.args.work.now c.args.head 0) c.neighbours-count.result (grows (goal.at.returns-then-count-density c).After-neighbours-count) c.requires.some (first (goal.at.returns-then-count-density c).After-neighbours-count) (after (goal.at.returns-then-count-density c).After-neighbours-count).filled c.if-count-density.true)

pub claim_all-requires : goal.claim_all-requires
claim_all-requires c =
    rw c.len-n.ensures (
    growing-roomy (near c.args.tree.now.points c.args.density.epsilon) (size c.args.tree.now.points) c.args.density.min_samples (grows (goal.at.claim_all-requires c).After-neighbours-count) (after (goal.at.claim_all-requires c).After-neighbours-count).filled)

pub returns : goal.returns
returns c =
    growing-by (near c.args.tree.now.points c.args.density.epsilon) (size c.args.tree.now.points) c.args.density.min_samples (near_comm c.args.tree.now.points c.args.density.epsilon) (get_or c.args.work.now c.args.head 0) c.neighbours-count.result (grows (goal.at.returns c).After-neighbours-count) c.requires.some (first (goal.at.returns c).After-neighbours-count) (core (goal.at.returns c).Else-count-density) (after (goal.at.returns c).After-neighbours-count).filled (rw c.len-n.ensures at c.claim_all.ensures)
