-- `dbscan::grow::label` meets its contract: a point with a label is passed, and one with too few neighbours; a core starts a
-- cluster. Assumes nothing.
use mathlib.Core.Path.{◌≡◌, sym, ◌∙◌}
use mathlib.Core.List.{◌++◌}
use mathlib.Core.Logic.{inl, inr}
use Prim.Native.Nat.{◌<◌}
use native.Mathlib.Nat.{eq-or-lt_of_le}
use native.Mathlib.Omega.{arith}
use lib.ListN.{get_or, drop, length-take}
use lib.Seq.{length-take-le}
use Rattle.tree.specs.Points.{size}
use Rattle.labels.specs.Labels.{noise, near}
use Rattle.dbscan.proofs.Claims.{get_or_inside}
use Rattle.dbscan.proofs.Rounds.{Queried, queried, between-skip, between-moved}
use Rattle.dbscan.proofs.grow.label.Goals as goal
use Rattle.dbscan.proofs.grow.label.Goals.{After-neighbours-around, Start}

-- the default of a look-up is no matter
same : (c : Start) → get_or c.args.labels.now c.args.i noise ≡ get_or c.args.labels.now c.args.i 0
same c = get_or_inside c.args.labels.now c.args.i noise 0 (omega (arith, c.requires.between.sizes.labels, c.requires.point))

after : (c : After-neighbours-around) → Queried (near c.args.tree.now.points c.args.density.epsilon) (size c.args.tree.now.points) c.args.i c.neighbours-around.result c.args.work.now (c.neighbours-around.new.out ++ drop (size c.args.tree.now.points) c.args.work.now) c.args.labels.now
after c =
    queried (near c.args.tree.now.points c.args.density.epsilon) (size c.args.tree.now.points) c.args.i c.neighbours-around.result c.args.work.now c.args.labels.now c.neighbours-around.new.out c.requires.between.sizes (rw c.len-n.ensures at c.neighbours-around.auto.out) c.neighbours-around.ensures

pub returns-then-labels-i : goal.returns-then-labels-i
returns-then-labels-i c =
    between-skip (near c.args.tree.now.points c.args.density.epsilon) (size c.args.tree.now.points) c.args.density.min_samples c.requires.between c.requires.between.sizes (λ k. has_label c.if-labels-i.true)
  where
    has_label : (get_or c.args.labels.now c.args.i 0 ≡ noise → ⊥) → get_or c.args.labels.now c.args.i noise < noise
    has_label f = elim (eq-or-lt_of_le (c.requires.between.state.top c.args.i)) [ inl e ↦ absurd (f (sym (same (goal.at.returns-then-labels-i c).Start) ∙ e)) | inr o ↦ o ]

pub slice_bounds-neighbours-end-2 : goal.slice_bounds-neighbours-end-2
slice_bounds-neighbours-end-2 c = simp length-take (omega arith)

pub neighbours-around-requires : goal.neighbours-around-requires
neighbours-around-requires c =
    record { search = c.requires.search; point = c.requires.point; room = rw c.len-n.ensures (length-take-le _ c.args.work.now (omega (arith, c.requires.between.sizes.work))) }

pub shape_of-work-then-around-density : goal.shape_of-work-then-around-density
shape_of-work-then-around-density c = rw c.len-n.ensures ((after (goal.at.shape_of-work-then-around-density c).After-neighbours-around).sizes.work ∙ sym c.requires.between.sizes.work)

pub returns-then-around-density : goal.returns-then-around-density
returns-then-around-density c =
    rw c.len-n.ensures (
    between-skip (near c.args.tree.now.points c.args.density.epsilon) (size c.args.tree.now.points) c.args.density.min_samples c.requires.between (after (goal.at.returns-then-around-density c).After-neighbours-around).sizes (λ k. omega (arith, k.many, c.if-around-density.true, c.neighbours-around.ensures.count)))

pub expand-requires : goal.expand-requires
expand-requires c =
    rw c.len-n.ensures (
    record {
      search = c.requires.search;
      between = between-moved (near c.args.tree.now.points c.args.density.epsilon) (size c.args.tree.now.points) c.args.density.min_samples c.requires.between (after (goal.at.expand-requires c).After-neighbours-around).sizes;
      core = record { inside = c.requires.point; asked = c.requires.asked; many = omega (arith, c.if-around-density.false, c.neighbours-around.ensures.count) };
      bare = same (goal.at.expand-requires c).Start ∙ c.if-labels-i.false;
      filled = (after (goal.at.expand-requires c).After-neighbours-around).filled;
    })

pub overflow_add-result : goal.overflow_add-result
overflow_add-result c =
    omega (arith, c.requires.between.state.few, c.requires.point, c.requires.between.sizes.in_limit)

pub returns : goal.returns
returns c = c.expand.ensures
