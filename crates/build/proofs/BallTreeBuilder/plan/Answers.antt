-- `BallTreeBuilder::plan` meets its contract, row by row of the refusals (`Plan.antt`). Assumes nothing.
use Rattle.std.proofs.Common.{◌≡◌, ℕ, ◌<◌, ◌/◌, ap, ◌∙◌, length, arith}
use Rattle.std.proofs.lemmas.Result.{err_from_is_err_and}
use Rattle.tree.specs.Count.{leaf_of, nodes}
use Rattle.tree.specs.Points.{size, Usable}
use Rattle.tree.proofs.Counting.{leaf_of-pos, nodes-small}
use Rattle.build.specs.Built.{needed}
use Rattle.build.specs.Outcome.{few_indices}
use Rattle.build.proofs.Plan.{due_checks, usable_of, due_nodes, due_given}
use Rattle.build.proofs.BallTreeBuilder.plan.Goals as goal
use Rattle.build.proofs.BallTreeBuilder.plan.Goals.{After-count_nodes-need}

pub returns-in_err-check_points : goal.returns-in_err-check_points
returns-in_err-check_points c =
    let p = err_from_is_err_and c.from_residual.result c.from_residual.ensures.1 in
    rw (p.1, p.2) (due_checks _ _ _ _ _ _ (rw c.in_err-check_points.was at c.check_points.ensures))

pub returns-then-indices-n : goal.returns-then-indices-n
returns-then-indices-n c = few_indices (usable_of (rw c.in_ok-check_points.was at c.check_points.ensures)) c.if-indices-n.true

usable : (c : After-count_nodes-need) → Usable c.args.points.now
usable c = usable_of (rw c.in_ok-check_points.was at c.check_points.ensures)

-- what is counted is N(n), and it fits
counted : (c : After-count_nodes-need) → c.count_nodes-need.result ≡ needed c.args.self.leaf_size c.args.points.now
counted c = c.count_nodes-need.ensures ∙ ap (λ (l : ℕ). nodes l (length c.args.points.now / 2)) c.leaf_of.ensures

small : (c : After-count_nodes-need) → c.count_nodes-need.result < 2_097_153
small c =
    let a = c.args in
    omega (arith, counted c, nodes-small (leaf_of a.self.leaf_size) (size a.points.now) (leaf_of-pos a.self.leaf_size) (usable c).in_limit)

pub overflow_cast-result-then-whole_nodes-need : goal.overflow_cast-result-then-whole_nodes-need
overflow_cast-result-then-whole_nodes-need c =
    let d = (goal.at.overflow_cast-result-then-whole_nodes-need c).After-count_nodes-need in
    omega (arith, small d, (usable d).in_limit)

pub returns-then-whole_nodes-need : goal.returns-then-whole_nodes-need
returns-then-whole_nodes-need c =
    let d = (goal.at.returns-then-whole_nodes-need c).After-count_nodes-need in
    due_nodes _ _ _ _ _ (usable d) c.if-indices-n.false _ (counted d) _ c.whole_nodes.ensures c.if-whole_nodes-need.true

pub overflow_cast-result-2 : goal.overflow_cast-result-2
overflow_cast-result-2 c = omega (arith, small (goal.at.overflow_cast-result-2 c).After-count_nodes-need)

pub returns : goal.returns
returns c =
    let d = (goal.at.returns c).After-count_nodes-need in
    due_given _ _ _ _ _ (usable d) c.if-indices-n.false _ (counted d) _ c.whole_nodes.ensures c.if-whole_nodes-need.false
