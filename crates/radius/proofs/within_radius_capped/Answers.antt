-- `radius::within_radius_capped` meets its contract: the indices over the first entries, as many as there is room for, and the
-- distances by what was answered. Assumes nothing.
use Rattle.std.proofs.Common.{◌≡◌, ◌≤◌, ℕ, List, length, take, min, ap, ◌∙◌, subst, arith, rules, Result, Err}
use lib.Seq.{length-take-le}
use lib.Ieee.{Float}
use Rattle.refusal.specs.declared.Refusal.{Refusal}
use Rattle.refusal.specs.declared.Refusal.TheVariants.{DamagedTree}
use Rattle.tree.specs.Points.{size}
use Rattle.radius.specs.Within.{reply, Answered, InRoom}
use Rattle.radius.proofs.Answers.{hits-points, in_room-hits, front-zeros, zeros_behind, in_room-damage, in_room-refused}
use Rattle.radius.proofs.within_radius_capped.Goals as goal
use Rattle.radius.proofs.within_radius_capped.Goals.{After-within_radius_indices-answer}

-- the room is the shortest of the three
room : (c : After-within_radius_indices-answer) → c.min-room.result ≡ min c.args.cap (min (length c.args.out_indices.now) (length c.args.out_distances.now))
room c = omega (arith, c.min-room.ensures, c.min.ensures)

inside : (c : After-within_radius_indices-answer) → c.min-room.result ≤ length c.args.out_indices.now
inside c = omega (arith, room c)

-- what was answered, over the first entries
front : (c : After-within_radius_indices-answer) → Answered (reply c.args.tree.now c.args.place c.args.radius) c.min-room.result (take c.min-room.result c.args.out_indices.now) c.within_radius_indices-answer.result c.within_radius_indices-answer.new.out_indices
front c = rw (length-take-le _ c.args.out_indices.now (inside c)) at c.within_radius_indices-answer.ensures

shortest : (c : After-within_radius_indices-answer) → {r : Result ℕ Refusal} {is : List ℕ} {ds : List Float} → let a = c.args in
    InRoom a.tree.now.points a.place (reply a.tree.now a.place a.radius) c.min-room.result a.out_indices.now a.out_distances.now r is ds
    → InRoom a.tree.now.points a.place (reply a.tree.now a.place a.radius) (min a.cap (min (length a.out_indices.now) (length a.out_distances.now))) a.out_indices.now a.out_distances.now r is ds
shortest c {r} {is} {ds} h = let a = c.args in subst (λ (k : ℕ). InRoom a.tree.now.points a.place (reply a.tree.now a.place a.radius) k a.out_indices.now a.out_distances.now r is ds) (room c) h

pub set_distances-requires-clause-points : goal.set_distances-requires-clause-points
set_distances-requires-clause-points c =
    let a = c.args in
    let u = (goal.at.set_distances-requires-clause-points c).After-within_radius_indices-answer in
    λ k d h. omega (arith, ap size c.points.ensures, hits-points a.tree.now a.place a.radius _ a.out_indices.now _ a.out_distances.now (inside u) _ (front u) _ c.in-Ok.is k d h)

pub returns-in-Ok : goal.returns-in-Ok
returns-in-Ok c =
    let a = c.args in
    let u = (goal.at.returns-in-Ok c).After-within_radius_indices-answer in
    shortest u (in_room-hits a.tree.now a.place a.radius _ a.out_indices.now _ a.out_distances.now (inside u) _ (front u) _ c.in-Ok.is _ (rw c.points.ensures at c.set_distances.ensures))

pub returns-then-eq : goal.returns-then-eq
returns-then-eq c =
    let a = c.args in
    let u = (goal.at.returns-then-eq c).After-within_radius_indices-answer in
    let d : c.in-Err.refusal ≡ DamagedTree = search (rules, c.if-eq.ensures) in
    rw d (shortest u (in_room-damage a.tree.now a.place a.radius _ a.out_indices.now _ a.out_distances.now (inside u) _ (front u) (c.in-Err.is ∙ ap Err d) c.within_radius_indices-answer.auto.out_indices _ _ (zeros_behind _ _ _ _ (omega (arith, c.within_radius_indices-answer.auto.out_indices, length-take-le _ c.args.out_indices.now (inside u))) (front-zeros a.tree.now a.place a.radius _ a.out_indices.now _ a.out_distances.now (inside u) _ (front u) (c.in-Err.is ∙ ap Err d) c.within_radius_indices-answer.auto.out_indices) (c.fill.ensures.after (λ y e. e))) (search rules)))

pub returns-else-eq : goal.returns-else-eq
returns-else-eq c =
    let a = c.args in
    let u = (goal.at.returns-else-eq c).After-within_radius_indices-answer in
    shortest u (in_room-refused a.tree.now a.place a.radius _ a.out_indices.now _ a.out_distances.now (inside u) _ (front u) _ c.in-Err.is (search (rules, c.if-eq.ensures)))
