-- `stream::Wanted::find` meets its contract: over a tree that stands each query lists what its scan does. Assumes nothing.
use Rattle.std.proofs.Common.{min, length, subst, arith}
use Rattle.search.specs.Answer.{Answer, Answers}
use Rattle.stream.proofs.Several.{several_scan}
use Rattle.stream.proofs.Around.{radius_answers}
use Rattle.stream.proofs.Wanted.find.Goals as goal

pub returns-in-Nearest-clause-answers : goal.returns-in-Nearest-clause-answers
returns-in-Nearest-clause-answers c =
    let a = c.args in
    let z = c.requires in
    let n = c.nearest_neighbours in
    rw c.in-Nearest.is (subst (λ (x : Answer). Answers x a.near.now a.far.now n.result n.new.out_indices n.new.out_distances) (several_scan a.tree.now a.place c.in-Nearest.k (min (length a.near.now) (length a.far.now)) z.stands (omega (arith, z.near_room, z.far_room))) n.ensures)

pub returns-in-Within-clause-answers : goal.returns-in-Within-clause-answers
returns-in-Within-clause-answers c =
    let a = c.args in
    let z = c.requires in
    rw c.in-Within.is (radius_answers a.tree.now a.place c.in-Within.radius z.stands _ (omega (arith, z.near_room, z.far_room)) c.within_radius.ensures)
