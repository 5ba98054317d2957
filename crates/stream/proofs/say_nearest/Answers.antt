-- `stream::say_nearest` meets its contract: each answer is printed as the scan would have it. Assumes nothing.
use Rattle.std.proofs.Common.{subst, rules}
use Rattle.nearest.specs.declared.Nearest.{Nearest}
use Rattle.nearest.specs.declared.Nearest.TheVariants.{Hit, Refused}
use Rattle.nearest.specs.Nearest.{told, Answers}
use Rattle.stream.proofs.Nearby.{near-number, near-prints, near-short}
use Rattle.stream.proofs.say_nearest.Goals as goal

pub put_nearest-requires-clause-number : goal.put_nearest-requires-clause-number
put_nearest-requires-clause-number c =
    let a = c.args in
    near-number a.tree.now a.place _ _ c.requires.stands (subst (λ (r : Nearest). Answers a.tree.now a.place (told r)) c.in-Hit.is c.nearest_neighbour.ensures)

pub returns-in-Hit-clause-replies : goal.returns-in-Hit-clause-replies
returns-in-Hit-clause-replies c =
    let a = c.args in
    let h = subst (λ (r : Nearest). Answers a.tree.now a.place (told r)) c.in-Hit.is c.nearest_neighbour.ensures in
    record { text = _; prints = near-prints a.tree.now a.place (Hit _ _) c.requires.stands h (search rules); short = near-short (Hit _ _); put = c.put_nearest.ensures.put }

pub returns-in-Refused-clause-replies : goal.returns-in-Refused-clause-replies
returns-in-Refused-clause-replies c =
    let a = c.args in
    let h = subst (λ (r : Nearest). Answers a.tree.now a.place (told r)) c.in-Refused.is c.nearest_neighbour.ensures in
    record { text = _; prints = near-prints a.tree.now a.place (Refused _) c.requires.stands h tt; short = near-short (Refused _); put = c.put_error.ensures.put }
