-- `stream::say_hits` meets its contract: what is found is written, and it is what the scan lists. Assumes nothing.
use Rattle.std.proofs.Common.{subst, ℕ, rules}
use Rattle.stream.specs.Prints.{Replied}
use Rattle.stream.specs.Asked.{asked, listed}
use Rattle.stream.proofs.Listing.{writes, lists}
use Rattle.stream.proofs.Lists.{listed-unsigned, listed-prints}
use Rattle.stream.proofs.say_hits.Goals as goal

pub put_found-requires : goal.put_found-requires
put_found-requires c =
    let a = c.args in
    writes c.find-found.ensures.answers (search rules) (λ l e. listed-unsigned a.wanted a.tree.now a.place l c.requires.stands e) c.requires.room

pub returns-clause-replies : goal.returns-clause-replies
returns-clause-replies c =
    let a = c.args in
    lists c.find-found.ensures.answers (search rules) (λ l e. listed-unsigned a.wanted a.tree.now a.place l c.requires.stands e) (asked a.wanted a.place) a.tree.now.points c.letter.result c.find-found.ensures.floats
    (λ t R. listed-prints a.wanted a.tree.now.points a.place t (subst (λ (n : ℕ). Replied n (listed a.wanted a.tree.now.points a.place) t) c.letter.ensures R)) c.put_found.ensures.put
