-- `stream::put_found` meets its contract: the count line and the hits after it, or the refusal. Assumes nothing.
use Rattle.std.proofs.Common.{take, ap, ◌∙◌, ℕ, arith}
use lib.Seq.{length-take-le}
use Rattle.text.specs.Line.{hit_lines}
use Rattle.text.proofs.Laws.{kept, then, named, short-count, hit_lines-take, hits_fit-take}
use Rattle.stream.proofs.put_found.Goals as goal

pub put_hits-requires : goal.put_hits-requires
put_hits-requires c =
    let n = c.in-Ok.count in
    let k = c.requires.counts _ c.in-Ok.is in
    let p = c.put_count.ensures.put in
    rw (length-take-le n c.args.indices.now k.indices) (hits_fit-take _ _ _ _ n (record { indices = k.indices; distances = k.distances; numbers = k.numbers; room = omega (arith, k.few, c.requires.room, kept p, p.past, short-count c.args.letter n) }))

pub returns-in-Ok-clause-put : goal.returns-in-Ok-clause-put
returns-in-Ok-clause-put c =
    let a = c.args in
    let n = c.in-Ok.count in
    let k = c.requires.counts _ c.in-Ok.is in
    rw c.in-Ok.is (then c.put_count.ensures.put (named (ap (λ (m : ℕ). hit_lines m (take n a.indices.now) (take n a.distances.now)) (length-take-le n a.indices.now k.indices) ∙ hit_lines-take n a.indices.now a.distances.now) c.put_hits.ensures.put))
