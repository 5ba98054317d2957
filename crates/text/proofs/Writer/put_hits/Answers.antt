-- `text::Writer::put_hits` meets its contract: a turn of the loop writes one line more. Assumes nothing.
use mathlib.Core.Path.{refl, ◌∙◌}
use lib.Ieee.{nan}
use lib.ListN.{length, length-append}
use native.Mathlib.Omega.{arith}
use borrow.Author.Rules.{rules}
use Rattle.std.proofs.lemmas.Slice.Zip.{zip_turn}
use Rattle.text.proofs.Laws.{kept, short-hits, lines_none, hits_more}
use Rattle.text.proofs.Writer.put_hits.Goals as goal

pub loop-index-init : goal.loop-index-init
loop-index-init c = let s = c.args.self.now in (refl, lines_none s.out.now s.at _)

pub put_hit-requires-clause-room : goal.put_hit-requires-clause-room
put_hit-requires-clause-room c =
    let l = c.loop-index in
    let p = l.invariant.1 in
    let turn = zip_turn c.args.indices.now c.args.distances.now l.yielded c.into_iter-index-iterator.result l.index-iterator c.next.new.self c.next.result (search rules) (search rules) l.yielded_by (c.in-Some.field-0-0, c.in-Some.field-0-1) c.in-Some.is c.next.ensures.steps in
    omega (arith, c.requires.room, kept p, p.past, short-hits (length l.yielded) c.args.indices.now c.args.distances.now, turn.0)

pub loop-index-preserved : goal.loop-index-preserved
loop-index-preserved c =
    let l = c.loop-index in
    let turn = zip_turn c.args.indices.now c.args.distances.now l.yielded c.into_iter-index-iterator.result l.index-iterator c.next.new.self c.next.result (search rules) (search rules) l.yielded_by (c.in-Some.field-0-0, c.in-Some.field-0-1) c.in-Some.is c.next.ensures.steps in
    (c.put_hit.ensures.same_reference ∙ l.invariant.0, hits_more (length l.yielded) _ c.args.indices.now c.args.distances.now _ _ (length-append l.yielded _) (turn.2 0) (turn.3 nan) l.invariant.1 c.put_hit.ensures.put)
