-- `text::Writer::put_labels` meets its contract: a turn of the loop writes one line more. Assumes nothing.
use mathlib.Core.Path.{refl, ◌∙◌}
use native.Mathlib.Omega.{arith}
use Rattle.text.proofs.Laws.{kept, short-labels, lines_none, lines_more}
use Rattle.text.proofs.Writer.put_labels.Goals as goal

pub loop-label-init : goal.loop-label-init
loop-label-init c = let s = c.args.self.now in (refl, lines_none s.out.now s.at _)

pub put_label-requires : goal.put_label-requires
put_label-requires c =
    let l = c.loop-label in
    let p = l.invariant.1 in
    record { room = omega (arith, c.requires.room, kept p, p.past, short-labels l.label-index c.args.labels.now) }

pub loop-label-preserved : goal.loop-label-preserved
loop-label-preserved c = let l = c.loop-label in (c.put_label.ensures.same_reference ∙ l.invariant.0, lines_more l.label-index _ l.invariant.1 c.put_label.ensures.put)
