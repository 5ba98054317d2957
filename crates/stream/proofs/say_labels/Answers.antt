-- `stream::say_labels` meets its contract: only epsilon can refuse it. Assumes nothing.
use Rattle.std.proofs.Common.{take, length, ap, ◌∙◌, ◌/◌, ◌≤◌, ℕ, arith, rules}
use lib.Seq.{length-take-le}
use Rattle.text.specs.Line.{label_lines}
use Rattle.text.proofs.Laws.{kept, then, named, short-count, label_lines-take, labels_fit-take}
use Rattle.stream.proofs.Labelled.{label-given, label-refused}
use Rattle.stream.proofs.say_labels.Goals as goal

pub put_labels-requires : goal.put_labels-requires
put_labels-requires c =
    let n = length c.args.points.now / 2 in
    let p = c.put_count.ensures.put in
    let l : 1024 ≤ length c.dbscan-answer.new.labels = search rules in
    let h : n ≤ length c.dbscan-answer.new.labels = omega (arith, c.requires.few, l) in
    rw (length-take-le n c.dbscan-answer.new.labels h) (labels_fit-take _ _ _ n (record { labels = h; room = omega (arith, c.requires.few, c.requires.room, kept p, p.past, short-count 67 n) }))

pub returns-in-Ok-clause-replies : goal.returns-in-Ok-clause-replies
returns-in-Ok-clause-replies c =
    let a = c.args in
    let z = c.requires in
    let n = length c.args.points.now / 2 in
    let ls = c.dbscan-answer.new.labels in
    let l : 1024 ≤ length c.dbscan-answer.new.labels = search rules in
    let h : n ≤ length c.dbscan-answer.new.labels = omega (arith, c.requires.few, l) in
    label-given a.points.now a.epsilon a.samples _ _ _ _ _ a.lines.now.out.now a.lines.now.at (record { even = z.even; few = z.few; all_finite = z.all_finite; indices_room = search rules; boxes_room = search rules; links_room = search rules }) (search rules) (search rules) c.dbscan-answer.ensures _ c.in-Ok.is
    (then c.put_count.ensures.put (named (ap (λ (m : ℕ). label_lines m (take n ls)) (length-take-le n ls h) ∙ label_lines-take n ls) c.put_labels.ensures.put))

pub returns-in-Err-clause-replies : goal.returns-in-Err-clause-replies
returns-in-Err-clause-replies c =
    let a = c.args in
    let z = c.requires in
    label-refused a.points.now a.epsilon a.samples _ _ _ _ _ a.lines.now.out.now a.lines.now.at (record { even = z.even; few = z.few; all_finite = z.all_finite; indices_room = search rules; boxes_room = search rules; links_room = search rules }) (search rules) (search rules) c.dbscan-answer.ensures _ c.in-Err.is
    c.put_error.ensures.put
