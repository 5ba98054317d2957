-- `replay` meets its contract: a place more, with a line that begins there or with none (`Lines.antt`). Assumes nothing.
use Rattle.std.proofs.Common.{arith, rules}
use Rattle.replay_answers.specs.Lines.{code}
use Rattle.replay_answers.proofs.Lines.{lines-le, tallied_first, tallied_none, tallied_one, tallied_wrong}
use Rattle.replay_answers.proofs.answers.replay.Goals as goal
use Rattle.replay_answers.proofs.answers.replay.Goals.{then-not-agrees, else-not-agrees}

pub lines-init : goal.lines-init
lines-init c = tallied_first (search rules) (search rules)

pub lines-preserved-in_default : goal.lines-preserved-in_default
lines-preserved-in_default c = tallied_none c.lines.invariant c.in_default.ensures.none

pub count-requires : goal.count-requires
count-requires c =
    let l = c.in-Some.letter in
    omega (arith, c.lines.invariant.counts l, lines-le c.args.text.now (code l) c.lines.at, c.lines-test.true)

pub lines-preserved : goal.lines-preserved
lines-preserved c =
    let e = c.in-Some.ensures in
    let one = tallied_one {u = c.count.new.self} c.in-Some.letter c.lines.invariant e.begins e.letter c.count.ensures.counted c.count.ensures.others c.count.ensures.kept in
    elim c.if-not-agrees.branch [
      | then-not-agrees w ↦
          let wrong = tallied_wrong {u = w.note_wrong.new.self} one c.lines-test.true e.begins w.note_wrong.ensures.counts w.note_wrong.ensures.first in
          rw w.tally-is wrong
      | else-not-agrees w ↦ rw w.tally-is one
    ]
