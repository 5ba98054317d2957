-- `word` meets its contract: the loop's invariant is `Written` of `Text.antt`. Assumes nothing.
use Rattle.std.proofs.Common.{◌≡◌, ◌+◌}
use Rattle.patterns.proofs.Text.{digit-small, written_none, written_room, written_next, written_all, word-short}
use mathlib.Core.Path.{ap, ◌∙◌}
use lib.ListN.{get_or}
use Rattle.std.proofs.lemmas.List.Edits.{get_or-between}
use Rattle.patterns.specs.Digits.{digit}
use native.Mathlib.Omega.{arith}
use Rattle.patterns.proofs.word.Goals as goal
use Rattle.patterns.proofs.word.Goals.{then-text-lt16-via-then-text-lt16, then-text-lt16-via-else-text-lt16+then-at-text}

pub returns-then-text-lt16 : goal.returns-then-text-lt16
returns-then-text-lt16 c =
    elim c.then-text-lt16.branch [
      | then-text-lt16-via-then-text-lt16 w ↦ word-short _ _ (omega (arith, w.if-text-lt16.true))
      | then-text-lt16-via-else-text-lt16+then-at-text w ↦ word-short _ _ (omega (arith, w.if-at-text.true))
    ]

pub loop-c-init : goal.loop-c-init
loop-c-init c = written_none _ _

pub overflow_mul-v : goal.overflow_mul-v
overflow_mul-v c = let l = c.loop-c in omega (arith, written_room l.invariant (omega arith))

pub overflow_add-v : goal.overflow_add-v
overflow_add-v c = let l = c.loop-c in omega (arith, digit-small _ c.digit.ensures, written_room l.invariant (omega arith))

pub loop-c-preserved : goal.loop-c-preserved
loop-c-preserved c =
    let a = c.args in
    let l = c.loop-c in
    let e : c.digit.result ≡ digit (get_or a.text.now (a.at + l.c-index) 0) = c.digit.ensures ∙ ap digit (get_or-between a.text.now a.at (a.at + 16) l.c-index 0 (omega arith)) in
    rw e (written_next l.invariant (omega arith))

pub returns : goal.returns
returns c = written_all c.loop-c.invariant (omega arith) (omega arith)
