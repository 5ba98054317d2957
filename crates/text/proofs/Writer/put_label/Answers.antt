-- `text::Writer::put_label` meets its contract: noise, or a number and a byte. Assumes nothing.
use borrow.Author.Tests.{eq-eqb, ne_eqb}
use Rattle.text.proofs.Laws.{one, then, kept, length-decimals}
use native.Mathlib.Omega.{arith}
use Rattle.text.proofs.Writer.put_label.Goals as goal

pub returns-then-label-eq-NOISE-clause-put : goal.returns-then-label-eq-NOISE-clause-put
returns-then-label-eq-NOISE-clause-put c = let a = c.args in simp (eq-eqb a.label 4294967295 c.if-label-eq-NOISE.true) c.put_all.ensures.put

pub put_decimal-a-requires : goal.put_decimal-a-requires
put_decimal-a-requires c = omega (arith, length-decimals 10 c.args.label)

pub bounds-out-a : goal.bounds-out-a
bounds-out-a c = omega (arith, kept c.put_decimal-a.ensures, c.put_decimal-a.ensures.past, length-decimals 10 c.args.label)

pub overflow_add-self : goal.overflow_add-self
overflow_add-self c = omega (arith, kept c.put_decimal-a.ensures, c.put_decimal-a.ensures.past, length-decimals 10 c.args.label)

pub returns-clause-put : goal.returns-clause-put
returns-clause-put c =
    let p = c.put_decimal-a in
    simp (ne_eqb c.args.label 4294967295 c.if-label-eq-NOISE.false) (then p.ensures (one p.new.out p.result 10))
