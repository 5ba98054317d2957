-- `text::Writer::put_hit` meets its contract: four runs of stores, one after another. Assumes nothing.
use lib.Ieee.{binary64, to_bits}
use lib.ListN.{length-set}
use Rattle.text.proofs.Laws.{one, then, kept, length-decimals, length-hexes}
use native.Mathlib.Omega.{arith}
use Rattle.text.proofs.Writer.put_hit.Goals as goal

pub put_decimal-a-requires : goal.put_decimal-a-requires
put_decimal-a-requires c = omega (arith, length-decimals 10 c.args.index)

pub bounds-out-a : goal.bounds-out-a
bounds-out-a c = omega (arith, kept c.put_decimal-a.ensures, c.put_decimal-a.ensures.past, length-decimals 10 c.args.index)

pub overflow_add-a : goal.overflow_add-a
overflow_add-a c = omega (arith, kept c.put_decimal-a.ensures, c.put_decimal-a.ensures.past, length-decimals 10 c.args.index)

pub put_hex-b-requires : goal.put_hex-b-requires
put_hex-b-requires c = simp length-set (omega (arith, kept c.put_decimal-a.ensures, c.put_decimal-a.ensures.past, length-decimals 10 c.args.index))

pub bounds-out-b : goal.bounds-out-b
bounds-out-b c = omega (arith, kept c.put_decimal-a.ensures, c.put_decimal-a.ensures.past, length-decimals 10 c.args.index, kept c.put_hex-b.ensures, c.put_hex-b.ensures.past, length-hexes 16 (to_bits binary64 c.args.distance), length-set c.put_decimal-a.new.out c.put_decimal-a.result 32)

pub overflow_add-self : goal.overflow_add-self
overflow_add-self c = omega (arith, kept c.put_decimal-a.ensures, c.put_decimal-a.ensures.past, length-decimals 10 c.args.index, kept c.put_hex-b.ensures, c.put_hex-b.ensures.past, length-hexes 16 (to_bits binary64 c.args.distance), length-set c.put_decimal-a.new.out c.put_decimal-a.result 32)

pub returns-clause-put : goal.returns-clause-put
returns-clause-put c =
    let p = c.put_decimal-a in
    let q = c.put_hex-b in
    then p.ensures (then (one p.new.out p.result 32) (then q.ensures (one q.new.out q.result 10)))
