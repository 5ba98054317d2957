-- `text::Writer::put_count` meets its contract: two bytes, a number and a byte. Assumes nothing.
use lib.ListN.{length-set, set}
use Prim.Native.Nat.{◌+◌}
use Rattle.text.proofs.Laws.{one, two, then, kept, length-decimals}
use native.Mathlib.Omega.{arith}
use Rattle.text.proofs.Writer.put_count.Goals as goal

pub put_decimal-a-requires : goal.put_decimal-a-requires
put_decimal-a-requires c = simp length-set (omega (arith, length-decimals 10 c.args.n))

pub bounds-out-a : goal.bounds-out-a
bounds-out-a c = omega (arith, kept c.put_decimal-a.ensures, c.put_decimal-a.ensures.past, length-decimals 10 c.args.n, length-set c.args.self.now.out.now c.args.self.now.at c.args.letter, length-set (set c.args.self.now.out.now c.args.self.now.at c.args.letter) (c.args.self.now.at + 1) 32)

pub overflow_add-self : goal.overflow_add-self
overflow_add-self c = omega (arith, kept c.put_decimal-a.ensures, c.put_decimal-a.ensures.past, length-decimals 10 c.args.n, length-set c.args.self.now.out.now c.args.self.now.at c.args.letter, length-set (set c.args.self.now.out.now c.args.self.now.at c.args.letter) (c.args.self.now.at + 1) 32)

pub returns-clause-put : goal.returns-clause-put
returns-clause-put c =
    let a = c.args in
    let p = c.put_decimal-a in
    then (two a.self.now.out.now a.self.now.at a.letter 32) (then p.ensures (one p.new.out p.result 10))
