-- `text::put_hex` meets its contract: by recursion on the digits that are left. Assumes nothing.
use Prim.Native.Nat.{◌-◌, ◌/◌}
use Rattle.text.specs.Line.{hexes}
use Rattle.text.proofs.Laws.{hex_step, kept, length-hexes}
use mathlib.Core.Path.{refl}
use native.Mathlib.Omega.{arith}
use Rattle.text.proofs.+put_hex.Goals as goal

pub returns-then-k-eq0 : goal.returns-then-k-eq0
unfolding hexes
returns-then-k-eq0 t c = let a = c.args in rw c.if-k-eq0.true (record { bytes = refl; past = omega arith })

pub bounds-out-next : goal.bounds-out-next
bounds-out-next t c = omega (arith, kept c.put_hex-next.ensures, c.put_hex-next.ensures.past, length-hexes (c.args.k - 1) (c.args.bits / 16))

pub overflow_add-result : goal.overflow_add-result
overflow_add-result t c = omega (arith, kept c.put_hex-next.ensures, c.put_hex-next.ensures.past, length-hexes (c.args.k - 1) (c.args.bits / 16))

pub returns : goal.returns
returns t c = hex_step c.args.k c.args.bits c.glyph.result c.if-k-eq0.false c.put_hex-next.ensures c.glyph.ensures
