-- `text::put_decimal` meets its contract: by recursion on the number, a digit a call. Assumes nothing.
use lib.ListN.{length}
use mathlib.Core.Path.{◌≡◌, ap, ◌∙◌}
use Prim.Native.Nat.{◌%◌}
use Rattle.text.specs.Line.{glyph_of}
use Rattle.text.proofs.Laws.{one, decimal-put, decimal-one, decimal-small, decimal-length, kept}
use native.Mathlib.Omega.{arith}
use borrow.Author.Rules.{rules}
use Rattle.text.proofs.+put_decimal.Goals as goal

pub bounds-out-at : goal.bounds-out-at
bounds-out-at t c = omega (arith, ap length (decimal-small c.args.n c.if-n-lt10.true))

pub returns-then-n-lt10 : goal.returns-then-n-lt10
returns-then-n-lt10 t c =
    let a = c.args in
    let last : a.n ≡ a.n % 10 = omega arith in
    decimal-one a.n c.glyph.result c.if-n-lt10.true (c.glyph.ensures ∙ ap glyph_of last) (one a.out.now a.at c.glyph.result)

pub put_decimal-next-requires : goal.put_decimal-next-requires
put_decimal-next-requires t c = search (rules, decimal-length c.args.n c.if-n-lt10.false (omega arith))

pub bounds-out-next : goal.bounds-out-next
bounds-out-next t c = omega (arith, kept c.put_decimal-next.ensures, c.put_decimal-next.ensures.past, decimal-length c.args.n c.if-n-lt10.false (omega arith))

pub overflow_add-result-2 : goal.overflow_add-result-2
overflow_add-result-2 t c = omega (arith, kept c.put_decimal-next.ensures, c.put_decimal-next.ensures.past, decimal-length c.args.n c.if-n-lt10.false (omega arith))

pub returns : goal.returns
returns t c = decimal-put c.args.n c.glyph-2.result c.if-n-lt10.false (omega arith) c.put_decimal-next.ensures c.glyph-2.ensures
