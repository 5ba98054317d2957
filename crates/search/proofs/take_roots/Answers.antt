-- `search::take_roots` meets its contract. The invariant: the first i entries are roots. Assumes nothing.
use Rattle.std.proofs.Common.{refl, ◌∙◌, arith}
use lib.ListN.{length-set}
use Rattle.search.proofs.Fronts.{rooted_none, rooted_more}
use Rattle.search.proofs.take_roots.Goals as goal

pub loop-i-init : goal.loop-i-init
loop-i-init c = (refl, rooted_none c.args.squares.now)

pub loop-i-preserved : goal.loop-i-preserved
loop-i-preserved c =
    let l = c.loop-i in
    let a = c.args in
    let r = c.square_root.result in
    (length-set l.squares l.i r ∙ l.invariant.0, rooted_more a.squares.now l.squares l.i (omega (arith, c.loop-i-test.true)) l.invariant.1 r c.square_root.ensures)
