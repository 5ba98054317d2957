-- `radius::collect` meets its contract. The first walk has no room and counts; the second has room for all, so it meets no
-- damage and stores as many; sorted, they are the definition's. Assumes nothing.
use Rattle.std.proofs.Common.{arith, rules, sym, ◌++◌, take, drop}
use lib.ListN.{length-append}
use lib.Seq.{length-take-le}
use Rattle.radius.proofs.Collecting.{first-damaged, first_short, second_whole, second_long, second_hits}
use Rattle.radius.proofs.collect.Goals as goal

pub returns-in_default : goal.returns-in_default
returns-in_default c =
    let a = c.args in
    first-damaged a.tree.now a.from a.radius_sq _ _ c.meet.ensures.kept _ c.in_default.is _ a.out.now _ (search rules)

pub returns-then-count-out : goal.returns-then-count-out
returns-then-count-out c =
    let a = c.args in
    first_short a.tree.now a.from a.radius_sq _ _ c.meet.ensures.kept _ c.in-Ok.is _ a.out.now c.if-count-out.true

pub returns-in_default-meet : goal.returns-in_default-meet
returns-in_default-meet c =
    let a = c.args in
    absurd (second_whole a.tree.now a.from a.radius_sq _ _ c.meet.ensures.kept _ c.in-Ok.is (take c.in-Ok.count a.out.now) (length-take-le _ a.out.now c.if-count-out.false) _ _ c.meet-2.ensures.kept _ c.in_default-meet.is)

pub slice_bounds-sort-end : goal.slice_bounds-sort-end
slice_bounds-sort-end c =
    let a = c.args in
    let l = second_long a.tree.now a.from a.radius_sq _ _ c.meet.ensures.kept _ c.in-Ok.is (take c.in-Ok.count a.out.now) (length-take-le _ a.out.now c.if-count-out.false) _ _ c.meet-2.ensures.kept _ c.in-Ok-meet.is in
    omega (arith, l, length-append c.meet-2.new.out (drop c.in-Ok.count a.out.now))

pub slice_bounds-sort-end-2 : goal.slice_bounds-sort-end-2
slice_bounds-sort-end-2 c =
    let a = c.args in
    let l = second_long a.tree.now a.from a.radius_sq _ _ c.meet.ensures.kept _ c.in-Ok.is (take c.in-Ok.count a.out.now) (length-take-le _ a.out.now c.if-count-out.false) _ _ c.meet-2.ensures.kept _ c.in-Ok-meet.is in
    sym (length-take-le _ (c.meet-2.new.out ++ drop c.in-Ok.count a.out.now) (omega (arith, l, length-append c.meet-2.new.out (drop c.in-Ok.count a.out.now))))

pub returns : goal.returns
returns c =
    let a = c.args in
    second_hits a.tree.now a.from a.radius_sq _ _ c.meet.ensures.kept _ c.in-Ok.is (take c.in-Ok.count a.out.now) (length-take-le _ a.out.now c.if-count-out.false) _ _ c.meet-2.ensures.kept _ c.in-Ok-meet.is _ a.out.now _ c.if-count-out.false c.sort.ensures.sorted
