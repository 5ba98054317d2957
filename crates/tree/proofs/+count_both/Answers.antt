-- `tree::count_both` meets its contract. The measure is c. Assumes nothing.
use Rattle.tree.proofs.Counting.{both_leaf, both_full, both_even, both_odd, both_bound}
use native.Mathlib.Omega.{arith}
use Prim.Native.Nat.{ℕ, ◌<◌}
use Rattle.tree.proofs.+count_both.Goals as goal
use Rattle.tree.proofs.+count_both.Goals.{After-count_both-half}

-- what the halves need is small, so no sum of them wraps
small : (t : ℕ) (c : After-count_both-half t) → (c.count_both-half.result.here < 1_048_577) × (c.count_both-half.result.next < 1_048_579)
small t c =
    let r = c.count_both-half in
    let h = both_bound c.args.leaf c.args.c r.result.here r.result.next c.requires.0 c.if-c-leaf-2.false r.ensures.0 r.ensures.1 in
    (omega (arith, h.0, c.requires.2), omega (arith, h.1, c.requires.2))

pub returns-then-c-leaf : goal.returns-then-c-leaf
returns-then-c-leaf t c = both_leaf c.args.leaf c.args.c c.requires.1 c.if-c-leaf.true

pub returns-then-c-leaf-2 : goal.returns-then-c-leaf-2
returns-then-c-leaf-2 t c = both_full c.args.leaf c.args.c c.requires.1 (omega arith)

pub count_both-half-requires : goal.count_both-half-requires
count_both-half-requires t c = let p = c.requires in (omega (arith, c.decreases, p.1), (p.0, omega (arith, p.0), omega (arith, p.2)))

pub overflow_add-mixed : goal.overflow_add-mixed
overflow_add-mixed t c = let h = small t (goal.at.overflow_add-mixed t c).After-count_both-half in omega (arith, h.0, h.1)

pub overflow_add-mixed-2 : goal.overflow_add-mixed-2
overflow_add-mixed-2 t c = let h = small t (goal.at.overflow_add-mixed-2 t c).After-count_both-half in omega (arith, h.0, h.1)

pub overflow_add-result : goal.overflow_add-result
overflow_add-result t c = let h = small t (goal.at.overflow_add-result t c).After-count_both-half in omega (arith, h.0, h.1)

pub overflow_add-result-then-c-eq0 : goal.overflow_add-result-then-c-eq0
overflow_add-result-then-c-eq0 t c = let h = small t (goal.at.overflow_add-result-then-c-eq0 t c).After-count_both-half in omega (arith, h.0, h.1)

pub overflow_add-result-else-c-eq0 : goal.overflow_add-result-else-c-eq0
overflow_add-result-else-c-eq0 t c = let h = small t (goal.at.overflow_add-result-else-c-eq0 t c).After-count_both-half in omega (arith, h.0, h.1)

pub overflow_add-result-else-c-eq0-2 : goal.overflow_add-result-else-c-eq0-2
overflow_add-result-else-c-eq0-2 t c = let h = small t (goal.at.overflow_add-result-else-c-eq0-2 t c).After-count_both-half in omega (arith, h.0, h.1)

pub returns-then-c-eq0 : goal.returns-then-c-eq0
returns-then-c-eq0 t c =
    let r = c.count_both-half in
    both_even c.args.leaf c.args.c r.result.here r.result.next c.requires.0 c.if-c-leaf-2.false r.ensures.0 r.ensures.1 c.if-c-eq0.true

pub returns-else-c-eq0 : goal.returns-else-c-eq0
returns-else-c-eq0 t c =
    let r = c.count_both-half in
    both_odd c.args.leaf c.args.c r.result.here r.result.next c.requires.0 c.if-c-leaf-2.false r.ensures.0 r.ensures.1 c.if-c-eq0.false
