-- `root::nearest_root` meets its contract: `digits`, `rounds-here` and `rounds-next` of `Squares.antt`. Assumes nothing.
use Prim.Native.Nat.{◌*◌, ◌/◌, ◌%◌}
use native.Mathlib.Omega.{arith}
use Rattle.root.specs.Steps.{half}
use Rattle.root.proofs.Squares.{Digits, digits, rounds-here, rounds-next}
use Rattle.root.proofs.nearest_root.Goals as goal
use Rattle.root.proofs.nearest_root.Goals.{After-cut_root-g}

-- what is known once the root is cut
known : (c : After-cut_root-g)
    → Digits c.args.a c.cut_root-g.result.g c.cut_root-g.result.rest (c.cut_root-g.result.rest * (half / 2) / c.cut_root-g.result.g) (c.cut_root-g.result.rest * (half / 2) % c.cut_root-g.result.g)
known c = let s = c in digits s.args.a c.cut_root-g.result.g c.cut_root-g.result.rest s.requires.low s.requires.high c.cut_root-g.ensures

pub overflow_mul-t : goal.overflow_mul-t
overflow_mul-t c = let d = known (goal.at.overflow_mul-t c).After-cut_root-g in record { fits = omega (arith, d.cut.small, d.g_high) }

pub nonzero_div-q : goal.nonzero_div-q
nonzero_div-q c = let d = known (goal.at.nonzero_div-q c).After-cut_root-g in omega (arith, d.g_low)

pub nonzero_rem-u : goal.nonzero_rem-u
nonzero_rem-u c = let d = known (goal.at.nonzero_rem-u c).After-cut_root-g in omega (arith, d.g_low)

pub overflow_mul-s : goal.overflow_mul-s
overflow_mul-s c = let d = known (goal.at.overflow_mul-s c).After-cut_root-g in record { fits = omega (arith, d.g_high) }

pub overflow_add-s : goal.overflow_add-s
overflow_add-s c = let d = known (goal.at.overflow_add-s c).After-cut_root-g in record { fits = omega (arith, d.g_high, d.q_high) }

pub overflow_mul-u : goal.overflow_mul-u
overflow_mul-u c = let d = known (goal.at.overflow_mul-u c).After-cut_root-g in record { fits = omega (arith, d.under, d.g_high) }

pub overflow_mul-q : goal.overflow_mul-q
overflow_mul-q c = let d = known (goal.at.overflow_mul-q c).After-cut_root-g in record { fits = omega (arith, d.q_square, d.q_high) }

pub overflow_add-q : goal.overflow_add-q
overflow_add-q c = let d = known (goal.at.overflow_add-q c).After-cut_root-g in record { fits = omega (arith, d.g_high, d.q_square, d.q_high) }

pub overflow_add-result : goal.overflow_add-result
overflow_add-result c = let d = known (goal.at.overflow_add-result c).After-cut_root-g in record { fits = omega (arith, d.g_high, d.q_high) }

pub returns-then-u-q : goal.returns-then-u-q
returns-then-u-q c =
    let k = c in
    rounds-next k.args.a k.cut_root-g.result.g k.cut_root-g.result.rest _ _ k.requires.high (known (goal.at.returns-then-u-q c).After-cut_root-g) c.if-u-q.true

pub returns : goal.returns
returns c =
    let k = c in
    rounds-here k.args.a k.cut_root-g.result.g k.cut_root-g.result.rest _ _ k.requires.high (known (goal.at.returns c).After-cut_root-g) c.if-u-q.false
