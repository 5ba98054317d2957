-- `root::scale` meets its contract, by the steps of `Scaling.antt`. Assumes nothing.
use mathlib.Core.Path.{◌≡◌}
use Prim.Native.Nat.{ℕ}
use native.Mathlib.Omega.{arith}
use Rattle.root.proofs.Scaling.{Full, full-high, Moved, moved, doubled, splits}
use Rattle.root.proofs.scale.Goals as goal
use Rattle.root.proofs.scale.Goals.{then-is_subnormal, else-is_subnormal, Joined-is_subnormal, Then-is_subnormal}

-- a subnormal's digits
up : (c : Then-is_subnormal) → Moved c.args.b
up c = moved c.args.b c.requires.above_zero (omega arith)

pub overflow_sub-z : goal.overflow_sub-z
overflow_sub-z c = (up (goal.at.overflow_sub-z c).Then-is_subnormal).eleven

full_is : {b d e : ℕ} {p : ℕ × ℕ} → Full b d e → p ≡ (d, e) → Full b p.0 p.1
full_is f q = rw q f

-- what is known where the first branch's arms meet
known : (c : Joined-is_subnormal) → Full c.args.b c.if-is_subnormal.full.0 c.if-is_subnormal.full.1
known c =
    let s = c in
    elim c.if-is_subnormal.branch [
      | then-is_subnormal w ↦ full_is (moved s.args.b s.requires.above_zero (omega (arith, w.if-is_subnormal.true))).full (rw w.from.ensures at w.full-is)
      | else-is_subnormal w ↦ full_is (full-high s.args.b (omega (arith, w.if-is_subnormal.false)) s.requires.finite) w.full-is
    ]

pub overflow_mul-result : goal.overflow_mul-result
overflow_mul-result c = let j = c in record { fits = omega (arith, (doubled j.if-is_subnormal.full.0 j.if-is_subnormal.full.1).1, (known (goal.at.overflow_mul-result c).Joined-is_subnormal).high) }

pub overflow_add-result-3 : goal.overflow_add-result-3
overflow_add-result-3 c = let f = known (goal.at.overflow_add-result-3 c).Joined-is_subnormal in omega (arith, f.high)

pub returns-clause-splits : goal.returns-clause-splits
returns-clause-splits c = splits c.args.b c.if-is_subnormal.full.0 c.if-is_subnormal.full.1 (known (goal.at.returns-clause-splits c).Joined-is_subnormal)

pub returns-clause-pattern : goal.returns-clause-pattern
returns-clause-pattern c = let f = known (goal.at.returns-clause-pattern c).Joined-is_subnormal in omega (arith, f.high)
