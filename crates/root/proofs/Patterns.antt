-- `val`, the size of a pattern's float in units of 2 ^ -1074, by the pattern's fields. Assumes nothing.
use mathlib.Core.Path.{◌≡◌, refl, ◌∙◌}
use Prim.Native.Nat.{ℕ, zero, suc, ◌+◌, ◌-◌, ◌*◌, ◌/◌, ◌%◌, ◌^◌, ◌≤◌, ◌<◌}
use native.Mathlib.Nat.{mul-pos}
use native.Mathlib.Omega.{arith}
use lib.Dec.{T, ltb, ltb→lt, lt→ltb, not_T}
use lib.Pow.{pow_pos}
use lib.Ieee.Bits.{is_true, is_false}
use Rattle.root.specs.Steps.{lead, val}

-- a subnormal's
pub val-low : (b : ℕ) → b < lead → val b ≡ b
unfolding val
val-low b h = rw (is_true (ltb b lead) (lt→ltb b lead h))

not_low : (b : ℕ) → lead ≤ b → T (ltb b lead) → ⊥
not_low b h t = let l = ltb→lt b lead t in omega arith

pub val-high : (b : ℕ) → lead ≤ b → val b ≡ (lead + b % lead) * 2 ^ (b / lead - 1)
unfolding val
val-high b h = rw (is_false (ltb b lead) (not_T (ltb b lead) (not_low b h)))

-- by the digits with the leading one, d, and the exponent's field less one, x
pub val_at : (x d : ℕ) → lead ≤ d → d < 2 * lead → val (x * lead + d) ≡ d * 2 ^ x
val_at x d h k =
    let b = x * lead + d in
    let e : lead + b % lead ≡ d = omega arith in
    let f : b / lead - 1 ≡ x = omega arith in
    val-high b (omega arith) ∙ rw (e, f)

-- by the exponent's field and the digits below it
abbrev pub fieldVal : ℕ → ℕ → ℕ
fieldVal zero t = t
fieldVal (suc x) t = (lead + t) * 2 ^ x

pub fieldVal-pos : (x t : ℕ) → 0 < x + t → 0 < fieldVal x t
fieldVal-pos zero t h = omega arith
fieldVal-pos (suc x) t h = mul-pos (omega arith) (pow_pos x)

pub val_fields : (b : ℕ) → val b ≡ fieldVal (b / lead) (b % lead)
val_fields b = go (b / lead) refl
  where
    go : (x : ℕ) → b / lead ≡ x → val b ≡ fieldVal x (b % lead)
    go zero e = val-low b (omega arith) ∙ omega arith
    go (suc x) e =
        let d : b / lead - 1 ≡ x = omega arith in
        val-high b (omega arith) ∙ rw d
