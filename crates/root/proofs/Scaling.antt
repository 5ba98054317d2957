-- The steps of `scale`: the digits of a pattern, 53 of them, and the exponent of what is left; those of a subnormal are
-- moved up, which a shift by at most 52 places does exactly; and a power of two that is a square, an odd one giving a factor
-- of two to the digits. Assumes nothing.
use mathlib.Core.Path.{◌≡◌, refl, sym, ap, ◌∙◌, subst}
use Prim.Native.Nat.{ℕ, zero, suc, ◌+◌, ◌-◌, ◌*◌, ◌/◌, ◌%◌, ◌^◌, ◌≤◌, ◌<◌}
use native.Mathlib.Nat.{mul-le-mul_left, mul-le-mul_right, mul_assoc, lt_of_not-le, not-le_of_lt, lt_of_lt_of_le, le_trans, mul-one, pow-succ'}
use native.Mathlib.Omega.{arith}
use lib.Pow.{pow-add, pow_mono, shl_lt, shl_exact}
use lib.Count.{count_leading_zeros, leading_top}
use Rattle.root.specs.Steps.{lead, infinity, val, Splits}
use Rattle.root.proofs.Patterns.{val-low, val-high}

-- 2 ^ 2148 times the float of b, by its 53 digits d and an exponent e
pub record Full (b d e : ℕ) : Type 0 where
  pub equal : val b * 2 ^ 1074 ≡ d * lead * 2 ^ e
  pub low : lead ≤ d
  pub high : d < 2 * lead
  pub e_low : 2 ≤ e
  pub e_high : e < 3100

-- what a product of powers of two comes to, by the exponents
powers : (n z e k : ℕ) → z + 52 + e ≡ k + 1074 → n * 2 ^ k * 2 ^ 1074 ≡ n * 2 ^ z * lead * 2 ^ e
powers n z e k h =
    mul_assoc n (2 ^ k) (2 ^ 1074)
    ∙ ap (λ (x : ℕ). n * x) (sym (pow-add 2 k 1074) ∙ ap (λ (x : ℕ). 2 ^ x) (sym h) ∙ pow-add 2 (z + 52) e ∙ ap (λ (x : ℕ). x * 2 ^ e) (pow-add 2 z 52))
    ∙ sym (mul_assoc n (2 ^ z * 2 ^ 52) (2 ^ e))
    ∙ ap (λ (x : ℕ). x * 2 ^ e) (sym (mul_assoc n (2 ^ z) (2 ^ 52)))

even_power : (e : ℕ) → (e % 2 ≡ 1 → ⊥) → 2 ^ e ≡ 2 ^ (e / 2) * 2 ^ (e / 2)
even_power e h = let d : e ≡ e / 2 + e / 2 = omega arith in ap (λ (x : ℕ). 2 ^ x) d ∙ pow-add 2 (e / 2) (e / 2)

odd_power : (e : ℕ) → e % 2 ≡ 1 → 2 ^ e ≡ 2 * (2 ^ (e / 2) * 2 ^ (e / 2))
odd_power e h =
    let d : e ≡ suc (e / 2 + e / 2) = omega arith in
    ap (λ (x : ℕ). 2 ^ x) d ∙ pow-succ' 2 (e / 2 + e / 2) ∙ ap (λ (x : ℕ). 2 * x) (pow-add 2 (e / 2) (e / 2))

-- a normal float has 53 digits as it stands
pub full-high : (b : ℕ) → lead ≤ b → b < infinity → Full b (b % lead + lead) (b / lead + 1021)
full-high b h k = record {
  equal = ap (λ (x : ℕ). x * 2 ^ 1074) (val-high b h) ∙ powers (lead + b % lead) 0 (b / lead + 1021) (b / lead - 1) (omega arith) ∙ omega arith;
  low = omega arith;
  high = omega arith;
  e_low = omega arith;
  e_high = omega arith;
}

-- ---- a subnormal's digits, moved up by z places
abbrev pub places : ℕ → ℕ
places b = count_leading_zeros 64 b - 11

pub record Moved (b : ℕ) : Type 0 where
  pub eleven : 11 ≤ count_leading_zeros 64 b
  pub short : places b ≤ 52
  pub full : Full b (b * 2 ^ places b % 2 ^ 64) (1022 - places b)

below_52 : (j m : ℕ) → 2 ^ j ≤ m → m < lead → j < 52
below_52 j m h k = lt_of_not-le (λ (g : 52 ≤ j). not-le_of_lt k (le_trans (pow_mono g) h))

pub moved : (b : ℕ) → 0 < b → b < lead → Moved b
moved b p s =
    let t = leading_top 64 b p (lt_of_lt_of_le s (omega arith)) in
    let j = t.0 in
    let l = below_52 j b t.2 s in
    let z = places b in
    let e : j + z ≡ 52 = omega (arith, t.1) in
    let e1 : suc j + z ≡ 53 = omega arith in
    let x = shl_exact {a = b} (suc j) z 64 t.3 (omega arith) in
    let low = subst (λ (y : ℕ). 2 ^ y ≤ b * 2 ^ z) e (rw (pow-add 2 j z) (mul-le-mul_right (2 ^ z) t.2)) in
    let high = subst (λ (y : ℕ). b * 2 ^ z < 2 ^ y) e1 (shl_lt (suc j) z t.3) in
    record {
      eleven = omega (arith, t.1);
      short = omega arith;
      full = record {
        equal = ap (λ (y : ℕ). y * 2 ^ 1074) (val-low b s ∙ sym (mul-one b)) ∙ powers b z (1022 - z) 0 (omega arith) ∙ ap (λ (y : ℕ). y * lead * 2 ^ (1022 - z)) (sym x);
        low = rw x low;
        high = rw x high;
        e_low = omega arith;
        e_high = omega arith;
      };
    }

-- ---- the exponent, halved
pub doubled : (d e : ℕ) → (d ≤ d * (1 + e % 2)) × (d * (1 + e % 2) ≤ 2 * d)
doubled d e =
    let l : 1 ≤ 1 + e % 2 = omega arith in
    let k : 1 + e % 2 ≤ 2 = omega arith in
    (omega (arith, mul-le-mul_left d l), omega (arith, mul-le-mul_left d k))

even_or_odd : (d e : ℕ) → d * lead * 2 ^ e ≡ d * (1 + e % 2) * lead * (2 ^ (e / 2) * 2 ^ (e / 2))
even_or_odd d e = go (e % 2) refl
  where
    go : (o : ℕ) → e % 2 ≡ o → d * lead * 2 ^ e ≡ d * (1 + o) * lead * (2 ^ (e / 2) * 2 ^ (e / 2))
    go zero h = rw (even_power e (omega arith)) (omega arith)
    go (suc zero) h = rw (odd_power e h) (twice d (2 ^ (e / 2) * 2 ^ (e / 2)))
      where
        twice : (n p : ℕ) → n * lead * (2 * p) ≡ n * (1 + 1) * lead * p
        twice n p = omega arith
    go (suc (suc o)) h = absurd (never (omega arith))
      where
        never : e % 2 < e % 2 → ⊥
        never l = omega arith

pub splits : (b d e : ℕ) → Full b d e → Splits b (d * (1 + e % 2)) (e / 2)
splits b d e f = record {
  equal = f.equal ∙ even_or_odd d e;
  low = omega (arith, f.low, (doubled d e).0);
  high = omega (arith, f.high, (doubled d e).1);
  h_low = omega (arith, f.e_low);
  h_high = omega (arith, f.e_high);
}
