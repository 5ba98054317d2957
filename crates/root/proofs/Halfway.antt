-- From whole numbers to patterns: where `Rounds` holds of the digits r, `RootBits` holds of the pattern h * 2 ^ 52 + r.
-- The neighbours of the pattern differ from it by one in the last place, 2 ^ h; but below a power of two, where r is
-- the least of 53 digits, the neighbour is half as far. Assumes nothing.
use mathlib.Core.Path.{◌≡◌, sym, ap, ◌∙◌, subst}
use mathlib.Core.Logic.{◌⊎◌, inl, inr}
use Prim.Native.Nat.{ℕ, zero, suc, ◌+◌, ◌-◌, ◌*◌, ◌^◌, ◌≤◌, ◌<◌}
use native.Mathlib.Nat.{add-mul, mul_assoc, mul_comm, eq-or-lt_of_le, mul-lt-mul_of_pos_right, mul-mul-mul_comm, lt_of_lt_of_le, lt_of_le_of_lt, le_of_eq, mul-pos, pow-succ'}
use native.Mathlib.Omega.{arith}
use lib.Pow.{pow_pos}
use Rattle.root.specs.Steps.{lead, val, Rounds, Splits, RootBits}
use Rattle.root.proofs.Patterns.{val_at}

-- ---- the neighbours
pub val-next : (h r : ℕ) → lead ≤ r → r < 2 * lead → val (h * lead + r + 1) ≡ (r + 1) * 2 ^ h
val-next h r l k = go (eq-or-lt_of_le k)
  where
    go : (suc r ≡ 2 * lead) ⊎ (suc r < 2 * lead) → val (h * lead + r + 1) ≡ (r + 1) * 2 ^ h
    go (inl e) =
        let p : h * lead + r + 1 ≡ suc h * lead + lead = omega arith in
        let q : r ≡ 2 * lead - 1 = omega arith in
        ap val p ∙ val_at (suc h) lead (omega arith) (omega arith) ∙ rw q (omega (arith, pow-succ' 2 h))
    go (inr g) =
        let p : h * lead + r + 1 ≡ h * lead + (r + 1) = omega arith in
        ap val p ∙ val_at h (r + 1) (omega arith) (omega arith)

val-previous : (h r : ℕ) → lead ≤ r → suc r < 2 * lead → val (h * lead + suc r - 1) ≡ r * 2 ^ h
val-previous h r l k =
    let p : h * lead + suc r - 1 ≡ h * lead + r = omega arith in
    ap val p ∙ val_at h r l (omega arith)

val-previous_power : (h : ℕ) → val (suc h * lead + lead - 1) ≡ (2 * lead - 1) * 2 ^ h
val-previous_power h =
    let p : suc h * lead + lead - 1 ≡ h * lead + (2 * lead - 1) = omega arith in
    ap val p ∙ val_at h (2 * lead - 1) (omega arith) (omega arith)

-- ---- squares, and squares times a square
square_lt : (x n p : ℕ) → x * x < 4 * n → 0 < p → (x * p) * (x * p) < 4 * (n * (p * p))
square_lt x n p h k = lt_of_le_of_lt (le_of_eq (mul-mul-mul_comm x p x p)) (lt_of_lt_of_le (mul-lt-mul_of_pos_right h (mul-pos k k)) (le_of_eq (omega arith)))

square_gt : (x n p : ℕ) → 4 * n < x * x → 0 < p → 4 * (n * (p * p)) < (x * p) * (x * p)
square_gt x n p h k = lt_of_le_of_lt (le_of_eq (omega arith)) (lt_of_lt_of_le (mul-lt-mul_of_pos_right h (mul-pos k k)) (le_of_eq (sym (mul-mul-mul_comm x p x p))))

halfway_up : (n r : ℕ) → n ≤ r * r + r → 4 * n < (r + (r + 1)) * (r + (r + 1))
halfway_up n r h = omega arith

halfway_down : (n r : ℕ) → suc r * suc r < n + suc r → (r + suc r) * (r + suc r) < 4 * n
halfway_down n r h = omega arith

-- ---- the two sides of `RootBits`
abbrev Above : ℕ → ℕ → Type 0
Above b r = (val (r - 1) + val r) * (val (r - 1) + val r) < 4 * 2 ^ 1074 * val b

abbrev Below : ℕ → ℕ → Type 0
Below b r = 4 * 2 ^ 1074 * val b < (val r + val (r + 1)) * (val r + val (r + 1))

module _ (b a h r : ℕ) (s : Splits b a h) (t : Rounds (a * lead) r) where
  scaled : 4 * 2 ^ 1074 * val b ≡ 4 * (a * lead * (2 ^ h * 2 ^ h))
  scaled = mul_assoc 4 (2 ^ 1074) (val b) ∙ ap (λ (x : ℕ). 4 * x) (mul_comm (2 ^ 1074) (val b) ∙ s.equal)

  val-here : val (h * lead + r) ≡ r * 2 ^ h
  val-here = val_at h r t.low t.high

  below_side : Below b (h * lead + r)
  below_side =
      let e : r * 2 ^ h + (r + 1) * 2 ^ h ≡ (r + (r + 1)) * 2 ^ h = sym (add-mul r (r + 1) (2 ^ h)) in
      rw (val-here, val-next h r t.low t.high, e, scaled)
      (square_gt (r + (r + 1)) (a * lead) (2 ^ h) (halfway_up (a * lead) r t.below) (pow_pos h))

above_usual : (b a h r : ℕ) → Splits b a h → Rounds (a * lead) (suc r) → lead ≤ r → Above b (h * lead + suc r)
above_usual b a h r s t l =
    let e : r * 2 ^ h + suc r * 2 ^ h ≡ (r + suc r) * 2 ^ h = sym (add-mul r (suc r) (2 ^ h)) in
    rw (val-here b a h (suc r) s t, val-previous h r l t.high, e, scaled b a h (suc r) s t)
    (square_lt (r + suc r) (a * lead) (2 ^ h) (halfway_down (a * lead) r t.above) (pow_pos h))

-- r is the least of 53 digits: the point halfway down is (4 * lead - 1) * 2 ^ (h - 1) / 2
above_power : (b a h : ℕ) → Splits b a (suc h) → Rounds (a * lead) lead → Above b (suc h * lead + lead)
above_power b a h s t =
    let e : (2 * lead - 1) * 2 ^ h + lead * 2 ^ suc h ≡ (4 * lead - 1) * 2 ^ h = omega (arith, pow-succ' 2 h) in
    let d : 4 * (a * lead * (2 ^ suc h * 2 ^ suc h)) ≡ 4 * (4 * (a * lead) * (2 ^ h * 2 ^ h)) = rw (pow-succ' 2 h) (regroup (a * lead) (2 ^ h)) in
    rw (val-here b a (suc h) lead s t, val-previous_power h, e, scaled b a (suc h) lead s t, d)
    (square_lt (4 * lead - 1) (4 * (a * lead)) (2 ^ h) (enough a s.low) (pow_pos h))
  where
    regroup : (n p : ℕ) → 4 * (n * (2 * p * (2 * p))) ≡ 4 * (4 * n * (p * p))
    regroup n p = omega arith

    enough : (a : ℕ) → lead ≤ a → (4 * lead - 1) * (4 * lead - 1) < 4 * (4 * (a * lead))
    enough a l = omega arith

above_side : (b a h r : ℕ) → Splits b a h → Rounds (a * lead) r → Above b (h * lead + r)
above_side b a zero r s t = absurd (no s.h_low)
  where
    no : 1 ≤ 0 → ⊥
    no h = omega arith
above_side b a (suc h) r s t = go (eq-or-lt_of_le t.low)
  where
    go : (lead ≡ r) ⊎ (lead < r) → Above b (suc h * lead + r)
    go (inl e) = rw (sym e) (above_power b a h s (rw (sym e) at t))
    go (inr l) =
        let e : r ≡ suc (r - 1) = omega arith in
        subst (λ (x : ℕ). Above b (suc h * lead + x)) (sym e)
        (above_usual b a (suc h) (r - 1) s (subst (λ (x : ℕ). Rounds (a * lead) x) e t) (omega arith))

pub root_bits : (b a h r : ℕ) → Splits b a h → Rounds (a * lead) r → RootBits b (h * lead + r)
root_bits b a h r s t = record {
  above = above_side b a h r s t;
  below = below_side b a h r s t;
  low = omega (arith, s.h_low, t.low);
  high = omega (arith, s.h_high, t.high);
}
