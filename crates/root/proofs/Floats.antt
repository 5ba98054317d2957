-- From patterns to floats: where `RootBits` holds of two patterns, `Root` holds of their floats; and what the root is
-- where it is no finite number above zero. Assumes nothing.
use mathlib.Core.Path.{◌≡◌, refl, sym, ap, ◌∙◌, subst}
use mathlib.Core.Logic.{◌⊎◌, inl, inr}
use mathlib.Core.Bool.{Bool, true, false, not, cond, true≢false}
use Prim.Native.Nat.{ℕ, zero, suc, ◌+◌, ◌-◌, ◌*◌, ◌/◌, ◌%◌, ◌^◌, ◌≤◌, ◌<◌}
use native.Mathlib.Nat.{eq-or-lt_of_le, lt_of_not-le, mod-eq_of_lt, mul-div_cancel, mul-one, not-le_of_lt, zero-mul, mul-pos, lt_irrefl}
use native.Mathlib.Decide.{dec_le}
use native.Mathlib.Omega.{arith}
use lib.IntN.{ℤ}
use lib.Dec.{T, leb, ltb, eqb, leb→le, le→leb, eqb→eq, lt→ltb, not_T}
use lib.Ieee.{Float, nan, inf, fin, binary64, up, down, odd, of_fields, of_bits, to_bits, is_nan, nan_bits, fits}
use lib.Ieee.Fits.{down_pos}
use lib.Ieee.Bits.{is_true, is_false, cond_no, to_bits-of_bits, of_bits-to_bits, to_bits-lt, nan_bits_is, nan_bits_above}
use lib.Ieee.Exact.{HasValue, odd_sign}
use lib.Ieee.Positive.{positive, positive_of_value}
use Rattle.root.specs.Root.{Root, Nearest, units, next, previous}
use Rattle.root.specs.Steps.{lead, infinity, sign, val, RootBits}
use Rattle.root.proofs.Patterns.{fieldVal, fieldVal-pos, val_fields}

-- ---- a pattern by its sign and its fields
of_bits_fields : (b : ℕ) (s : Bool) → leb sign b ≡ s → of_bits binary64 b ≡ of_fields binary64 s (b % sign / lead) (b % lead)
unfolding of_bits
of_bits_fields b s e = ap (λ (s : Bool). of_fields binary64 s (b % sign / lead) (b % lead)) e

pub of_bits_signed : (b : ℕ) → sign ≤ b → of_bits binary64 b ≡ of_fields binary64 true (b % sign / lead) (b % lead)
of_bits_signed b h = of_bits_fields b true (is_true (leb sign b) (le→leb sign b h))

pub of_bits_unsigned : (b : ℕ) → b < sign → of_bits binary64 b ≡ of_fields binary64 false (b / lead) (b % lead)
of_bits_unsigned b h =
    of_bits_fields b false (is_false (leb sign b) (not_T (leb sign b) (λ (u : T (leb sign b)). not-le_of_lt h (leb→le sign b u))))
    ∙ ap (λ (x : ℕ). of_fields binary64 false (x / lead) (b % lead)) (mod-eq_of_lt h)

-- the exponent's field 2047 is that of the infinities and the NaNs; with any other the float has a value
pub fields_top : (s : Bool) (t : ℕ) → of_fields binary64 s 2047 t ≡ cond (eqb t 0) (inf s) nan
unfolding of_fields
fields_top s t = refl

pub fields_value : (s : Bool) (x t : ℕ) → x < 2047 → HasValue (of_fields binary64 s x t) s (fieldVal x t) (2 ^ 1074)
unfolding of_fields
fields_value s zero t h = subst (λ (n : ℕ). HasValue (odd 53 s t 0 1074) s n (2 ^ 1074)) (mul-one t) (odd_sign 53 s t 0 1074)
fields_value s (suc x) t h =
    subst (λ (v : Float). HasValue v s ((lead + t) * 2 ^ x) (2 ^ 1074))
    (sym (cond_no (eqb (suc x) 2047) (cond (eqb t 0) (inf s) nan) (odd 53 s (lead + t) x 1074) (not_T (eqb (suc x) 2047) top)))
    (odd_sign 53 s (lead + t) x 1074)
  where
    top : T (eqb (suc x) 2047) → ⊥
    top u = let e = eqb→eq (suc x) 2047 u in omega arith

pub bits_value : (b : ℕ) → b < infinity → HasValue (of_bits binary64 b) false (val b) (2 ^ 1074)
bits_value b h =
    subst (λ (v : Float). HasValue v false (val b) (2 ^ 1074)) (sym (of_bits_unsigned b (omega arith)))
    (subst (λ (n : ℕ). HasValue (of_fields binary64 false (b / lead) (b % lead)) false n (2 ^ 1074)) (sym (val_fields b)) (fields_value false (b / lead) (b % lead) (omega arith)))

pub units-value : (x : Float) (s : Bool) (a : ℕ) → HasValue x s a (2 ^ 1074) → units x ≡ a
unfolding units
units-value nan s a v = absurd v
units-value (inf t) s a v = absurd v
units-value (fin t m e) s a v = ap (λ (y : ℕ). y / down e) v.1 ∙ mul-div_cancel a (down_pos e)

pub units_bits : (b : ℕ) → b < infinity → units (of_bits binary64 b) ≡ val b
units_bits b h = units-value (of_bits binary64 b) false (val b) (bits_value b h)

no_nan : (x : Float) (s : Bool) (a c : ℕ) → HasValue x s a c → T (not (is_nan x))
unfolding is_nan
no_nan nan s a c v = absurd v
no_nan (inf t) s a c v = absurd v
no_nan (fin t m e) s a c v = tt

pub bits_back : (b : ℕ) → b < infinity → to_bits binary64 (of_bits binary64 b) ≡ b
bits_back b h = to_bits-of_bits binary64 b (omega arith) (no_nan (of_bits binary64 b) false (val b) (2 ^ 1074) (bits_value b h))

-- ---- `Root` of a finite float above zero
no_size : (e : ℤ) (c a : ℕ) → 0 < a → zero * up e * c ≡ a * down e → ⊥
no_size e c a h q = lt_irrefl 0 (subst (λ (x : ℕ). 0 < x) (sym q ∙ ap (λ (y : ℕ). y * c) (zero-mul (up e)) ∙ zero-mul c) (mul-pos h (down_pos e)))

pub root-finite : (x r : Float) (a c : ℕ) → HasValue x false a c → 0 < a → T (positive r) → Nearest x r → Root x r
unfolding Root
root-finite nan r a c v h p n = absurd v
root-finite (inf true) r a c v h p n = absurd v
root-finite (inf false) r a c v h p n = absurd v
root-finite (fin true zero e) r a c v h p n = absurd (true≢false v.0)
root-finite (fin true (suc m) e) r a c v h p n = absurd (true≢false v.0)
root-finite (fin false zero e) r a c v h p n = absurd (no_size e c a h v.1)
root-finite (fin false (suc m) e) r a c v h p n = (p, n)

pub val_pos : (b : ℕ) → 0 < b → 0 < val b
val_pos b h = subst (λ (n : ℕ). 0 < n) (sym (val_fields b)) (fieldVal-pos (b / lead) (b % lead) (omega arith))

pub units-next : (c : ℕ) → c + 1 < infinity → units (next (of_bits binary64 c)) ≡ val (c + 1)
unfolding next
units-next c h = ap (λ (y : ℕ). units (of_bits binary64 (y + 1))) (bits_back c (omega arith)) ∙ units_bits (c + 1) h

pub units-previous : (c : ℕ) → c < infinity → units (previous (of_bits binary64 c)) ≡ val (c - 1)
unfolding previous
units-previous c h = ap (λ (y : ℕ). units (of_bits binary64 (y - 1))) (bits_back c (omega arith)) ∙ units_bits (c - 1) (omega arith)

pub root-at : (b c : ℕ) → 0 < b → b < infinity → RootBits b c → Root (of_bits binary64 b) (of_bits binary64 c)
root-at b c p h t =
    let l : c < infinity = omega (arith, t.high) in
    let k : 0 < c = omega (arith, t.low) in
    root-finite (of_bits binary64 b) (of_bits binary64 c) (val b) (2 ^ 1074) (bits_value b h) (val_pos b p)
    (positive_of_value (of_bits binary64 c) (val c) (2 ^ 1074) (bits_value c l) (val_pos c k))
    record {
      above = rw (units-previous c l, units_bits c l, units_bits b h) t.above;
      below = rw (units-next c (omega (arith, t.high)), units_bits c l, units_bits b h) t.below;
    }

-- ---- where there is no root
root-negative : (x : Float) (a c : ℕ) → HasValue x true a c → 0 < a → Root x nan
unfolding Root
root-negative nan a c v h = refl
root-negative (inf true) a c v h = refl
root-negative (inf false) a c v h = absurd v
root-negative (fin true zero e) a c v h = absurd (no_size e c a h v.1)
root-negative (fin true (suc m) e) a c v h = refl
root-negative (fin false zero e) a c v h = absurd (true≢false (sym v.0))
root-negative (fin false (suc m) e) a c v h = absurd (true≢false (sym v.0))

pub is_nan-nan : (x : Float) → is_nan x ≡ true → x ≡ nan
unfolding is_nan
is_nan-nan nan h = refl
is_nan-nan (inf s) h = absurd (true≢false (sym h))
is_nan-nan (fin s m e) h = absurd (true≢false (sym h))

root-nan : Root nan nan
unfolding Root
root-nan = refl

signed_none : (x t : ℕ) → x ≤ 2047 → 0 < x + t → Root (of_fields binary64 true x t) nan
unfolding Root
signed_none x t h p = go (eq-or-lt_of_le h)
  where
    top : (q : Bool) → Root (cond q (inf true) nan) nan
    top true = refl
    top false = refl

    go : (x ≡ 2047) ⊎ (x < 2047) → Root (of_fields binary64 true x t) nan
    go (inl e) = subst (λ (v : Float). Root v nan) (sym (ap (λ (y : ℕ). of_fields binary64 true y t) e ∙ fields_top true t)) (top (eqb t 0))
    go (inr l) = root-negative (of_fields binary64 true x t) (fieldVal x t) (2 ^ 1074) (fields_value true x t l) (fieldVal-pos x t p)

pub no-root : (b : ℕ) → infinity < b → (b ≡ sign → ⊥) → b < 2 * sign → Root (of_bits binary64 b) nan
no-root b h n k = go (dec_le sign b)
  where
    go : Dec (sign ≤ b) → Root (of_bits binary64 b) nan
    go (yes l) = subst (λ (x : Float). Root x nan) (sym (of_bits_signed b l)) (signed_none (b % sign / lead) (b % lead) (omega arith) (omega (arith, n)))
    go (no m) =
        let l = lt_of_not-le m in
        let d : b % sign ≡ b = omega arith in
        subst (λ (x : Float). Root x nan)
        (sym (is_nan-nan (of_bits binary64 b) (sym (nan_bits_is binary64 b) ∙ nan_bits_above binary64 b ∙ ap (λ (y : ℕ). ltb infinity y) d ∙ is_true (ltb infinity b) (lt→ltb infinity b h))))
        root-nan

-- ---- by x and its pattern
nan_written : of_bits binary64 0x7ff8_0000_0000_0000 ≡ nan
unfolding of_bits
nan_written = refl

pub root-of_nan : (x : Float) → is_nan x ≡ true → Root x (of_bits binary64 0x7ff8_0000_0000_0000)
root-of_nan x h = subst (λ (y : Float). Root y (of_bits binary64 0x7ff8_0000_0000_0000)) (sym (is_nan-nan x h)) (subst (Root nan) (sym nan_written) root-nan)

-- the zeros and the infinity are their own roots
own-zero : Root (of_bits binary64 0) (of_bits binary64 0)
unfolding Root of_bits
own-zero = refl

own-minus_zero : Root (of_bits binary64 sign) (of_bits binary64 sign)
unfolding Root of_bits
own-minus_zero = refl

own-infinity : Root (of_bits binary64 infinity) (of_bits binary64 infinity)
unfolding Root of_bits
own-infinity = refl

module _ (x : Float) (f : T (fits binary64 x)) where
  its_own : (b : ℕ) → to_bits binary64 x ≡ b → Root (of_bits binary64 b) (of_bits binary64 b) → Root x x
  its_own b e h = subst (λ (y : Float). Root y y) (ap (of_bits binary64) (sym e) ∙ of_bits-to_bits binary64 x f) h

  pub root-zero : to_bits binary64 x ≡ 0 → Root x x
  root-zero e = its_own 0 e own-zero

  pub root-minus_zero : to_bits binary64 x ≡ sign → Root x x
  root-minus_zero e = its_own sign e own-minus_zero

  pub root-infinity : to_bits binary64 x ≡ infinity → Root x x
  root-infinity e = its_own infinity e own-infinity

  pub root-positive : (c : ℕ) → 0 < to_bits binary64 x → to_bits binary64 x < infinity → RootBits (to_bits binary64 x) c → Root x (of_bits binary64 c)
  root-positive c n h t = subst (λ (y : Float). Root y (of_bits binary64 c)) (of_bits-to_bits binary64 x f) (root-at (to_bits binary64 x) c n h t)

  pub root_none : (to_bits binary64 x ≡ sign → ⊥) → (to_bits binary64 x ≡ infinity → ⊥) → infinity ≤ to_bits binary64 x → Root x (of_bits binary64 0x7ff8_0000_0000_0000)
  root_none n m h = subst (Root x) (sym nan_written) (subst (λ (y : Float). Root y nan) (of_bits-to_bits binary64 x f) (no-root (to_bits binary64 x) (omega (arith, m)) n (to_bits-lt binary64 x f)))

pub pattern_no-nan : (b : ℕ) → b < infinity → T (not (nan_bits binary64 b))
pattern_no-nan b h = subst (λ (q : Bool). T (not q)) (sym (nan_bits_is binary64 b)) (no_nan (of_bits binary64 b) false (val b) (2 ^ 1074) (bits_value b h))
