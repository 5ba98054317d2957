-- Floats and their patterns, NaNs included: the patterns of a NaN are those above the infinity's, the sign apart; any other
-- float has one. Assumes nothing.
use mathlib.Core.Path.{◌≡◌, refl, sym, ap, ◌∙◌, subst}
use mathlib.Core.Bool.{Bool, true, false, not, true≢false}
use Prim.Native.Nat.{ℕ, ◌^◌, ◌<◌}
use lib.Dec.{T}
use lib.Ieee.{Float, nan, inf, fin, binary64, of_bits, to_bits, is_nan, ne, fits}
use lib.Ieee.Bits.{to_bits-of_bits, of_bits-to_bits}
use lib.Ieee.Compare.{differs_from_itself, nan_differs}
use Rattle.patterns.specs.Digits.{IsPattern}

is_nan-nan : (x : Float) → is_nan x ≡ true → x ≡ nan
unfolding is_nan
is_nan-nan nan h = refl
is_nan-nan (inf s) h = absurd (true≢false (sym h))
is_nan-nan (fin s m e) h = absurd (true≢false (sym h))

pub not_nan : (x : Float) → ne x x ≡ false → T (not (is_nan x))
unfolding is_nan
not_nan nan h = absurd (true≢false (sym nan_differs ∙ h))
not_nan (inf s) h = tt
not_nan (fin s m e) h = tt

written_nan : of_bits binary64 0x7ff8_0000_0000_0000 ≡ nan
unfolding of_bits
written_nan = refl

nan_is : T (is_nan nan)
unfolding is_nan
nan_is = tt

never : (b : Bool) → T (not b) → T b → ⊥
never true n t = n
never false n t = t

-- the NaN's pattern that the lists have
written_by_nan : to_bits binary64 nan ≡ 0x7ff8_0000_0000_0000
unfolding to_bits
written_by_nan = refl

pub pattern_of_nan : (x : Float) → ne x x ≡ true → IsPattern x 0x7ff8_0000_0000_0000
pattern_of_nan x h =
    let e = differs_from_itself x (subst T (sym h) tt) in
    record { reads = written_nan ∙ sym e; only = λ n. absurd (never (is_nan x) n (subst (λ (y : Float). T (is_nan y)) (sym e) nan_is)); of_nan = λ t. refl }

-- and that of any other float
pub pattern_of_number : (x : Float) → ne x x ≡ false → T (fits binary64 x) → IsPattern x (to_bits binary64 x)
pattern_of_number x h f = record { reads = of_bits-to_bits binary64 x f; only = λ n b l e. one b l e; of_nan = λ t. absurd (never (is_nan x) (not_nan x h) t) }
  where
    one : (b : ℕ) → b < 2 ^ 64 → of_bits binary64 b ≡ x → b ≡ to_bits binary64 x
    one b l e = sym (to_bits-of_bits binary64 b l (subst (λ (y : Float). T (not (is_nan y))) (sym e) (not_nan x h))) ∙ ap (to_bits binary64) e

pub pattern_of : (x : Float) → T (fits binary64 x) → IsPattern x (to_bits binary64 x)
pattern_of x f = go (ne x x) refl
  where
    go : (b : Bool) → ne x x ≡ b → IsPattern x (to_bits binary64 x)
    go true h =
        let e = differs_from_itself x (subst T (sym h) tt) in
        subst (IsPattern x) (sym (ap (to_bits binary64) e ∙ written_by_nan)) (pattern_of_nan x h)
    go false h = pattern_of_number x h f
