-- Words of text: 16 upper-case hex digits write a whole number, or the pattern of a binary64 float. Definitions only.
--   digit c         the value of the hex digit c; of any other byte, 0
--   value s p k     the number that the k digits of s from p on write
--   word s p        the number that the 16 digits of s from p on write; 0 where s ends before
--   float_at s p    the float whose pattern they write; all NaNs count as one
--   IsPattern x r   r is the pattern of x: it is read as x; where x is no NaN no other word is; a NaN has this one
use Rattle.std.specs.Prelude.{◌≡◌, cond, not, List, ℕ, zero, suc, ◌+◌, ◌-◌, ◌*◌, ◌^◌, ◌<◌, T, ltb, leb, length, get_or, Float}
use Rattle.std.specs.Float.{binary64}
use Rattle.std.specs.Float.Ieee.{of_bits, is_nan}

unfoldable pub digit : ℕ → ℕ
digit c = cond (ltb c 48) 0 (cond (ltb c 58) (c - 48) (cond (ltb c 65) 0 (cond (ltb c 71) (c - 55) 0)))

unfoldable pub value : List ℕ → ℕ → ℕ → ℕ
value s p zero = 0
value s p (suc k) = value s p k * 16 + digit (get_or s (p + k) 0)

unfoldable pub word : List ℕ → ℕ → ℕ
word s p = cond (leb (p + 16) (length s)) (value s p 16) 0

abbrev pub float_at : List ℕ → ℕ → Float
float_at s p = of_bits binary64 (word s p)

pub record IsPattern (x : Float) (r : ℕ) : Type 0 where
  pub reads : of_bits binary64 r ≡ x
  pub only : T (not (is_nan x)) → (b : ℕ) → b < 2 ^ 64 → of_bits binary64 b ≡ x → b ≡ r
  pub of_nan : T (is_nan x) → r ≡ 0x7ff8_0000_0000_0000
