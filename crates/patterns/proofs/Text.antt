-- Hex digits, and what a row of them writes: k digits are below 16 ^ k, so sixteen fit a word. Assumes nothing.
use mathlib.Core.Path.{◌≡◌, refl, ap, ◌∙◌}
use mathlib.Core.Bool.{Bool, true, false, cond}
use mathlib.Core.List.{List}
use Prim.Native.Nat.{ℕ, zero, suc, ◌+◌, ◌-◌, ◌*◌, ◌^◌, ◌≤◌, ◌<◌}
use native.Mathlib.Nat.{not-le_of_lt, lt_of_not-le}
use native.Mathlib.Numerals.{add-one}
use native.Mathlib.Decide.{dec_le}
use native.Mathlib.Omega.{arith}
use lib.Dec.{T, ltb, leb, ltb→lt, lt→ltb, leb→le, le→leb, not_T}
use lib.Pow.{pow-add, pow_mono}
use lib.ListN.{length, get_or}
use lib.Ieee.Bits.{is_true, is_false}
use Rattle.patterns.specs.Digits.{digit, value, word}

below : (c n : ℕ) → c < n → ltb c n ≡ true
below c n h = is_true (ltb c n) (lt→ltb c n h)

from_on : (c n : ℕ) → n ≤ c → ltb c n ≡ false
from_on c n h = is_false (ltb c n) (not_T (ltb c n) (λ (t : T (ltb c n)). not-le_of_lt (ltb→lt c n t) h))

-- ---- the digit, by where the byte lies
pub digit_low : (c : ℕ) → c < 48 → digit c ≡ 0
unfolding digit
digit_low c h = rw (below c 48 h)

pub digit-number : (c : ℕ) → 48 ≤ c → c < 58 → digit c ≡ c - 48
unfolding digit
digit-number c h k = rw (from_on c 48 h, below c 58 k)

pub digit-between : (c : ℕ) → 58 ≤ c → c < 65 → digit c ≡ 0
unfolding digit
digit-between c h k = rw (from_on c 48 (omega arith), from_on c 58 h, below c 65 k)

pub digit_letter : (c : ℕ) → 65 ≤ c → c < 71 → digit c ≡ c - 55
unfolding digit
digit_letter c h k = rw (from_on c 48 (omega arith), from_on c 58 (omega arith), from_on c 65 h, below c 71 k)

pub digit-high : (c : ℕ) → 71 ≤ c → digit c ≡ 0
unfolding digit
digit-high c h = rw (from_on c 48 (omega arith), from_on c 58 (omega arith), from_on c 65 (omega arith), from_on c 71 h)

digit_lt : (c : ℕ) → digit c < 16
digit_lt c = number (dec_le 48 c) (dec_le 58 c)
  where
    letter : Dec (65 ≤ c) → Dec (71 ≤ c) → 58 ≤ c → digit c < 16
    letter (no n) d l = rw (digit-between c l (lt_of_not-le n)) (omega arith)
    letter (yes h) (no n) l = let k = lt_of_not-le n in rw (digit_letter c h k) (omega arith)
    letter (yes h) (yes k) l = rw (digit-high c k) (omega arith)

    number : Dec (48 ≤ c) → Dec (58 ≤ c) → digit c < 16
    number (no n) d = rw (digit_low c (lt_of_not-le n)) (omega arith)
    number (yes h) (no n) = let k = lt_of_not-le n in rw (digit-number c h k) (omega arith)
    number (yes h) (yes k) = letter (dec_le 65 c) (dec_le 71 c) k

pub digit-small : {r : ℕ} (c : ℕ) → r ≡ digit c → r < 16
digit-small c e = rw e (digit_lt c)

-- ---- a row of digits
value-lt : (s : List ℕ) (p k : ℕ) → value s p k < 2 ^ (4 * k)
unfolding value
value-lt s p zero = omega arith
value-lt s p (suc k) =
    let e : 4 * suc k ≡ 4 * k + 4 = omega arith in
    rw (e, pow-add 2 (4 * k) 4) (omega (arith, value-lt s p k, digit_lt (get_or s (p + k) 0)))

-- v is what the first k digits from p on write
pub record Written (s : List ℕ) (p v k : ℕ) : Type 0 where
  pub turns : k ≤ 16
  pub is : v ≡ value s p k

pub written_none : (s : List ℕ) (p : ℕ) → Written s p 0 0
unfolding value
written_none s p = record { turns = omega arith; is = refl }

module _ {s : List ℕ} {p v k : ℕ} (w : Written s p v k) (h : k < 16) where
  -- there is room for one more
  pub written_room : v * 16 + 15 < 2 ^ 64
  written_room = let m = pow_mono {i = 4 * k} {j = 60} (omega arith) in omega (arith, w.is, value-lt s p k, m)

  pub written_next : Written s p (v * 16 + digit (get_or s (p + k) 0)) (k + 1)
  unfolding value
  written_next = record { turns = omega arith; is = rw (add-one k, w.is) refl }

pub written_all : {s : List ℕ} {p v k : ℕ} → Written s p v k → 16 ≤ k → p + 16 ≤ length s → v ≡ word s p
unfolding word
written_all {s} {p} {v} {k} w h l =
    let e : k ≡ 16 = omega (arith, w.turns) in
    w.is ∙ ap (value s p) e ∙ rw (is_true (leb (p + 16) (length s)) (le→leb (p + 16) (length s) l))

pub word_lt : (s : List ℕ) (p : ℕ) → word s p < 2 ^ 64
unfolding word
word_lt s p = by_case (leb (p + 16) (length s))
  where
    by_case : (b : Bool) → cond b (value s p 16) 0 < 2 ^ 64
    by_case true = value-lt s p 16
    by_case false = omega arith

-- where the text ends before
pub word-short : (s : List ℕ) (p : ℕ) → length s < p + 16 → 0 ≡ word s p
unfolding word
word-short s p h = rw (is_false (leb (p + 16) (length s)) (not_T (leb (p + 16) (length s)) (λ (t : T (leb (p + 16) (length s))). not-le_of_lt h (leb→le (p + 16) (length s) t))))
