-- A set of numbers, 64 in a word: putting a number in that was not there adds it and changes no other. By the bits of a word, and
-- by whether the two numbers share one. Assumes nothing.
use mathlib.Core.Path.{◌≡◌, refl, sym, ap, ◌∙◌}
use mathlib.Core.List.{List}
use mathlib.Core.Bool.{Bool, true, false, cond}
use mathlib.Core.Logic.{inl, inr}
use Prim.Native.Nat.{ℕ, suc, ◌+◌, ◌-◌, ◌*◌, ◌/◌, ◌%◌, ◌^◌, ◌≤◌, ◌<◌}
use native.Mathlib.Nat.{eq-or-lt_of_le, div-eq_of_lt, mul-mod_left, pow-suc}
use native.Mathlib.Omega.{arith}
use lib.Dec.{eqb, ltb}
use lib.Pow.{pow-lt, pow-add, shl-shr}
use lib.Bits.{bit_or, or_shr, or_mod, or_zero_r}
use lib.ListN.{length, get_or, set}
use lib.Seq.{get_or-set_same, get_or-set_other}
use borrow.Author.Tests.{eqb-true, eqb-false, ltb-true, ltb-false}

abbrev pub bit : ℕ → ℕ → ℕ
bit s w = w / 2 ^ s % 2

-- whether i is in the set: 1 or 0
abbrev pub member : ℕ → List ℕ → ℕ
member i seen = bit (i % 64) (get_or seen (i / 64) 0)

bit-bit_or : (s w b : ℕ) → bit s (bit_or w b) ≡ bit_or (bit s w) (bit s b)
bit-bit_or s w b = ap (λ (z : ℕ). z % 2) (or_shr w b s) ∙ or_mod (w / 2 ^ s) (b / 2 ^ s) 1

bit-own : (s : ℕ) → bit s (1 * 2 ^ s) ≡ 1
bit-own s = ap (λ (z : ℕ). z % 2) (shl-shr 1 s)

bit-low : (s t : ℕ) → s < t → bit t (1 * 2 ^ s) ≡ 0
bit-low s t h = ap (λ (z : ℕ). z % 2) (div-eq_of_lt (omega (arith, pow-lt h)))

bit_high : (t d : ℕ) → bit t (1 * 2 ^ (suc d + t)) ≡ 0
bit_high t d = ap (λ (z : ℕ). z / 2 ^ t % 2) (place (2 ^ (suc d + t)) (2 ^ suc d) (2 ^ d) (2 ^ t) (pow-add 2 (suc d) t) (pow-suc 2 d)) ∙ ap (λ (z : ℕ). z % 2) (shl-shr (2 ^ d * 2) t) ∙ mul-mod_left (2 ^ d) 2
  where
    place : (a b c p : ℕ) → a ≡ b * p → b ≡ c * 2 → 1 * a ≡ c * 2 * p
    place a b c p e f = omega (arith, ap (λ (z : ℕ). z * p) f)

bit-other : (s t : ℕ) → (t ≡ s → ⊥) → bit t (1 * 2 ^ s) ≡ 0
bit-other s t h = go (ltb s t) refl
  where
    apart : (s t : ℕ) → t ≤ s → (t ≡ s → ⊥) → suc (s - suc t) + t ≡ s
    apart s t k h = elim (eq-or-lt_of_le k) [ inl e ↦ absurd (h e) | inr l ↦ omega arith ]

    go : (b : Bool) → ltb s t ≡ b → bit t (1 * 2 ^ s) ≡ 0
    go true e = bit-low s t (ltb-true s t e)
    go false e = ap (λ (z : ℕ). bit t (1 * 2 ^ z)) (sym (apart s t (ltb-false s t e) h)) ∙ bit_high t (s - suc t)

pub put-own : (s w : ℕ) → bit s w ≡ 0 → bit s (bit_or w (1 * 2 ^ s)) ≡ 1
put-own s w h = bit-bit_or s w (1 * 2 ^ s) ∙ ap (λ (z : ℕ). bit_or z (bit s (1 * 2 ^ s))) h ∙ ap (λ (z : ℕ). bit_or 0 z) (bit-own s)

pub put_other : (s t w : ℕ) → (t ≡ s → ⊥) → bit t (bit_or w (1 * 2 ^ s)) ≡ bit t w
put_other s t w h = bit-bit_or t w (1 * 2 ^ s) ∙ ap (λ (z : ℕ). bit_or (bit t w) z) (bit-other s t h) ∙ or_zero_r (bit t w)

-- ---- the set with j put in, which was not there
pub put_in : (seen : List ℕ) (i j : ℕ) → j / 64 < length seen → member j seen ≡ 0
    → member i (set seen (j / 64) (bit_or (get_or seen (j / 64) 0) (1 * 2 ^ (j % 64)))) ≡ member i seen + cond (eqb i j) 1 0
put_in seen i j h z = go (eqb i j) refl (eqb (i / 64) (j / 64)) refl
  where
    far : (a b : ℕ) → a / 64 ≡ b / 64 → a % 64 ≡ b % 64 → a ≡ b
    far a b p q = omega arith

    go : (b : Bool) → eqb i j ≡ b → (c : Bool) → eqb (i / 64) (j / 64) ≡ c → member i (set seen (j / 64) (bit_or (get_or seen (j / 64) 0) (1 * 2 ^ (j % 64)))) ≡ member i seen + cond b 1 0
    go true e c f =
        let p : i ≡ j = eqb-true i j e in
        ap (λ (k : ℕ). member k (set seen (j / 64) (bit_or (get_or seen (j / 64) 0) (1 * 2 ^ (j % 64))))) p
        ∙ ap (bit (j % 64)) (get_or-set_same seen (j / 64) (bit_or (get_or seen (j / 64) 0) (1 * 2 ^ (j % 64))) 0 h)
        ∙ put-own (j % 64) (get_or seen (j / 64) 0) z
        ∙ sym (ap (λ (k : ℕ). member k seen + 1) p ∙ ap (λ (k : ℕ). k + 1) z)
    go false e true f =
        let p : i / 64 ≡ j / 64 = eqb-true (i / 64) (j / 64) f in
        ap (λ (k : ℕ). bit (i % 64) (get_or (set seen (j / 64) (bit_or (get_or seen (j / 64) 0) (1 * 2 ^ (j % 64)))) k 0)) p
        ∙ ap (bit (i % 64)) (get_or-set_same seen (j / 64) (bit_or (get_or seen (j / 64) 0) (1 * 2 ^ (j % 64))) 0 h)
        ∙ put_other (j % 64) (i % 64) (get_or seen (j / 64) 0) (λ (q : i % 64 ≡ j % 64). eqb-false i j e (far i j p q))
        ∙ ap (λ (k : ℕ). bit (i % 64) (get_or seen k 0)) (sym p) ∙ omega arith
    go false e false f =
        ap (bit (i % 64)) (get_or-set_other seen (j / 64) (i / 64) (bit_or (get_or seen (j / 64) 0) (1 * 2 ^ (j % 64))) 0 (eqb-false (i / 64) (j / 64) f)) ∙ omega arith

pub member-few : (i : ℕ) (seen : List ℕ) → member i seen ≤ 1
member-few i seen = few (get_or seen (i / 64) 0 / 2 ^ (i % 64))
  where
    few : (a : ℕ) → a % 2 ≤ 1
    few a = omega arith
