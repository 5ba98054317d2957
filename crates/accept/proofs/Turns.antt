-- The permutation test, turn by turn: after k entries all of them are below n, and the set has each number as often as it stood
-- among them. So a number that is there already stands twice, and n turns have met each number once. Assumes nothing.
use mathlib.Core.Path.{◌≡◌, refl, sym, ap, ◌∙◌, subst}
use mathlib.Core.List.{List}
use mathlib.Core.Bool.{cond}
use mathlib.Core.Logic.{inl, inr}
use Prim.Native.Nat.{ℕ, zero, suc, ◌+◌, ◌*◌, ◌/◌, ◌%◌, ◌^◌, ◌≤◌, ◌<◌}
use native.Mathlib.Nat.{eq-or-lt_of_le, le_of_suc-le-suc, not-suc-le-zero, zero-div}
use native.Mathlib.Numerals.{add-one}
use native.Mathlib.Omega.{arith}
use lib.Dec.{eqb}
use lib.Bits.{bit_or}
use lib.Pow.{shl_exact}
use lib.ListN.{replicate, length, get_or, take, set, length-set, length-replicate, get_or-replicate}
use Rattle.tree.specs.Accepted.{times}
use Rattle.accept.specs.Inner.{EachOnce}
use Rattle.accept.proofs.Bits.{bit, member, put_in, member-few}
use Rattle.accept.proofs.Times.{times_more, all_once, twice}

pub record Passed (l seen : List ℕ) (k : ℕ) : Type 0 where
  pub words : length l ≤ 64 * length seen
  pub below : (j : ℕ) → j < k → get_or l j 0 < length l
  pub as_often : (i : ℕ) → i < length l → member i seen ≡ times i (take k l)

pub passed_none : (l : List ℕ) (N : ℕ) → length l ≤ 64 * N → Passed l (replicate N 0) 0
passed_none l N h = record {
  words = omega (arith, length-replicate {0} {A = ℕ} N 0);
  below = λ j g. absurd (not-suc-le-zero g);
  as_often = λ i g. ap (bit (i % 64)) (get_or-replicate {0} {A = ℕ} N (i / 64) 0 0 (omega arith)) ∙ nil (i % 64);
}
  where
    nil : (s : ℕ) → bit s 0 ≡ 0
    nil s = ap (λ (z : ℕ). z % 2) (zero-div (2 ^ s))

module _ (l seen : List ℕ) (k : ℕ) (P : Passed l seen k) (in-it : k < length l) where
  pub passed-more : get_or l k 0 < length l → (bit (get_or l k 0 % 64) (get_or seen (get_or l k 0 / 64) 0) ≡ 1 → ⊥)
      → Passed l (set seen (get_or l k 0 / 64) (bit_or (get_or seen (get_or l k 0 / 64) 0) (1 * 2 ^ (get_or l k 0 % 64) % 2 ^ 64))) (k + 1)
  passed-more h f = subst (λ (b : ℕ). Passed l (set seen (get_or l k 0 / 64) (bit_or (get_or seen (get_or l k 0 / 64) 0) b)) (k + 1)) (sym (shl_exact 1 (get_or l k 0 % 64) 64 (omega arith) (omega arith))) record {
    words = omega (arith, P.words, length-set seen (get_or l k 0 / 64) (bit_or (get_or seen (get_or l k 0 / 64) 0) (1 * 2 ^ (get_or l k 0 % 64))));
    below = λ i g. below i (rw add-one at g);
    as_often = λ i g. put_in seen i (get_or l k 0) (omega (arith, P.words)) (none (member (get_or l k 0) seen) (member-few (get_or l k 0) seen) f)
        ∙ ap (λ (z : ℕ). z + cond (eqb i (get_or l k 0)) 1 0) (P.as_often i g)
        ∙ sym (ap (λ (z : ℕ). times i (take z l)) (add-one k) ∙ times_more i l k (omega arith));
  }
    where
      below : (i : ℕ) → i < suc k → get_or l i 0 < length l
      below i g = elim (eq-or-lt_of_le (le_of_suc-le-suc g)) [ inl e ↦ subst (λ (z : ℕ). get_or l z 0 < length l) (sym e) h | inr g ↦ P.below i g ]

      none : (a : ℕ) → a ≤ 1 → (a ≡ 1 → ⊥) → a ≡ 0
      none zero h f = refl
      none (suc zero) h f = absurd (f refl)
      none (suc (suc a)) h f = absurd (not-suc-le-zero (le_of_suc-le-suc h))

  pub passed_twice : get_or l k 0 < length l → bit (get_or l k 0 % 64) (get_or seen (get_or l k 0 / 64) 0) ≡ 1 → EachOnce l → ⊥
  passed_twice h f = twice l k in-it (sym (P.as_often (get_or l k 0) h) ∙ f)

pub passed-all : (l seen : List ℕ) (k : ℕ) → Passed l seen k → k ≡ length l → EachOnce l
passed-all l seen k P e = let Q = rw e at P in all_once l Q.below (λ i g. subst (λ (z : ℕ). z ≤ 1) (Q.as_often i g) (member-few i seen))
