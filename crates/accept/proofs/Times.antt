-- Entries below n, none twice, n of them: each of 0 to n - 1 stands there once. By the sum over all i below n of how often i
-- stands there, which is the number of entries. Assumes nothing.
use mathlib.Core.Path.{◌≡◌, refl, sym, ap, ◌∙◌}
use mathlib.Core.List.{List, [], ◌∷◌}
use mathlib.Core.Bool.{cond}
use mathlib.Core.Logic.{inl, inr}
use Prim.Native.Nat.{ℕ, zero, suc, ◌+◌, ◌-◌, ◌≤◌, ◌<◌}
use native.Mathlib.Nat.{le_refl, add-zero, add-suc, not-suc-le-zero, eq-or-lt_of_le, le_of_suc-le-suc}
use native.Mathlib.Omega.{arith}
use lib.Dec.{eqb}
use lib.ListN.{length, get_or, take}
use Rattle.std.proofs.Math.Seq.{take-length}
use borrow.Author.Tests.{eq-eqb, ne_eqb}
use Rattle.tree.specs.Accepted.{times}
use Rattle.accept.specs.Inner.{EachOnce}

-- ---- one entry more
pub times_more : (i : ℕ) (l : List ℕ) (k : ℕ) → k < length l → times i (take (suc k) l) ≡ times i (take k l) + cond (eqb i (get_or l k 0)) 1 0
times_more i [] k h = absurd (not-suc-le-zero h)
times_more i (j ∷ js) zero h = omega arith
times_more i (j ∷ js) (suc k) h = omega (arith, times_more i js k (le_of_suc-le-suc h))

pub times_grow : (i : ℕ) (l : List ℕ) (k d : ℕ) → k + d ≤ length l → times i (take k l) ≤ times i (take (k + d) l)
times_grow i l k zero h = rw add-zero (le_refl _)
times_grow i l k (suc d) h = rw add-suc (omega (arith, times_grow i l k d (omega arith), times_more i l (k + d) (omega arith)))

-- ---- the sum of f 0 to f (n - 1)
abbrev sum : (ℕ → ℕ) → ℕ → ℕ
sum f zero = 0
sum f (suc n) = f n + sum f n

sum-zero : (n : ℕ) → sum (λ i. 0) n ≡ 0
sum-zero zero = refl
sum-zero (suc n) = omega (arith, sum-zero n)

sum-add : (f g : ℕ → ℕ) (n : ℕ) → sum (λ i. f i + g i) n ≡ sum f n + sum g n
sum-add f g zero = refl
sum-add f g (suc n) = omega (arith, sum-add f g n)

sum-none : (j n : ℕ) → n ≤ j → sum (λ i. cond (eqb i j) 1 0) n ≡ 0
sum-none j zero h = refl
sum-none j (suc n) h = rw (ne_eqb n j (λ (e : n ≡ j). omega arith)) (omega (arith, sum-none j n (omega arith)))

sum_one : (j n : ℕ) → j < n → sum (λ i. cond (eqb i j) 1 0) n ≡ 1
sum_one j zero h = absurd (not-suc-le-zero h)
sum_one j (suc n) h = elim (eq-or-lt_of_le (le_of_suc-le-suc h)) [
  | inl e ↦ rw (eq-eqb n j (sym e)) (omega (arith, sum-none j n (omega arith)))
  | inr k ↦ rw (ne_eqb n j (λ (e : n ≡ j). omega arith)) (omega (arith, sum_one j n k))
]

sum-times : (l : List ℕ) (n k : ℕ) → k ≤ length l → ((j : ℕ) → j < k → get_or l j 0 < n) → sum (λ i. times i (take k l)) n ≡ k
sum-times l n zero h b = sum-zero n
sum-times [] n (suc k) h b = absurd (not-suc-le-zero h)
sum-times (j ∷ js) n (suc k) h b =
    omega (arith, sum-add (λ i. cond (eqb i j) 1 0) (λ i. times i (take k js)) n, sum_one j n (b 0 (omega arith)), sum-times js n k (le_of_suc-le-suc h) (λ i g. b (suc i) (omega arith)))

sum-most : (f : ℕ → ℕ) (n : ℕ) → ((i : ℕ) → i < n → f i ≤ 1) → sum f n ≤ n
sum-most f zero h = omega arith
sum-most f (suc n) h = omega (arith, h n (omega arith), sum-most f n (λ i g. h i (omega arith)))

sum-full : (f : ℕ → ℕ) (n : ℕ) → ((i : ℕ) → i < n → f i ≤ 1) → sum f n ≡ n → (i : ℕ) → i < n → f i ≡ 1
sum-full f zero h e i g = absurd (not-suc-le-zero g)
sum-full f (suc n) h e i g =
    let m = sum-most f n (λ i g. h i (omega arith)) in
    let o = h n (omega arith) in
    elim (eq-or-lt_of_le (le_of_suc-le-suc g)) [
      | inl q ↦ ap f q ∙ omega arith
      | inr k ↦ sum-full f n (λ i g. h i (omega arith)) (omega arith) i k
    ]

-- ---- what the test comes to
pub all_once : (l : List ℕ) → ((k : ℕ) → k < length l → get_or l k 0 < length l) → ((i : ℕ) → i < length l → times i (take (length l) l) ≤ 1) → EachOnce l
all_once l b o = record {
  below = b;
  once = λ i g. ap (times i) (sym (take-length l)) ∙ sum-full (λ i. times i (take (length l) l)) (length l) o (sum-times l (length l) (length l) (le_refl (length l)) b) i g;
}

pub twice : (l : List ℕ) (k : ℕ) → k < length l → times (get_or l k 0) (take k l) ≡ 1 → EachOnce l → ⊥
twice l k g t o =
    let i = get_or l k 0 in
    let e : ◌≡◌ {A = ℕ} (cond (eqb i i) 1 0) 1 = rw (eq-eqb i i refl) in
    let m = times_grow i l (suc k) (length l - suc k) (omega arith) in
    let p : times i (take (suc k + (length l - suc k)) l) ≡ times i l = ap (λ (z : ℕ). times i (take z l)) (back (length l) (suc k) g) ∙ ap (times i) (take-length l) in
    let q : 2 ≤ times i l = omega (arith, times_more i l k (omega arith)) in
    absurd (no (times i l) q (o.once i (o.below k g)))
  where
    back : (a b : ℕ) → b ≤ a → b + (a - b) ≡ a
    back a b h = omega arith

    no : (a : ℕ) → 2 ≤ a → a ≡ 1 → ⊥
    no a h e = omega arith
