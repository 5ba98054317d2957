-- The numbering: 0 to n - 1, each once. What holds before a turn of the loop holds after it; and what follows from holding
-- each once. Assumes nothing.
use mathlib.Core.Path.{◌≡◌, refl, sym, ap, ◌∙◌}
use mathlib.Core.Logic.{◌⊎◌, inl, inr, ⊎_elim}
use mathlib.Core.Bool.{Bool, true, false, cond}
use mathlib.Core.List.{List, [], ◌∷◌, ◌++◌}
use Prim.Native.Nat.{ℕ, zero, suc, ◌+◌, ◌≤◌, ◌<◌}
use native.Mathlib.Nat.{eq-or-lt_of_le, lt_irrefl}
use native.Mathlib.Numerals.{add-one}
use native.Mathlib.Omega.{arith}
use lib.ListN.{set, length, take, length-append}
use lib.Seq.{take-suc-set}
use lib.Dec.{ltb, eqb}
use borrow.Author.Tests.{ltb-true, ltb-false, lt-ltb, le-ltb, eq-eqb, ne_eqb}
use Rattle.tree.specs.Accepted.{times}
use Rattle.tree.proofs.Entries.{times_append}
use Rattle.tree.specs.Entries.{Within, Same}
use Rattle.build.proofs.Sum.{same_length}
use Rattle.build.specs.Built.{Each}

trio : (a b : ℕ) → (a < b) ⊎ ((a ≡ b) ⊎ (b < a))
trio a b = go (ltb a b) refl
  where
    go : (t : Bool) → ltb a b ≡ t → (a < b) ⊎ ((a ≡ b) ⊎ (b < a))
    go true e = inl (ltb-true a b e)
    go false e = ⊎_elim (λ (q : b ≡ a). inr (inl (sym q))) (λ (q : b < a). inr (inr q)) (eq-or-lt_of_le (ltb-false a b e))

pub each_none : (xs : List ℕ) → Each 0 (take 0 xs)
each_none xs v = ap (λ (b : Bool). cond {A = ℕ} b 1 0) (sym (le-ltb v 0 (omega arith)))

each_snoc : (i : ℕ) (ys : List ℕ) → Each i ys → Each (suc i) (ys ++ (i ∷ []))
each_snoc i ys p v = times_append v ys (i ∷ []) ∙ ⊎_elim
    (λ (a : v < i). omega (arith, p v, yes v i a, yes v (suc i) (omega arith), no_one v i (λ (q : v ≡ i). lt_irrefl i (omega arith))))
    (⊎_elim
    (λ (q : v ≡ i). omega (arith, p v, no v i (omega arith), yes v (suc i) (omega arith), is_one v i q))
    (λ (a : i < v). omega (arith, p v, no v i (omega arith), no v (suc i) a, no_one v i (λ (q : v ≡ i). lt_irrefl i (omega arith)))))
    (trio v i)
  where
    yes : (a b : ℕ) → a < b → cond {A = ℕ} (ltb a b) 1 0 ≡ 1
    yes a b g = ap (λ (t : Bool). cond {A = ℕ} t 1 0) (lt-ltb a b g)

    no : (a b : ℕ) → b ≤ a → cond {A = ℕ} (ltb a b) 1 0 ≡ 0
    no a b g = ap (λ (t : Bool). cond {A = ℕ} t 1 0) (le-ltb a b g)

    is_one : (a b : ℕ) → a ≡ b → cond {A = ℕ} (eqb a b) 1 0 ≡ 1
    is_one a b g = ap (λ (t : Bool). cond {A = ℕ} t 1 0) (eq-eqb a b g)

    no_one : (a b : ℕ) → (a ≡ b → ⊥) → cond {A = ℕ} (eqb a b) 1 0 ≡ 0
    no_one a b g = ap (λ (t : Bool). cond {A = ℕ} t 1 0) (ne_eqb a b g)

pub each_more : (i : ℕ) (xs : List ℕ) → i < length xs → Each i (take i xs) → Each (i + 1) (take (i + 1) (set xs i i))
each_more i xs h p = rw (add-one i, take-suc-set xs i i h) (each_snoc i (take i xs) p)

pub each_within : (n : ℕ) (xs : List ℕ) → Each n xs → Within n xs
each_within n xs p v h = ⊎_elim (λ (a : v < n). a) (λ (w : (v ≡ n) ⊎ (n < v)). absurd (lt_irrefl 0 (omega (arith, p v, zero-at (⊎_elim (λ (q : v ≡ n). omega arith) (λ (q : n < v). omega arith) w))))) (trio v n)
  where
    zero-at : n ≤ v → cond {A = ℕ} (ltb v n) 1 0 ≡ 0
    zero-at g = ap (λ (t : Bool). cond {A = ℕ} t 1 0) (le-ltb v n g)

pub each-once : (n : ℕ) (xs : List ℕ) → Each n xs → (v : ℕ) → times v xs ≤ 1
each-once n xs p v = go (ltb v n) (p v)
  where
    go : (b : Bool) → times v xs ≡ cond b 1 0 → times v xs ≤ 1
    go true e = omega arith
    go false e = omega arith

pub each_same : (n : ℕ) (xs ys : List ℕ) → Each n xs → Each n ys → Same xs ys
each_same n xs ys p q = record { as_often = λ v. p v ∙ sym (q v) }

-- so there are n of them
upto : ℕ → List ℕ
upto zero = []
upto (suc n) = upto n ++ (n ∷ [])

each_upto : (n : ℕ) → Each n (upto n)
unfolding upto
each_upto zero = each_none []
each_upto (suc n) = each_snoc n (upto n) (each_upto n)

length_upto : (n : ℕ) → length (upto n) ≡ n
unfolding upto
length_upto zero = refl
length_upto (suc n) = length-append (upto n) (n ∷ []) ∙ omega (arith, length_upto n)

pub each-length : (n : ℕ) (xs : List ℕ) → Each n xs → length xs ≡ n
each-length n xs p = same_length xs (upto n) (each_same n xs (upto n) p (each_upto n)) ∙ length_upto n
