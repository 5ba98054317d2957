-- What order the points are taken in makes no difference, where any two may be swapped. Assumes nothing.
use mathlib.Core.Path.{◌≡◌, refl, sym, ap, ◌∙◌, subst}
use mathlib.Core.List.{List, [], ◌∷◌, foldl}
use mathlib.Core.Logic.{inl, inr}
use mathlib.Core.Bool.{Bool, true, false, cond}
use Prim.Native.Nat.{ℕ, zero, suc, ◌+◌, ◌≤◌, ◌<◌}
use native.Mathlib.Nat.{not-suc-le-zero, eq-or-lt_of_le, le_of_suc-le-suc}
use native.Mathlib.Omega.{arith}
use lib.Dec.{eqb}
use borrow.Author.Tests.{eqb-true, eqb-false, eq-eqb, ne_eqb}
use Rattle.tree.specs.Accepted.{times}
use Rattle.tree.proofs.Each.{Each, each_map}
use Rattle.search.specs.Walk.{plain}

abbrev Below : ℕ → List ℕ → Type 0
Below n l = Each (λ i. i < n) l

later : (m i : ℕ) (is : List ℕ) → eqb m i ≡ false → 0 < times m (i ∷ is) → 0 < times m is
later m i is e h = let k : 0 < cond false 1 0 + times m is = rw e at h in omega arith

-- ---- one taken out
abbrev remove : ℕ → List ℕ → List ℕ
remove m [] = []
remove m (i ∷ is) = cond (eqb m i) is (i ∷ remove m is)

remove-all : (P : ℕ → Type 0) (m : ℕ) (l : List ℕ) → Each P l → Each P (remove m l)
remove-all P m [] h = tt
remove-all P m (i ∷ is) h = go (eqb m i) (remove-all P m is h.1)
  where
    go : (b : Bool) → Each P (remove m is) → Each P (cond b is (i ∷ remove m is))
    go true r = h.1
    go false r = (h.0, r)

one_more : (a b c d : ℕ) → b + c ≡ d → b + (a + c) ≡ a + d
one_more a b c d h = omega arith

remove-times : (m : ℕ) (l : List ℕ) → 0 < times m l → (v : ℕ) → cond (eqb v m) 1 0 + times v (remove m l) ≡ times v l
remove-times m [] h v = absurd (not-suc-le-zero h)
remove-times m (i ∷ is) h v = go (eqb m i) refl (λ r. remove-times m is r v)
  where
    go : (b : Bool) → eqb m i ≡ b → (0 < times m is → cond (eqb v m) 1 0 + times v (remove m is) ≡ times v is) → cond (eqb v m) 1 0 + times v (cond b is (i ∷ remove m is)) ≡ cond (eqb v i) 1 0 + times v is
    go true e r = ap (λ (k : ℕ). cond (eqb v k) 1 0 + times v is) (eqb-true m i e)
    go false e r = one_more (cond (eqb v i) 1 0) (cond (eqb v m) 1 0) (times v (remove m is)) (times v is) (r (later m i is e h))

lower : (m : ℕ) (l : List ℕ) → times m l ≡ 0 → Below (suc m) l → Below m l
lower m [] z h = tt
lower m (i ∷ is) z h = (go (eqb m i) refl, lower m is (omega arith) h.1)
  where
    go : (b : Bool) → eqb m i ≡ b → i < m
    go true e = let k : cond true 1 0 + times m is ≡ 0 = rw e at z in omega arith
    go false e = elim (eq-or-lt_of_le (le_of_suc-le-suc h.0)) [ inl k ↦ absurd (eqb-false m i e (sym k)) | inr k ↦ k ]

-- ---- folds
module _ {S : Type 0} (n : ℕ) (next : S → ℕ → S) (Ok : S → Type 0)
    (stays : (s : S) (i : ℕ) → Ok s → i < n → Ok (next s i))
    (swaps : (s : S) (i j : ℕ) → Ok s → i < n → j < n → next (next s i) j ≡ next (next s j) i) where
  pub fold_ok : (l : List ℕ) (s : S) → Ok s → Below n l → Ok (foldl next s l)
  fold_ok [] s o h = o
  fold_ok (i ∷ is) s o h = fold_ok is (next s i) (stays s i o h.0) h.1

  past : (l : List ℕ) (s : S) (i : ℕ) → Ok s → i < n → Below n l → next (foldl next s l) i ≡ foldl next (next s i) l
  past [] s i o I h = refl
  past (j ∷ js) s i o I h = past js (next s j) i (stays s j o h.0) I h.1 ∙ ap (λ (z : S). foldl next z js) (swaps s j i o h.0 I)

  -- two parts, in either order
  pub fold_swap : (l r : List ℕ) (s : S) → Ok s → Below n l → Below n r → foldl next (foldl next s l) r ≡ foldl next (foldl next s r) l
  fold_swap [] r s o h k = refl
  fold_swap (i ∷ is) r s o h k =
      fold_swap is r (next s i) (stays s i o h.0) h.1 k ∙ ap (λ (z : S). foldl next z is) (sym (past r s i o h.0 k))

  pull : (m : ℕ) (l : List ℕ) (s : S) → 0 < times m l → Ok s → Below n l → foldl next s l ≡ next (foldl next s (remove m l)) m
  pull m [] s t o h = absurd (not-suc-le-zero t)
  pull m (i ∷ is) s t o h = go (eqb m i) refl (λ r. pull m is (next s i) r (stays s i o h.0) h.1)
    where
      go : (b : Bool) → eqb m i ≡ b → (0 < times m is → foldl next (next s i) is ≡ next (foldl next (next s i) (remove m is)) m) → foldl next (next s i) is ≡ next (foldl next s (cond b is (i ∷ remove m is))) m
      go true e r = sym (past is s m o (subst (λ (k : ℕ). k < n) (sym (eqb-true m i e)) h.0) h.1 ∙ ap (λ (k : ℕ). foldl next (next s k) is) (eqb-true m i e))
      go false e r = r (later m i is e t)

  -- each of 0 to m - 1 once, in any order
  pub fold_all : (m : ℕ) (l : List ℕ) (s : S) → Ok s → m ≤ n → Below m l → ((i : ℕ) → i < m → times i l ≡ 1) → foldl next s l ≡ plain next s m
  fold_all zero [] s o k h t = refl
  fold_all zero (i ∷ is) s o k h t = absurd (not-suc-le-zero h.0)
  fold_all (suc m) l s o k h t =
      let w : Below n l = each_map l (λ (i : ℕ) (g : i < suc m). wide i m g k) h in
      let p : 0 < times m l = pos (times m l) (t m (omega arith)) in
      let z : times m (remove m l) ≡ 0 = none (times m (remove m l)) (times m l) (remove-times m l p m) (t m (omega arith)) in
      pull m l s p o w
      ∙ ap (λ (z : S). next z m) (fold_all m (remove m l) s o (omega arith) (lower m (remove m l) z (remove-all (λ i. i < suc m) m l h))
      (λ i g. other i g (times i (remove m l)) (times i l) (remove-times m l p i) (t i (omega arith))))
    where
      wide : (i m : ℕ) → i < suc m → suc m ≤ n → i < n
      wide i m g k = omega arith

      pos : (a : ℕ) → a ≡ 1 → 0 < a
      pos a h = omega arith

      none : (a b : ℕ) → cond (eqb m m) 1 0 + a ≡ b → b ≡ 1 → a ≡ 0
      none a b e f = let g : cond true 1 0 + a ≡ b = rw (eq-eqb m m refl) at e in omega arith

      other : (i : ℕ) → i < m → (a b : ℕ) → cond (eqb i m) 1 0 + a ≡ b → b ≡ 1 → a ≡ 1
      other i g a b e f = let k : cond false 1 0 + a ≡ b = rw (ne_eqb i m (λ (q : i ≡ m). omega arith)) at e in omega arith
