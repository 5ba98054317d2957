-- Lists with the same entries, each as often, have the same sums; so two lists cut into a lower and a higher part of equal
-- lengths have the same lower part: by counting, for an entry, how many are below it. Assumes nothing.
use mathlib.Core.Path.{◌≡◌, refl, sym, ap, ◌∙◌}
use mathlib.Core.Logic.{◌⊎◌, inl, inr, ⊎_elim}
use mathlib.Core.Bool.{Bool, true, false, cond}
use mathlib.Core.List.{List, [], ◌∷◌, ◌++◌}
use Prim.Native.Nat.{ℕ, zero, suc, ◌+◌, ◌≤◌, ◌<◌}
use native.Mathlib.Nat.{not-suc-le-zero, lt_irrefl}
use native.Mathlib.Omega.{arith}
use lib.ListN.{length}
use lib.Dec.{ltb, eqb}
use borrow.Author.Tests.{lt-ltb, le-ltb, eqb-true}
use Rattle.tree.specs.Accepted.{times}
use Rattle.tree.proofs.Entries.{one, times_append, has_at, same_sym}
use Rattle.tree.specs.Entries.{◌∈◌, Same}
use Rattle.build.specs.Built.{Lower}

abbrev pub sum : (ℕ → ℕ) → List ℕ → ℕ
sum f [] = 0
sum f (x ∷ xs) = f x + sum f xs

pub sum_append : (f : ℕ → ℕ) (xs ys : List ℕ) → sum f (xs ++ ys) ≡ sum f xs + sum f ys
sum_append f [] ys = omega arith
sum_append f (x ∷ xs) ys = omega (arith, sum_append f xs ys)

-- a list without one v
record Without (v : ℕ) (ys : List ℕ) : Type 0 where
  zs : List ℕ
  counts : (w : ℕ) → times w ys ≡ one w v + times w zs
  sums : (f : ℕ → ℕ) → sum f ys ≡ f v + sum f zs

without : (v : ℕ) (ys : List ℕ) → v ∈ ys → Without v ys
without v [] h = absurd (not-suc-le-zero h)
without v (y ∷ ys) h = go (eqb v y) refl (without v ys)
  where
    go : (b : Bool) → eqb v y ≡ b → (v ∈ ys → Without v ys) → Without v (y ∷ ys)
    go true e k =
        let q : v ≡ y = eqb-true v y e in
        record { zs = ys; counts = λ w. ap (λ (z : ℕ). one w z + times w ys) (sym q); sums = λ f. ap (λ (z : ℕ). f z + sum f ys) (sym q) }
    go false e k =
        let z : one v y ≡ 0 = ap (λ (b : Bool). cond {A = ℕ} b 1 0) e in
        let p = k (omega arith) in
        record { zs = y ∷ p.zs; counts = λ w. omega (arith, p.counts w); sums = λ f. omega (arith, p.sums f) }

pub same_sum : (f : ℕ → ℕ) (xs ys : List ℕ) → Same xs ys → sum f xs ≡ sum f ys
same_sum f [] [] p = refl
same_sum f [] (y ∷ ys) p = absurd (lt_irrefl 0 (omega (arith, p.as_often y, has_at (y ∷ ys) 0 (omega arith))))
same_sum f (x ∷ xs) ys p =
    let w = without x ys (omega (arith, p.as_often x, has_at (x ∷ xs) 0 (omega arith))) in
    let q : Same xs w.zs = record { as_often = λ v. omega (arith, p.as_often v, w.counts v) } in
    omega (arith, same_sum f xs w.zs q, w.sums f)

-- and the same length
pub same_length : (xs ys : List ℕ) → Same xs ys → length xs ≡ length ys
same_length xs ys p = sym (ones xs) ∙ same_sum (λ v. 1) xs ys p ∙ ones ys
  where
    ones : (l : List ℕ) → sum (λ v. 1) l ≡ length l
    ones [] = refl
    ones (x ∷ l) = omega (arith, ones l)

-- how many entries are before v
below : (ℕ → ℕ) → ℕ → ℕ → ℕ
below R v w = cond (ltb (R w) (R v)) 1 0

is_below : (R : ℕ → ℕ) (v w : ℕ) → R w < R v → below R v w ≡ 1
unfolding below
is_below R v w h = ap (λ (b : Bool). cond {A = ℕ} b 1 0) (lt-ltb (R w) (R v) h)

not_below : (R : ℕ → ℕ) (v w : ℕ) → R v ≤ R w → below R v w ≡ 0
unfolding below
not_below R v w h = ap (λ (b : Bool). cond {A = ℕ} b 1 0) (le-ltb (R w) (R v) h)

at_most : (R : ℕ → ℕ) (v w : ℕ) → below R v w ≤ 1
unfolding below
at_most R v w = go (ltb (R w) (R v))
  where
    go : (b : Bool) → cond b 1 0 ≤ 1
    go true = omega arith
    go false = omega arith

tail_in : (v y : ℕ) (ys : List ℕ) → v ∈ ys → v ∈ (y ∷ ys)
tail_in v y ys h = omega arith

head_in : (y : ℕ) (ys : List ℕ) → y ∈ (y ∷ ys)
head_in y ys = has_at (y ∷ ys) 0 (omega arith)

-- none of ys is before v
none_below : (R : ℕ → ℕ) (v : ℕ) (ys : List ℕ) → ((w : ℕ) → w ∈ ys → R v ≤ R w) → sum (below R v) ys ≡ 0
none_below R v [] h = refl
none_below R v (y ∷ ys) h = omega (arith, not_below R v y (h y (head_in y ys)), none_below R v ys (λ w g. h w (tail_in w y ys g)))

-- all of ys are
all-below : (R : ℕ → ℕ) (v : ℕ) (ys : List ℕ) → ((w : ℕ) → w ∈ ys → R w < R v) → sum (below R v) ys ≡ length ys
all-below R v [] h = refl
all-below R v (y ∷ ys) h = omega (arith, is_below R v y (h y (head_in y ys)), all-below R v ys (λ w g. h w (tail_in w y ys g)))

few-below : (R : ℕ → ℕ) (v : ℕ) (ys : List ℕ) → sum (below R v) ys ≤ length ys
few-below R v [] = omega arith
few-below R v (y ∷ ys) = omega (arith, at_most R v y, few-below R v ys)

-- v itself is not
fewer_below : (R : ℕ → ℕ) (v : ℕ) (ys : List ℕ) → v ∈ ys → sum (below R v) ys < length ys
fewer_below R v [] h = absurd (not-suc-le-zero h)
fewer_below R v (y ∷ ys) h = go (eqb v y) refl (fewer_below R v ys)
  where
    go : (b : Bool) → eqb v y ≡ b → (v ∈ ys → sum (below R v) ys < length ys) → sum (below R v) (y ∷ ys) < length (y ∷ ys)
    go true e k = let q : v ≡ y = eqb-true v y e in omega (arith, not_below R v y (omega (arith, ap R q)), few-below R v ys)
    go false e k =
        let z : one v y ≡ 0 = ap (λ (b : Bool). cond {A = ℕ} b 1 0) e in
        omega (arith, k (omega arith), at_most R v y)

module _ (R : ℕ → ℕ) (l r l' r' : List ℕ) (p : Same (l ++ r) (l' ++ r')) (e : length l ≡ length l') (a : Lower R l r) (b : Lower R l' r') where
  -- an entry of the first half is in no second half
  apart : (v : ℕ) → v ∈ l → v ∈ r' → ⊥
  apart v h k =
      let x = fewer_below R v l h in
      let y = none_below R v r (λ w g. omega (arith, a v w h g)) in
      let z = all-below R v l' (λ w g. b w v g k) in
      lt_irrefl (length l) (omega (arith, sum_append (below R v) l r, sum_append (below R v) l' r', same_sum (below R v) (l ++ r) (l' ++ r') p))

split : (n : ℕ) → (n ≡ 0) ⊎ (0 < n)
split zero = inl refl
split (suc n) = inr (omega arith)

pub same-lower : (R : ℕ → ℕ) (l r l' r' : List ℕ) → Same (l ++ r) (l' ++ r') → length l ≡ length l' → Lower R l r → Lower R l' r' → Same l l' × Same r r'
same-lower R l r l' r' p e a b = (record { as_often = left }, record { as_often = λ v. omega (arith, left v, p.as_often v, times_append v l r, times_append v l' r') })
  where
    none : (v n : ℕ) (ys : List ℕ) → (v ∈ ys → ⊥) → times v ys ≡ 0
    none v n ys h = ⊎_elim (λ (z : times v ys ≡ 0). z) (λ (g : 0 < times v ys). absurd (h g)) (split (times v ys))

    left : (v : ℕ) → times v l ≡ times v l'
    left v = ⊎_elim
        (λ (z : times v l ≡ 0). ⊎_elim
        (λ (z' : times v l' ≡ 0). z ∙ sym z')
        (λ (g : 0 < times v l'). omega (arith, none v 0 r (apart R l' r' l r (same_sym p) (sym e) b a v g), p.as_often v, times_append v l r, times_append v l' r', z, g))
        (split (times v l')))
        (λ (g : 0 < times v l). let x = none v 0 r' (apart R l r l' r' p e a b v g) in
        let g' : 0 < times v l' = omega (arith, p.as_often v, times_append v l r, times_append v l' r') in
        omega (arith, none v 0 r (apart R l' r' l r (same_sym p) (sym e) b a v g'), p.as_often v, times_append v l r, times_append v l' r'))
        (split (times v l))
