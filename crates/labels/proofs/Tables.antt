-- Lists made of a function, sums and counts over the numbers below one: what an entry is (`tab-at`), that sums of terms
-- that are no greater and come to no less have the same terms (`total-eq`), and which number is the c-th that passes
-- (`tally-at`). Assumes nothing.
use mathlib.Core.Path.{◌≡◌, refl, sym, ap, ◌∙◌, subst}
use mathlib.Core.Logic.{inl, inr}
use mathlib.Core.Bool.{Bool, true, false, cond}
use mathlib.Core.List.{List, [], ◌∷◌, ◌++◌}
use Prim.Native.Nat.{ℕ, zero, suc, ◌+◌, ◌*◌, ◌≤◌, ◌<◌}
use native.Mathlib.Nat.{le_antisymm, lt_of_not-le, le_of_suc-le-suc, eq-or-lt_of_le, mul-suc}
use native.Mathlib.Decide.{dec_lt}
use native.Mathlib.Omega.{arith}
use lib.Dec.{T}
use lib.ListN.{length, get_or, length-append, get_or-append}
use lib.Seq.{get_or-append-add}

-- the terms below k in turn
unfoldable pub tab : (ℕ → ℕ) → ℕ → List ℕ
tab f zero = []
tab f (suc k) = tab f k ++ (f k ∷ [])

pub tab-length : (f : ℕ → ℕ) (k : ℕ) → length (tab f k) ≡ k
unfolding tab
tab-length f zero = refl
tab-length f (suc k) = simp length-append (omega (arith, tab-length f k))

pub tab-at : (f : ℕ → ℕ) (k i d : ℕ) → i < k → get_or (tab f k) i d ≡ f i
unfolding tab
tab-at f zero i d o = omega arith
tab-at f (suc k) i d o = elim (eq-or-lt_of_le (le_of_suc-le-suc o)) [
  | inl e ↦ let y : i ≡ length (tab f k) + 0 = omega (arith, e, tab-length f k) in ap (λ (u : ℕ). get_or (tab f k ++ (f k ∷ [])) u d) y ∙ get_or-append-add (tab f k) (f k ∷ []) 0 d ∙ ap f (sym e)
  | inr b ↦ get_or-append (tab f k) (f k ∷ []) d i (omega (arith, b, tab-length f k)) ∙ tab-at f k i d b
]

-- the sum of the terms below k
unfoldable pub total : (ℕ → ℕ) → ℕ → ℕ
total f zero = 0
total f (suc k) = total f k + f k

pub total-le : (f g : ℕ → ℕ) (k : ℕ) → ((i : ℕ) → i < k → f i ≤ g i) → total f k ≤ total g k
unfolding total
total-le f g zero h = omega arith
total-le f g (suc k) h = omega (arith, total-le f g k (λ i o. h i (omega arith)), h k (omega arith))

pub total-eq : (f g : ℕ → ℕ) (k : ℕ) → ((i : ℕ) → i < k → f i ≤ g i) → total g k ≤ total f k → (i : ℕ) → i < k → f i ≡ g i
unfolding total
total-eq f g zero h t i o = omega arith
total-eq f g (suc k) h t i o =
    let a = total-le f g k (λ j q. h j (omega arith)) in
    let b = h k (omega arith) in
    elim (eq-or-lt_of_le (le_of_suc-le-suc o)) [
      | inl e ↦ ap f e ∙ le_antisymm b (omega arith) ∙ ap g (sym e)
      | inr q ↦ total-eq f g k (λ j p. h j (omega arith)) (omega arith) i q
    ]

pub total-under : (f : ℕ → ℕ) (n k : ℕ) → ((i : ℕ) → i < k → f i ≤ n) → total f k ≤ n * k
unfolding total
total-under f n zero h = omega arith
total-under f n (suc k) h = omega (arith, total-under f n k (λ i o. h i (omega arith)), h k (omega arith), mul-suc n k)

-- how many of the numbers below k pass
unfoldable pub tally : (ℕ → Bool) → ℕ → ℕ
tally p zero = 0
tally p (suc k) = tally p k + cond (p k) 1 0

one : (b : Bool) → T b → ◌≡◌ {A = ℕ} (cond b 1 0) 1
one true t = refl
one false t = elim t [ ]

pub tally-le : (p : ℕ → Bool) (k : ℕ) → tally p k ≤ k
unfolding tally
tally-le p zero = omega arith
tally-le p (suc k) = omega (arith, tally-le p k, bit (p k))
  where
    bit : (b : Bool) → cond b 1 0 ≤ 1
    bit true = omega arith
    bit false = omega arith

pub tally-lt : (p : ℕ → Bool) (k a : ℕ) → a < k → T (p a) → tally p a < tally p k
unfolding tally
tally-lt p zero a o t = omega arith
tally-lt p (suc k) a o t = elim (eq-or-lt_of_le (le_of_suc-le-suc o)) [
  | inl e ↦ omega (arith, ap (tally p) e, one (p k) (subst (λ (u : ℕ). T (p u)) e t))
  | inr q ↦ omega (arith, tally-lt p k a q t)
]

pub tally-at : (p : ℕ → Bool) (k c : ℕ) → c < tally p k → (j : ℕ) × (j < k) × T (p j) × (tally p j ≡ c)
unfolding tally
tally-at p zero c o = absurd (none o)
  where
    none : c < 0 → ⊥
    none o = omega arith
tally-at p (suc k) c o = go (p k) refl o (tally-at p k c)
  where
    old : (j : ℕ) × (j < k) × T (p j) × (tally p j ≡ c) → (j : ℕ) × (j < suc k) × T (p j) × (tally p j ≡ c)
    old w = (w.0, omega (arith, w.1), w.2, w.3)

    go : (b : Bool) → p k ≡ b → c < tally p k + cond b 1 0 → (c < tally p k → (j : ℕ) × (j < k) × T (p j) × (tally p j ≡ c)) → (j : ℕ) × (j < suc k) × T (p j) × (tally p j ≡ c)
    go true e o r = elim (dec_lt c (tally p k)) [ yes l ↦ old (r l) | no f ↦ (k, omega arith, subst T (sym e) tt, omega (arith, o, lt_of_not-le f)) ]
    go false e o r = old (r (omega arith))
