-- Neighbours, cores and chains: nearness is mutual (`near_comm`), by d2_comm; `hits` holds exactly what passes
-- (`hits-sound`, `hits_complete`, `hits_at`) and no more than there is (`hits-length`); whether a point is a core is decided (`core?`); chains
-- are put together and turned round (`chain_trans`, `chain_back`). Assumes nothing.
use mathlib.Core.Path.{◌≡◌, refl, sym, ap, subst}
use mathlib.Core.Logic.{◌⊎◌, inl, inr}
use mathlib.Core.Bool.{Bool, true, false, cond}
use mathlib.Core.List.Memᴰ
use mathlib.Core.List.{List, [], ◌∷◌, Memᴰ}
use Prim.Native.Nat.{ℕ, zero, suc, ◌≤◌, ◌<◌}
use native.Mathlib.Nat.{eq-or-lt_of_le, le_of_suc-le-suc, not-suc-le-zero}
use native.Mathlib.Decide.{dec_le}
use native.Mathlib.Omega.{arith}
use lib.Dec.{T}
use lib.ListN.{length, get_or, length-append}
use lib.Ieee.{Float, le}
use Rattle.distance.specs.Distance.{sq}
use Rattle.distance.proofs.Same.{d2_comm}
use Rattle.tree.specs.Points.{x, y}
use Rattle.labels.specs.Labels.{near, hits, Core, Chain, here, on}

pub near_comm : (points : List Float) (epsilon : Float) (i j : ℕ) → near points epsilon i j ≡ near points epsilon j i
unfolding near
near_comm points epsilon i j = ap (λ (d : Float). le d (sq epsilon)) (d2_comm (x points i) (y points i) (x points j) (y points j))

-- ---- what is found
pub hits-length : (p : ℕ → Bool) (k : ℕ) → length (hits p k) ≤ k
unfolding hits
hits-length p zero = omega arith
hits-length p (suc k) = simp length-append (omega (arith, hits-length p k, one_more (p k)))
  where
    one_more : (b : Bool) → length (cond b (k ∷ []) []) ≤ 1
    one_more true = omega arith
    one_more false = omega arith

pub hits-sound : (p : ℕ → Bool) (k : ℕ) {j : ℕ} → Memᴰ j (hits p k) → (j < k) × T (p j)
unfolding hits
hits-sound p zero h = absurd (Memᴰ.not-nil h)
hits-sound p (suc k) {j} h = elim (Memᴰ.append_cases (hits p k) h) [
  | inl a ↦ let r = hits-sound p k a in (omega (arith, r.0), r.1)
  | inr b ↦ last (p k) refl b
]
  where
    last : (b : Bool) → p k ≡ b → Memᴰ j (cond b (k ∷ []) []) → (j < suc k) × T (p j)
    last true e m = let z = Memᴰ.eq_of_singleton m in (omega (arith, z), subst (λ (u : ℕ). T (p u)) (sym z) (subst T (sym e) tt))
    last false e m = absurd (Memᴰ.not-nil m)

pub hits_complete : (p : ℕ → Bool) (k j : ℕ) → j < k → T (p j) → Memᴰ j (hits p k)
unfolding hits
hits_complete p zero j o v = absurd (not-suc-le-zero o)
hits_complete p (suc k) j o v = elim (eq-or-lt_of_le (le_of_suc-le-suc o)) [
  | inl e ↦ Memᴰ.append_right (hits p k) (last (p k) (subst (λ (u : ℕ). T (p u)) e v) e)
  | inr b ↦ Memᴰ.append_left (cond (p k) (k ∷ []) []) (hits_complete p k j b v)
]
  where
    last : (b : Bool) → T b → j ≡ k → Memᴰ j (cond b (k ∷ []) [])
    last true t e = Memᴰ.head e
    last false t e = elim t [ ]

mem-at : (l : List ℕ) (x d : ℕ) → x < length l → Memᴰ (get_or l x d) l
mem-at [] x d o = absurd (not-suc-le-zero o)
mem-at (a ∷ l) zero d o = Memᴰ.head refl
mem-at (a ∷ l) (suc x) d o = Memᴰ.tail (mem-at l x d (le_of_suc-le-suc o))

pub hits_at : (p : ℕ → Bool) (k x : ℕ) → x < length (hits p k) → get_or (hits p k) x 0 < k
hits_at p k x o = (hits-sound p k (mem-at (hits p k) x 0 o)).0

-- ---- cores and chains
pub core? : (near : ℕ → ℕ → Bool) (n m i : ℕ) → i < n → Dec (Core near n m i)
core? near n m i h = go (dec_le 1 m) (dec_le m (length (hits (near i) n)))
  where
    go : Dec (1 ≤ m) → Dec (m ≤ length (hits (near i) n)) → Dec (Core near n m i)
    go (yes a) (yes b) = yes (record { inside = h; asked = a; many = b })
    go (yes a) (no b) = no (λ c. b c.many)
    go (no a) b = no (λ c. a c.asked)

module _ (near : ℕ → ℕ → Bool) (n m : ℕ) where
  -- no core where so many samples are asked that no point can have them, or none at all
  pub core-none : (m ≡ 0) ⊎ (n < m) → (i : ℕ) → Core near n m i → ⊥
  core-none (inl e) i c = omega (arith, c.asked)
  core-none (inr o) i c = omega (arith, c.many, hits-length (near i) n)

  pub chain_last : {i j : ℕ} → Chain near n m i j → Core near n m j
  chain_last (here c) = c
  chain_last (on h v c) = c

  pub chain_trans : {i j k : ℕ} → Chain near n m i j → Chain near n m j k → Chain near n m i k
  chain_trans p (here c) = p
  chain_trans p (on q v c) = on (chain_trans p q) v c

  pub chain_back : ((i j : ℕ) → near i j ≡ near j i) → {i j : ℕ} → Chain near n m i j → Core near n m i → Chain near n m j i
  chain_back comm (here c) d = here d
  chain_back comm (on {j = j} {k = k} p v c) d = chain_trans (on (here c) (subst T (comm j k) v) (chain_last p)) (chain_back comm p d)
