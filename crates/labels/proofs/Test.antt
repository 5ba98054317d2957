-- A test of labels that computes (`passes`), and that it is sound: labels that pass are the labels (`passes-sound`). Chains
-- are tried to a given number of steps; a test that passes needs no more. It is for worked examples. Assumes nothing.
use mathlib.Core.Path.{◌≡◌, refl, sym, ◌∙◌, subst}
use mathlib.Core.Logic.{◌⊎◌, inl, inr}
use mathlib.Core.Bool.{Bool, true, false, not, cond, ◌&&◌, ◌||◌}
use mathlib.Core.List.{List}
use Prim.Native.Nat.{ℕ, zero, suc, ◌<◌}
use native.Mathlib.Nat.{eq-or-lt_of_le, le_of_suc-le-suc}
use native.Mathlib.Omega.{arith}
use lib.Dec.{T, leb, eqb, leb→le, le→leb, eqb→eq}
use lib.ListN.{length, get_or}
use lib.Ieee.Fits.{and_l, and_r, and_i, eq→eqb}
use Rattle.labels.specs.Labels.{noise, hits, Core, Chain, here, on, Border, claimed, alone, Labelled}
use Rattle.labels.proofs.Neighbours.{chain_last}

-- ---- for all, and for some, of the numbers below k
unfoldable pub all : (ℕ → Bool) → ℕ → Bool
all p zero = true
all p (suc k) = all p k && p k

unfoldable pub any : (ℕ → Bool) → ℕ → Bool
any p zero = false
any p (suc k) = any p k || p k

unfoldable pub implies : Bool → Bool → Bool
implies a b = not a || b

apply : (a b : Bool) → T (implies a b) → T a → T b
unfolding implies
apply true b h p = h
apply false b h p = absurd p

last_or_below : {i k : ℕ} → i < suc k → (i ≡ k) ⊎ (i < k)
last_or_below h = eq-or-lt_of_le (le_of_suc-le-suc h)

none : {i : ℕ} → i < 0 → ⊥
none l = omega arith

pub all-at : (p : ℕ → Bool) (k i : ℕ) → T (all p k) → i < k → T (p i)
unfolding all
all-at p zero i h l = absurd (none l)
all-at p (suc k) i h l = elim (last_or_below l) [ inl e ↦ subst (λ (j : ℕ). T (p j)) (sym e) (and_r (all p k) (p k) h) | inr b ↦ all-at p k i (and_l (all p k) (p k) h) b ]

or_split : (a b : Bool) → T (a || b) → T a ⊎ T b
or_split true b h = inl tt
or_split false b h = inr h

pub any_at : (p : ℕ → Bool) (k : ℕ) → T (any p k) → (i : ℕ) × (i < k) × T (p i)
unfolding any
any_at p (suc k) h = go (or_split (any p k) (p k) h) (any_at p k)
  where
    go : T (any p k) ⊎ T (p k) → (T (any p k) → (i : ℕ) × (i < k) × T (p i)) → (i : ℕ) × (i < suc k) × T (p i)
    go (inl a) r = let w = r a in (w.0, omega arith, w.2)
    go (inr b) r = (k, omega arith, b)
any_at p zero h = elim h [ ]

pub any_of : (p : ℕ → Bool) (k i : ℕ) → i < k → T (p i) → T (any p k)
unfolding any
any_of p zero i l h = absurd (none l)
any_of p (suc k) i l h = elim (last_or_below l) [ inl e ↦ or_r (any p k) (p k) (subst (λ (j : ℕ). T (p j)) e h) | inr b ↦ or_l (any p k) (p k) (any_of p k i b h) ]
  where
    or_l : (a b : Bool) → T a → T (a || b)
    or_l true b t = tt
    or_l false b t = absurd t

    or_r : (a b : Bool) → T b → T (a || b)
    or_r true b t = tt
    or_r false b t = t

-- ---- the test
module _ (near : ℕ → ℕ → Bool) (n m : ℕ) where
  unfoldable pub coreb : ℕ → Bool
  coreb i = leb 1 m && leb m (length (hits (near i) n))

  -- by a chain of at most f steps
  unfoldable pub within : ℕ → ℕ → ℕ → Bool
  within zero i k = eqb i k
  within (suc f) i k = within f i k || any (λ j. near j k && (coreb j && within f i j)) n

  module _ (f : ℕ) (labels : List ℕ) where
    abbrev lab : ℕ → ℕ
    lab i = get_or labels i noise

    unfoldable pub pairs : ℕ → ℕ → Bool
    pairs i j = implies (coreb i && coreb j) (implies (near i j) (eqb (lab i) (lab j)) && implies (eqb (lab i) (lab j)) (within f i j))

    unfoldable pub rises : ℕ → Bool
    rises i = all (λ c. any (λ j. coreb j && eqb (lab j) c) i) (cond (coreb i) (lab i) 0)

    unfoldable pub beside : ℕ → ℕ → Bool
    beside i j = coreb j && near i j

    unfoldable pub borders : ℕ → Bool
    borders i =
        coreb i
        || cond (any (beside i) n)
        (any (λ j. beside i j && eqb (lab i) (lab j)) n && all (λ k. implies (beside i k) (leb (lab i) (lab k))) n)
        (eqb (lab i) noise)

    unfoldable pub passes : Bool
    passes = eqb (length labels) n && (all (λ i. all (pairs i) n) n && (all rises n && all borders n))

module _ (near : ℕ → ℕ → Bool) (n m : ℕ) where
  pub core_b : (i : ℕ) → Core near n m i → T (coreb near n m i)
  unfolding coreb
  core_b i c = and_i (leb 1 m) (leb m (length (hits (near i) n))) (le→leb 1 m c.asked) (le→leb m (length (hits (near i) n)) c.many)

  pub b_core : (i : ℕ) → i < n → T (coreb near n m i) → Core near n m i
  unfolding coreb
  b_core i l h = record { inside = l; asked = leb→le 1 m (and_l (leb 1 m) (leb m (length (hits (near i) n))) h); many = leb→le m (length (hits (near i) n)) (and_r (leb 1 m) (leb m (length (hits (near i) n))) h) }

  within_chain : (f i k : ℕ) → Core near n m i → Core near n m k → T (within near n m f i k) → Chain near n m i k
  unfolding within
  within_chain zero i k c d h = subst (λ (z : ℕ). Chain near n m i z) (eqb→eq i k h) (here c)
  within_chain (suc f) i k c d h = go (or_split (within near n m f i k) (any _ n) h) (λ j e. within_chain f i j c e)
    where
      go : T (within near n m f i k) ⊎ T (any (λ j. near j k && (coreb near n m j && within near n m f i j)) n) → ((j : ℕ) → Core near n m j → T (within near n m f i j) → Chain near n m i j) → Chain near n m i k
      go (inl a) r = r k d a
      go (inr b) r =
          let w = any_at (λ j. near j k && (coreb near n m j && within near n m f i j)) n b in
          let j = w.0 in
          let x = coreb near n m j && within near n m f i j in
          let y = and_r (near j k) x w.2 in
          on (r j (b_core j w.1 (and_l (coreb near n m j) (within near n m f i j) y)) (and_r (coreb near n m j) (within near n m f i j) y)) (and_l (near j k) x w.2) d

  module _ (f : ℕ) (labels : List ℕ) (t : T (passes near n m f labels)) where
    all-pairs : T (all (λ i. all (pairs near n m f labels i) n) n)
    unfolding passes
    all-pairs = and_l (all (λ i. all (pairs near n m f labels i) n) n) (all (rises near n m f labels) n && all (borders near n m f labels) n) (and_r (eqb (length labels) n) _ t)

    all_rise : T (all (rises near n m f labels) n)
    unfolding passes
    all_rise = and_l (all (rises near n m f labels) n) (all (borders near n m f labels) n) (and_r (all (λ i. all (pairs near n m f labels i) n) n) _ (and_r (eqb (length labels) n) _ t))

    all-border : T (all (borders near n m f labels) n)
    unfolding passes
    all-border = and_r (all (rises near n m f labels) n) (all (borders near n m f labels) n) (and_r (all (λ i. all (pairs near n m f labels i) n) n) _ (and_r (eqb (length labels) n) _ t))

    pair : (i j : ℕ) → Core near n m i → Core near n m j → T (implies (near i j) (eqb (get_or labels i noise) (get_or labels j noise)) && implies (eqb (get_or labels i noise) (get_or labels j noise)) (within near n m f i j))
    unfolding pairs
    pair i j c d =
        apply (coreb near n m i && coreb near n m j) _
        (all-at (pairs near n m f labels i) n j (all-at (λ k. all (pairs near n m f labels k) n) n i all-pairs c.inside) d.inside)
        (and_i (coreb near n m i) (coreb near n m j) (core_b i c) (core_b j d))

    same : (i j : ℕ) → Chain near n m i j → get_or labels i noise ≡ get_or labels j noise
    same i j (here c) = refl
    same i k (on {j = j} h v c) = same i j h ∙ eqb→eq (get_or labels j noise) (get_or labels k noise) (apply (near j k) (eqb (get_or labels j noise) (get_or labels k noise)) (and_l (implies (near j k) (eqb (get_or labels j noise) (get_or labels k noise))) _ (pair j k (chain_last near n m h) c)) v)

    reach : (i j : ℕ) → Core near n m i → Core near n m j → get_or labels i noise ≡ get_or labels j noise → Chain near n m i j
    reach i j c d e = within_chain f i j c d (apply (eqb (get_or labels i noise) (get_or labels j noise)) (within near n m f i j) (and_r (implies (near i j) (eqb (get_or labels i noise) (get_or labels j noise))) _ (pair i j c d)) (eq→eqb e))

    rise : (i c : ℕ) → Core near n m i → c < get_or labels i noise → (j : ℕ) × Core near n m j × (j < i) × (get_or labels j noise ≡ c)
    unfolding rises
    rise i c d l =
        let a = all-at (rises near n m f labels) n i all_rise d.inside in
        let w = any_at (λ j. coreb near n m j && eqb (get_or labels j noise) c) i (all-at (λ e. any (λ j. coreb near n m j && eqb (get_or labels j noise) e) i) (cond (coreb near n m i) (get_or labels i noise) 0) c a (below (coreb near n m i) (core_b i d))) in
        let j = w.0 in
        let k : j < n = omega (arith, w.1, d.inside) in
        (j, b_core j k (and_l (coreb near n m j) (eqb (get_or labels j noise) c) w.2), w.1, eqb→eq (get_or labels j noise) c (and_r (coreb near n m j) (eqb (get_or labels j noise) c) w.2))
      where
        below : (b : Bool) → T b → c < cond b (get_or labels i noise) 0
        below true x = l
        below false x = elim x [ ]

    edge : (i : ℕ) → i < n → (Core near n m i → ⊥) → Border near n m labels i
    unfolding borders beside
    edge i l no-core = pick (or_split (coreb near n m i) _ (all-at (borders near n m f labels) n i all-border l))
      where
        near-core : ℕ → Bool
        near-core j = coreb near n m j && near i j

        inner : (b : Bool) → any near-core n ≡ b
            → T (cond b (any (λ j. near-core j && eqb (get_or labels i noise) (get_or labels j noise)) n && all (λ k. implies (near-core k) (leb (get_or labels i noise) (get_or labels k noise))) n) (eqb (get_or labels i noise) noise))
            → Border near n m labels i
        inner true e h =
            let w = any_at (λ j. near-core j && eqb (get_or labels i noise) (get_or labels j noise)) n (and_l (any (λ j. near-core j && eqb (get_or labels i noise) (get_or labels j noise)) n) _ h) in
            let j = w.0 in
            let u = and_l (near-core j) (eqb (get_or labels i noise) (get_or labels j noise)) w.2 in
            claimed j (b_core j w.1 (and_l (coreb near n m j) (near i j) u)) (and_r (coreb near n m j) (near i j) u) (eqb→eq (get_or labels i noise) (get_or labels j noise) (and_r (near-core j) _ w.2))
            (λ k c v. leb→le (get_or labels i noise) (get_or labels k noise) (apply (near-core k) _ (all-at (λ k. implies (near-core k) (leb (get_or labels i noise) (get_or labels k noise))) n k (and_r (any (λ j. near-core j && eqb (get_or labels i noise) (get_or labels j noise)) n) _ h) c.inside) (and_i (coreb near n m k) (near i k) (core_b k c) v)))
        inner false e h = alone (λ k c v. subst T e (any_of near-core n k c.inside (and_i (coreb near n m k) (near i k) (core_b k c) v))) (eqb→eq (get_or labels i noise) noise h)

        pick : T (coreb near n m i) ⊎ T (cond (any near-core n) (any (λ j. near-core j && eqb (get_or labels i noise) (get_or labels j noise)) n && all (λ k. implies (near-core k) (leb (get_or labels i noise) (get_or labels k noise))) n) (eqb (get_or labels i noise) noise)) → Border near n m labels i
        pick (inl a) = absurd (no-core (b_core i l a))
        pick (inr b) = inner (any near-core n) refl b

    pub passes-sound : Labelled near n m labels
    unfolding passes
    passes-sound = record { count = eqb→eq (length labels) n (and_l (eqb (length labels) n) _ t); shared = λ i j c d h. same i j h; joined = reach; rising = rise; border = edge }
