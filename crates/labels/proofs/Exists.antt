-- There are labels for any mutual relation of n points, whatever m: a list that computes (`labels_of`) meets the definition
-- (`labels_exist`), so the definition asks nothing impossible. Each core is joined to the least core that a chain reaches,
-- found by rounds in which it takes the least of its core neighbours' until none changes; those least cores are numbered as
-- they come, and a border takes the least number beside it. Assumes nothing.
use mathlib.Core.Path.{◌≡◌, refl, sym, ap, ◌∙◌, subst}
use mathlib.Core.Logic.{◌⊎◌, inl, inr}
use mathlib.Core.Bool.{Bool, true, false, cond, ◌&&◌}
use mathlib.Core.List.{List}
use Prim.Native.Nat.{ℕ, zero, suc, ◌+◌, ◌*◌, ◌≤◌, ◌<◌, min}
use native.Mathlib.Nat.{le_antisymm, lt_of_not-le, le_of_suc-le-suc, eq-or-lt_of_le}
use native.Mathlib.Decide.{dec_lt, dec_le}
use native.Mathlib.Omega.{arith}
use lib.Dec.{T, eqb, eqb→eq}
use lib.ListN.{length, get_or}
use lib.Seq.{ext_get_or}
use lib.Ieee.Fits.{and_l, and_r, and_i, eq→eqb}
use Rattle.labels.specs.Labels.{noise, Core, Chain, here, on, Border, claimed, alone, Labelled}
use Rattle.labels.proofs.Neighbours.{chain_last, chain_trans, chain_back}
use Rattle.labels.proofs.Test.{coreb, core_b, b_core}
use Rattle.labels.proofs.Tables.{tab, tab-length, tab-at, total, total-eq, total-under, tally, tally-le, tally-lt, tally-at}

module _ (near : ℕ → ℕ → Bool) (n m : ℕ) where
  -- the least of r at i and at the cores below k that are near i
  unfoldable pub lower : List ℕ → ℕ → ℕ → ℕ
  lower r i zero = get_or r i 0
  lower r i (suc k) = cond (coreb near n m k && near i k) (min (get_or r k 0) (lower r i k)) (lower r i k)

  unfoldable pub round : List ℕ → List ℕ
  round r = tab (λ i. lower r i n) n

  unfoldable pub rounds : ℕ → List ℕ
  rounds zero = tab (λ i. i) n
  rounds (suc k) = round (rounds k)

  -- the least core that a chain joins to the core i
  unfoldable pub root : ℕ → ℕ
  root i = get_or (rounds (suc (n * n))) i 0

  unfoldable pub first : ℕ → Bool
  first i = coreb near n m i && eqb (root i) i

  unfoldable pub number : ℕ → ℕ
  number i = tally first (root i)

  -- the least number of the cores below k that are near i
  unfoldable pub least : ℕ → ℕ → ℕ
  least i zero = noise
  least i (suc k) = cond (coreb near n m k && near i k) (min (number k) (least i k)) (least i k)

  unfoldable pub label_of : ℕ → ℕ
  label_of i = cond (coreb near n m i) (number i) (least i n)

  unfoldable pub labels_of : List ℕ
  labels_of = tab label_of n

module _ (near : ℕ → ℕ → Bool) (n m : ℕ) where
  abbrev R : ℕ → ℕ → ℕ
  R k i = get_or (rounds near n m k) i 0

  lower-own : (r : List ℕ) (i k : ℕ) → lower near n m r i k ≤ get_or r i 0
  unfolding lower
  lower-own r i zero = omega arith
  lower-own r i (suc k) = go (coreb near n m k && near i k) (lower-own r i k)
    where
      go : (b : Bool) → lower near n m r i k ≤ get_or r i 0 → cond b (min (get_or r k 0) (lower near n m r i k)) (lower near n m r i k) ≤ get_or r i 0
      go true h = omega arith
      go false h = h

  lower-le : (r : List ℕ) (i k j : ℕ) → j < k → T (coreb near n m j && near i j) → lower near n m r i k ≤ get_or r j 0
  unfolding lower
  lower-le r i zero j o t = omega arith
  lower-le r i (suc k) j o t = go (coreb near n m k && near i k) refl (eq-or-lt_of_le (le_of_suc-le-suc o)) (λ q. lower-le r i k j q t)
    where
      go : (b : Bool) → (coreb near n m k && near i k) ≡ b → (j ≡ k) ⊎ (j < k) → (j < k → lower near n m r i k ≤ get_or r j 0) → cond b (min (get_or r k 0) (lower near n m r i k)) (lower near n m r i k) ≤ get_or r j 0
      go true e (inl z) f = omega (arith, ap (λ (u : ℕ). get_or r u 0) z)
      go true e (inr q) f = omega (arith, f q)
      go false e (inl z) f = absurd (subst T e (subst (λ (u : ℕ). T (coreb near n m u && near i u)) z t))
      go false e (inr q) f = f q

  lower-is : (P : ℕ → Type 0) (r : List ℕ) (i k : ℕ) → P (get_or r i 0) → ((j : ℕ) → j < k → T (coreb near n m j && near i j) → P (get_or r j 0)) → P (lower near n m r i k)
  unfolding lower
  lower-is P r i zero p f = p
  lower-is P r i (suc k) p f = go (coreb near n m k && near i k) refl (lower-is P r i k p (λ j o t. f j (omega arith) t))
    where
      least_of : (a b : ℕ) → P a → P b → P (min a b)
      least_of a b x y = elim (dec_le a b) [ yes o ↦ subst P (omega arith) x | no g ↦ subst P (omega (arith, lt_of_not-le g)) y ]

      go : (b : Bool) → (coreb near n m k && near i k) ≡ b → P (lower near n m r i k) → P (cond b (min (get_or r k 0) (lower near n m r i k)) (lower near n m r i k))
      go true e h = least_of (get_or r k 0) (lower near n m r i k) (f k (omega arith) (subst T (sym e) tt)) h
      go false e h = h

  at_next : (k i : ℕ) → i < n → R (suc k) i ≡ lower near n m (rounds near n m k) i n
  unfolding rounds round
  at_next k i o = tab-at (λ j. lower near n m (rounds near n m k) j n) n i 0 o

  at_start : (i : ℕ) → i < n → R 0 i ≡ i
  unfolding rounds
  at_start i o = tab-at (λ j. j) n i 0 o

  size : (k : ℕ) → length (rounds near n m k) ≡ n
  unfolding rounds round
  size zero = tab-length (λ i. i) n
  size (suc k) = tab-length (λ i. lower near n m (rounds near n m k) i n) n

  -- a chain leads there
  reach : (k i : ℕ) → Core near n m i → Chain near n m i (R k i)
  reach zero i c = subst (Chain near n m i) (sym (at_start i c.inside)) (here c)
  reach (suc k) i c =
      subst (Chain near n m i) (sym (at_next k i c.inside))
      (lower-is (Chain near n m i) (rounds near n m k) i n (reach k i c)
      (λ j o t. let d = b_core near n m j o (and_l (coreb near n m j) (near i j) t) in chain_trans near n m (on (here c) (and_r (coreb near n m j) (near i j) t) d) (reach k j d)))

  down : (k i : ℕ) → i < n → R (suc k) i ≤ R k i
  down k i o = omega (arith, at_next k i o, lower-own (rounds near n m k) i n)

  under : (k i : ℕ) → i < n → R k i ≤ i
  under zero i o = omega (arith, at_start i o)
  under (suc k) i o = omega (arith, under k i o, down k i o)

  again : (k : ℕ) → rounds near n m (suc k) ≡ rounds near n m k → rounds near n m (suc (suc k)) ≡ rounds near n m (suc k)
  unfolding rounds
  again k e = ap (round near n m) e

  settle : (k : ℕ) → (rounds near n m (suc k) ≡ rounds near n m k) ⊎ (total (R k) n + k ≤ total (R 0) n)
  settle zero = inr (omega arith)
  settle (suc k) = go (settle k)
    where
      new : total (R k) n + k ≤ total (R 0) n → Dec (total (R (suc k)) n < total (R k) n) → (rounds near n m (suc (suc k)) ≡ rounds near n m (suc k)) ⊎ (total (R (suc k)) n + suc k ≤ total (R 0) n)
      new h (yes o) = inr (omega arith)
      new h (no f) = inl (again k (ext_get_or 0 (rounds near n m (suc k)) (rounds near n m k) (size (suc k) ∙ sym (size k)) (λ i o. total-eq (R (suc k)) (R k) n (down k) (le_of_suc-le-suc (lt_of_not-le f)) i (omega (arith, o, size (suc k))))))

      go : (rounds near n m (suc k) ≡ rounds near n m k) ⊎ (total (R k) n + k ≤ total (R 0) n) → (rounds near n m (suc (suc k)) ≡ rounds near n m (suc k)) ⊎ (total (R (suc k)) n + suc k ≤ total (R 0) n)
      go (inl e) = inl (again k e)
      go (inr h) = new h (dec_lt (total (R (suc k)) n) (total (R k) n))

  settled : rounds near n m (suc (suc (n * n))) ≡ rounds near n m (suc (n * n))
  settled = elim (settle (suc (n * n))) [ inl e ↦ e | inr h ↦ absurd (over h) ]
    where
      over : total (R (suc (n * n))) n + suc (n * n) ≤ total (R 0) n → ⊥
      over h = omega (arith, h, total-under (R 0) n n (λ i o. omega (arith, at_start i o)))

module _ (near : ℕ → ℕ → Bool) (n m : ℕ) (comm : (i j : ℕ) → near i j ≡ near j i) where
  root-le : (i j : ℕ) → Core near n m i → Core near n m j → T (near i j) → root near n m i ≤ root near n m j
  unfolding root
  root-le i j c d v =
      omega (
        arith,
        ap (λ (r : List ℕ). get_or r i 0) (settled near n m),
        at_next near n m (suc (n * n)) i c.inside,
        lower-le near n m (rounds near n m (suc (n * n))) i n j d.inside (and_i (coreb near n m j) (near i j) (core_b near n m j d) v),
      )

  root-same : (i j : ℕ) → Chain near n m i j → root near n m i ≡ root near n m j
  root-same i j (here c) = refl
  root-same i k (on {j = j} p v c) =
      let d = chain_last near n m p in
      root-same i j p ∙ le_antisymm (root-le j k d c v) (root-le k j c d (subst T (comm j k) v))

  to-root : (i : ℕ) → Core near n m i → Chain near n m i (root near n m i)
  unfolding root
  to-root i c = reach near n m (suc (n * n)) i c

  root-under : (i : ℕ) → i < n → root near n m i ≤ i
  unfolding root
  root-under i o = under near n m (suc (n * n)) i o

  root_joins : (i j : ℕ) → Core near n m i → Core near n m j → root near n m i ≡ root near n m j → Chain near n m i j
  root_joins i j c d e = chain_trans near n m (subst (Chain near n m i) e (to-root i c)) (chain_back near n m comm (to-root j d) d)

  root-first : (i : ℕ) → Core near n m i → T (first near n m (root near n m i))
  unfolding first
  root-first i c =
      let r = root near n m i in
      and_i (coreb near n m r) (eqb (root near n m r) r) (core_b near n m r (chain_last near n m (to-root i c))) (eq→eqb (sym (root-same i r (to-root i c))))

  number_joins : (i j : ℕ) → Core near n m i → Core near n m j → number near n m i ≡ number near n m j → root near n m i ≡ root near n m j
  unfolding number
  number_joins i j c d e = le_antisymm (le_of_suc-le-suc (lt_of_not-le (λ (o : suc (root near n m j) ≤ root near n m i). high o))) (le_of_suc-le-suc (lt_of_not-le (λ (o : suc (root near n m i) ≤ root near n m j). low o)))
    where
      high : root near n m j < root near n m i → ⊥
      high o = omega (arith, e, tally-lt (first near n m) (root near n m i) (root near n m j) o (root-first j d))

      low : root near n m i < root near n m j → ⊥
      low o = omega (arith, e, tally-lt (first near n m) (root near n m j) (root near n m i) o (root-first i c))

  at : (i : ℕ) → i < n → get_or (labels_of near n m) i noise ≡ label_of near n m i
  unfolding labels_of
  at i o = tab-at (label_of near n m) n i noise o

  pick : (b : Bool) (x y : ℕ) → T b → cond b x y ≡ x
  pick true x y t = refl
  pick false x y t = elim t [ ]

  core_at : (i : ℕ) → Core near n m i → get_or (labels_of near n m) i noise ≡ number near n m i
  unfolding label_of
  core_at i c = at i c.inside ∙ pick (coreb near n m i) (number near n m i) (least near n m i n) (core_b near n m i c)

  other_at : (i : ℕ) → i < n → (Core near n m i → ⊥) → get_or (labels_of near n m) i noise ≡ least near n m i n
  unfolding label_of
  other_at i o f = at i o ∙ go (coreb near n m i) refl
    where
      go : (b : Bool) → coreb near n m i ≡ b → cond b (number near n m i) (least near n m i n) ≡ least near n m i n
      go true e = absurd (f (b_core near n m i o (subst T (sym e) tt)))
      go false e = refl

  number-first : (j : ℕ) → T (first near n m j) → number near n m j ≡ tally (first near n m) j
  unfolding first number
  number-first j t = ap (tally (first near n m)) (eqb→eq (root near n m j) j (and_r (coreb near n m j) (eqb (root near n m j) j) t))

  is-core : (j : ℕ) → T (first near n m j) → T (coreb near n m j)
  unfolding first
  is-core j t = and_l (coreb near n m j) (eqb (root near n m j) j) t

  rise : (i c : ℕ) → Core near n m i → c < number near n m i → (j : ℕ) × Core near n m j × (j < i) × (number near n m j ≡ c)
  unfolding number
  rise i c d o =
      let w = tally-at (first near n m) (root near n m i) c o in
      let u = root-under i d.inside in
      let in-n : w.0 < n = omega (arith, w.1, u, d.inside) in
      (w.0, b_core near n m w.0 in-n (is-core w.0 w.2), omega (arith, w.1, u), number-first w.0 w.2 ∙ w.3)

  -- the least number, or none
  data Least (i k x : ℕ) : Type 0 where
    some : (j : ℕ) → j < k → T (coreb near n m j && near i j) → x ≡ number near n m j → ((l : ℕ) → l < k → T (coreb near n m l && near i l) → x ≤ number near n m l) → Least i k x
    none : ((l : ℕ) → l < k → T (coreb near n m l && near i l) → ⊥) → x ≡ noise → Least i k x

  number-le : (k : ℕ) → k < n → number near n m k ≤ k
  unfolding number
  number-le k o = omega (arith, tally-le (first near n m) (root near n m k), root-under k o)

  -- one more number: passed over, or taken if it is less
  passed : (i k x : ℕ) → (coreb near n m k && near i k) ≡ false → Least i k x → Least i (suc k) x
  passed i k x e (some j o t q f) = some j (omega arith) t q (λ l p u. elim (eq-or-lt_of_le (le_of_suc-le-suc p)) [ inl z ↦ absurd (subst T e (subst (λ (u : ℕ). T (coreb near n m u && near i u)) z u)) | inr y ↦ f l y u ])
  passed i k x e (none f q) = none (λ l p u. elim (eq-or-lt_of_le (le_of_suc-le-suc p)) [ inl z ↦ subst T e (subst (λ (u : ℕ). T (coreb near n m u && near i u)) z u) | inr y ↦ f l y u ]) q

  taken : n ≤ noise → (i k x : ℕ) → k < n → T (coreb near n m k && near i k) → Least i k x → Least i (suc k) (min (number near n m k) x)
  taken few i k x o t (some j p u q f) = elim (dec_le (number near n m k) x) [
    | yes a ↦ some k (omega arith) t (omega arith) (λ l b v. elim (eq-or-lt_of_le (le_of_suc-le-suc b)) [ inl z ↦ omega (arith, ap (number near n m) z) | inr y ↦ omega (arith, f l y v) ])
    | no a ↦ some j (omega arith) u (omega (arith, lt_of_not-le a, q)) (λ l b v. elim (eq-or-lt_of_le (le_of_suc-le-suc b)) [ inl z ↦ omega (arith, ap (number near n m) z, lt_of_not-le a) | inr y ↦ omega (arith, f l y v, lt_of_not-le a) ])
  ]
  taken few i k x o t (none f q) =
      some k (omega arith) t (omega (arith, few, o, number-le k o, q)) (λ l b v. elim (eq-or-lt_of_le (le_of_suc-le-suc b)) [ inl z ↦ omega (arith, ap (number near n m) z) | inr y ↦ absurd (f l y v) ])

  least-is : n ≤ noise → (i k : ℕ) → k ≤ n → Least i k (least near n m i k)
  unfolding least
  least-is few i zero o = none (λ l p u. zero-none l p) refl
    where
      zero-none : (l : ℕ) → l < 0 → ⊥
      zero-none l p = omega arith
  least-is few i (suc k) o = go (coreb near n m k && near i k) refl (least-is few i k (omega arith))
    where
      go : (b : Bool) → (coreb near n m k && near i k) ≡ b → Least i k (least near n m i k) → Least i (suc k) (cond b (min (number near n m k) (least near n m i k)) (least near n m i k))
      go true e h = taken few i k (least near n m i k) o (subst T (sym e) tt) h
      go false e h = passed i k (least near n m i k) e h

  edge : (i : ℕ) → i < n → (Core near n m i → ⊥) → Least i n (least near n m i n) → Border near n m (labels_of near n m) i
  edge i o f (some j p u q g) =
      let c = b_core near n m j p (and_l (coreb near n m j) (near i j) u) in
      claimed j c (and_r (coreb near n m j) (near i j) u) (other_at i o f ∙ q ∙ sym (core_at j c))
      (λ k d v. omega (arith, other_at i o f, core_at k d, g k d.inside (and_i (coreb near n m k) (near i k) (core_b near n m k d) v)))
  edge i o f (none g q) = alone (λ k d v. g k d.inside (and_i (coreb near n m k) (near i k) (core_b near n m k d) v)) (other_at i o f ∙ q)

  number_same : (i j : ℕ) → Chain near n m i j → number near n m i ≡ number near n m j
  unfolding number
  number_same i j p = ap (tally (first near n m)) (root-same i j p)

  count_of : length (labels_of near n m) ≡ n
  unfolding labels_of
  count_of = tab-length (label_of near n m) n

  pub labels_exist : n ≤ noise → Labelled near n m (labels_of near n m)
  labels_exist few =
      record {
        count = count_of;
        shared = λ i j c d p. core_at i c ∙ number_same i j p ∙ sym (core_at j d);
        joined = λ i j c d e. root_joins i j c d (number_joins i j c d (sym (core_at i c) ∙ e ∙ core_at j d));
        rising = λ i c d o. let w = rise i c d (omega (arith, o, core_at i d)) in (w.0, w.1, w.2, core_at w.0 w.1 ∙ w.3);
        border = λ i o f. edge i o f (least-is few i n (omega arith));
      }
