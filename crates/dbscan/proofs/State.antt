-- The labels on their way: what holds at the start (`state_start`), that each step keeps it, and that at the end they are
-- the labels (`state-labels`). A point that takes a label waits, or is no core; a core leaves the queue only once all its
-- neighbours have labels, and those that had one before have a lower one. Assumes nothing.
use mathlib.Core.Path.{◌≡◌, refl, sym, ap, ◌∙◌, subst}
use mathlib.Core.Logic.{◌⊎◌, inl, inr}
use mathlib.Core.Bool.{Bool}
use mathlib.Core.List.{List}
use Prim.Native.Nat.{ℕ, suc, ◌≤◌, ◌<◌}
use native.Mathlib.Nat.{le_antisymm, lt_of_not-le, le_of_suc-le-suc, eq-or-lt_of_le}
use native.Mathlib.Decide.{dec_lt, ℕ_discrete}
use native.Mathlib.Omega.{arith}
use lib.Dec.{T}
use lib.ListN.{length, get_or, set, length-set, replicate, length-replicate, get_or-replicate, get_or-eq_default}
use lib.Seq.{get_or-set_same, get_or-set_other}
use Rattle.labels.specs.Labels.{noise, Core, Chain, here, on, Border, claimed, alone, Labelled}
use Rattle.labels.proofs.Neighbours.{chain_trans, chain_last}
use Rattle.dbscan.specs.Growing.{Waits, State}

-- ---- what waits, once k is put at the end
waits_still : (w : List ℕ) (h t k j : ℕ) → Waits w h t j → Waits (set w t k) h (suc t) j
waits_still w h t k j (x, a, b, e) = (x, a, omega arith, get_or-set_other w t x k 0 (λ z. omega (arith, z, b)) ∙ e)

waits_last : (w : List ℕ) (h t k : ℕ) → t < length w → h ≤ t → Waits (set w t k) h (suc t) k
waits_last w h t k room order = (t, order, omega arith, get_or-set_same w t k 0 room)

module _ (near : ℕ → ℕ → Bool) (n m : ℕ) where
  -- all is noise
  pub state_start : (w : List ℕ) (h : ℕ) → State near n m 0 0 w h h (replicate n noise)
  state_start w h =
      record {
        size = length-replicate n noise;
        few = omega arith;
        top = λ j. omega (arith, all j (dec_lt j n));
        low = λ j l. absurd (never j l);
        done = λ j c l. absurd (none j l);
        closed = λ j k c l. absurd (never j l);
        joined = λ j k c d l. absurd (never j l);
        rising = λ j d c l. absurd (never j l);
        each = λ d l. absurd (none d l);
        border = λ j l. absurd (never j l);
      }
    where
      all : (j : ℕ) → Dec (j < n) → get_or (replicate n noise) j noise ≡ noise
      all j (yes l) = get_or-replicate n j noise noise l
      all j (no f) = get_or-eq_default (replicate n noise) noise (subst (λ (k : ℕ). k ≤ j) (sym (length-replicate n noise)) (le_of_suc-le-suc (lt_of_not-le f)))

      never : (j : ℕ) → get_or (replicate n noise) j noise < noise → ⊥
      never j l = omega (arith, all j (dec_lt j n))

      none : (j : ℕ) → j < 0 → ⊥
      none j l = omega arith

  -- nothing waits: what the work holds is no matter
  pub state-rest : {i c : ℕ} {w : List ℕ} {h : ℕ} {l : List ℕ} → State near n m i c w h h l → (w' : List ℕ) (h' t' : ℕ) → State near n m i c w' h' t' l
  state-rest {h = h} {l = l} s w' h' t' =
      record {
        size = s.size;
        few = s.few;
        top = s.top;
        low = s.low;
        done = s.done;
        joined = s.joined;
        rising = s.rising;
        each = s.each;
        border = s.border;
        closed = λ j k c q o v. inr (elim (s.closed j k c q o v) [ inl x ↦ absurd (empty x.0 x.1 x.2) | inr y ↦ y ]);
      }
    where
      empty : (x : ℕ) → h ≤ x → x < h → ⊥
      empty x a b = omega arith

  -- the first that waits is expanded
  pub state-next : {i c : ℕ} {w : List ℕ} {h t : ℕ} {l : List ℕ} → State near n m i c w h t l
      → (Core near n m (get_or w h 0) → (k : ℕ) → k < n → T (near (get_or w h 0) k) → get_or l k noise ≤ get_or l (get_or w h 0) noise)
      → State near n m i c w (suc h) t l
  state-next {w = w} {h = h} {t = t} {l = l} s f =
      record {
        size = s.size;
        few = s.few;
        top = s.top;
        low = s.low;
        done = s.done;
        joined = s.joined;
        rising = s.rising;
        each = s.each;
        border = s.border;
        closed = λ j k c q o v. go j k c o v (s.closed j k c q o v);
      }
    where
      go : (j k : ℕ) → Core near n m j → k < n → T (near j k) → Waits w h t j ⊎ (get_or l k noise ≤ get_or l j noise) → Waits w (suc h) t j ⊎ (get_or l k noise ≤ get_or l j noise)
      go j k c o v (inl (x, a, b, e)) = elim (eq-or-lt_of_le a) [
        | inl z ↦ inr (let y : get_or w h 0 ≡ j = ap (λ (u : ℕ). get_or w u 0) z ∙ e in subst (λ (u : ℕ). get_or l k noise ≤ get_or l u noise) y (f (subst (Core near n m) (sym y) c) k o (subst (λ (u : ℕ). T (near u k)) (sym y) v)))
        | inr z ↦ inl (x, z, b, e)
      ]
      go j k c o v (inr y) = inr y

  -- the point i is no core, or has a label
  pub state-skip : {i c : ℕ} {w : List ℕ} {h t : ℕ} {l : List ℕ} → State near n m i c w h t l → (Core near n m i → get_or l i noise < noise) → State near n m (suc i) c w h t l
  state-skip {i = i} {l = l} s f =
      record {
        size = s.size;
        few = omega (arith, s.few);
        top = s.top;
        low = s.low;
        closed = s.closed;
        joined = s.joined;
        rising = s.rising;
        border = s.border;
        done = λ j c o. elim (eq-or-lt_of_le (le_of_suc-le-suc o)) [ inl e ↦ subst (λ (k : ℕ). get_or l k noise < noise) (sym e) (f (subst (Core near n m) e c)) | inr b ↦ s.done j c b ];
        each = λ d o. let w = s.each d o in (w.0, w.1, omega (arith, w.2), w.3);
      }

module _ (near : ℕ → ℕ → Bool) (n m : ℕ) (comm : (i j : ℕ) → near i j ≡ near j i) where
  -- all points are passed, and nothing waits
  pub state-labels : {c : ℕ} {w : List ℕ} {h : ℕ} {l : List ℕ} → State near n m n c w h h l → Labelled near n m l
  state-labels {h = h} {l = l} s = record { count = s.size; shared = λ i j c d p. same i j p; joined = λ i j c d e. s.joined i j c d (s.done i c c.inside) e; rising = λ i d c o. s.rising i d c (s.done i c c.inside) o; border = λ i o f. edge i o f (dec_lt (get_or l i noise) noise) }
    where
      under : (j k : ℕ) → Core near n m j → k < n → T (near j k) → get_or l k noise ≤ get_or l j noise
      under j k c o v = elim (s.closed j k c (s.done j c c.inside) o v) [ inl x ↦ omega (arith, x.1, x.2) | inr y ↦ y ]

      same : (i j : ℕ) → Chain near n m i j → get_or l i noise ≡ get_or l j noise
      same i j (here c) = refl
      same i k (on {j = j} p v c) = same i j p ∙ le_antisymm (under k j c (chain_last near n m p).inside (subst T (comm j k) v)) (under j k (chain_last near n m p) c.inside v)

      edge : (i : ℕ) → i < n → (Core near n m i → ⊥) → Dec (get_or l i noise < noise) → Border near n m l i
      edge i o f (yes p) = let w = s.border i p f in claimed w.0 w.1 (subst T (comm w.0 i) w.2) (sym w.3) (λ k c v. under k i c o (subst T (comm i k) v))
      edge i o f (no p) = alone (λ k c v. let u = under k i c o (subst T (comm i k) v) in let d = s.done k c c.inside in p (omega arith)) (le_antisymm (s.top i) (le_of_suc-le-suc (lt_of_not-le p)))

  -- a point k that has none takes the label c; if it is a core, it is among those that wait then
  module _ {i c' : ℕ} {w : List ℕ} {h t : ℕ} {l : List ℕ} (s : State near n m i c' w h t l) (k c : ℕ) (w' : List ℕ) (t' : ℕ)
      (inside : k < n) (bare : get_or l k noise ≡ noise) (fits : c < noise) (more : c' ≤ suc c)
      (still : (j : ℕ) → Waits w h t j → Waits w' h t' j) (mine : Core near n m k → Waits w' h t' k) where
    own : get_or (set l k c) k noise ≡ c
    own = get_or-set_same l k c noise (subst (λ (z : ℕ). k < z) (sym s.size) inside)

    kept : (j : ℕ) → get_or l j noise < noise → get_or (set l k c) j noise ≡ get_or l j noise
    kept j o = get_or-set_other l k j c noise (λ e. let z = ap (λ (u : ℕ). get_or l u noise) e in omega (arith, z, o, bare))

    other : (j : ℕ) → (j ≡ k → ⊥) → get_or (set l k c) j noise ≡ get_or l j noise
    other j f = get_or-set_other l k j c noise f

    -- from what held before, and what holds of k
    both : (P : ℕ → ℕ → Type 0) → P k c → ((j : ℕ) → P j (get_or l j noise)) → (j : ℕ) → P j (get_or (set l k c) j noise)
    both P p f j = elim (ℕ_discrete j k) [
      | yes e ↦ subst (λ (u : ℕ). P u (get_or (set l k c) u noise)) (sym e) (subst (λ (u : ℕ). P k u) (sym own) p)
      | no g ↦ subst (λ (u : ℕ). P j u) (sym (other j g)) (f j)
    ]

    pub put : (i' : ℕ) → c < i' →
        ((j : ℕ) → Core near n m k → Core near n m j → get_or l j noise ≡ c → Chain near n m k j × Chain near n m j k)
        → ((Core near n m k → ⊥) → (q : ℕ) × Core near n m q × T (near q k) × (get_or l q noise ≡ c))
        → (Core near n m k → (d : ℕ) → d < c → (q : ℕ) × Core near n m q × (q < k) × (get_or l q noise ≡ d))
        → ((j : ℕ) → Core near n m j → j < i' → (j ≡ k) ⊎ (j < i))
        → ((d : ℕ) → d < suc c → ((q : ℕ) × Core near n m q × (q < i') × (get_or l q noise ≡ d)) ⊎ ((d ≡ c) × Core near n m k × (k < i')))
        → State near n m i' (suc c) w' h t' (set l k c)
    put i' ci links why older who whose =
        record {
          size = length-set l k c ∙ s.size;
          few = ci;
          top = both (λ j u. u ≤ noise) (omega arith) s.top;
          low = both (λ j u. u < noise → u < suc c) (λ o. omega arith) (λ j o. omega (arith, s.low j o));
          done = λ j d o. elim (who j d o) [ inl e ↦ subst (λ (u : ℕ). get_or (set l k c) u noise < noise) (sym e) (subst (λ (u : ℕ). u < noise) (sym own) fits) | inr b ↦ let z = s.done j d b in subst (λ (u : ℕ). u < noise) (sym (kept j z)) z ];
          closed = λ j k' d q o v. shut j k' d q o v (ℕ_discrete j k);
          joined = λ j k' d e q z. link j k' d e q z (ℕ_discrete j k) (ℕ_discrete k' k);
          rising = λ j d e q o. rise j d e q o (ℕ_discrete j k);
          each = λ d o. elim (whose d o) [ inl x ↦ (x.0, x.1, x.2, kept x.0 (omega (arith, x.3)) ∙ x.3) | inr y ↦ (k, y.1, y.2, own ∙ sym y.0) ];
          border = λ j q f. edge j q f (ℕ_discrete j k);
        }
      where
        shut : (j k' : ℕ) → Core near n m j → get_or (set l k c) j noise < noise → k' < n → T (near j k') → Dec (j ≡ k) → Waits w' h t' j ⊎ (get_or (set l k c) k' noise ≤ get_or (set l k c) j noise)
        shut j k' d q o v (yes e) = inl (subst (Waits w' h t') (sym e) (mine (subst (Core near n m) e d)))
        shut j k' d q o v (no g) =
            let x = other j g in
            elim (s.closed j k' d (omega arith) o v) [ inl u ↦ inl (still j u) | inr y ↦ inr (omega (arith, kept k' (omega arith))) ]

        link : (j k' : ℕ) → Core near n m j → Core near n m k' → get_or (set l k c) j noise < noise → get_or (set l k c) j noise ≡ get_or (set l k c) k' noise → Dec (j ≡ k) → Dec (k' ≡ k) → Chain near n m j k'
        link j k' d e q z (yes a) (yes b) = subst (λ (u : ℕ). Chain near n m j u) (a ∙ sym b) (here d)
        link j k' d e q z (yes a) (no b) =
            let y : get_or l k' noise ≡ c = sym (other k' b) ∙ sym z ∙ ap (λ (u : ℕ). get_or (set l k c) u noise) a ∙ own in
            subst (λ (u : ℕ). Chain near n m u k') (sym a) (links k' (subst (Core near n m) a d) e y).0
        link j k' d e q z (no a) (yes b) =
            let y : get_or l j noise ≡ c = sym (other j a) ∙ z ∙ ap (λ (u : ℕ). get_or (set l k c) u noise) b ∙ own in
            subst (λ (u : ℕ). Chain near n m j u) (sym b) (links j (subst (Core near n m) b e) d y).1
        link j k' d e q z (no a) (no b) = let x = other j a in s.joined j k' d e (omega arith) (sym x ∙ z ∙ other k' b)

        rise : (j d : ℕ) → Core near n m j → get_or (set l k c) j noise < noise → d < get_or (set l k c) j noise → Dec (j ≡ k) → (q : ℕ) × Core near n m q × (q < j) × (get_or (set l k c) q noise ≡ d)
        rise j d e q o (yes a) =
            let z : get_or (set l k c) j noise ≡ c = ap (λ (u : ℕ). get_or (set l k c) u noise) a ∙ own in
            let x = older (subst (Core near n m) a e) d (omega arith) in
            (x.0, x.1, omega (arith, x.2, a), kept x.0 (omega (arith, x.3)) ∙ x.3)
        rise j d e q o (no g) =
            let y = other j g in
            let x = s.rising j d e (omega arith) (omega arith) in
            (x.0, x.1, x.2, kept x.0 (omega (arith, x.3)) ∙ x.3)

        edge : (j : ℕ) → get_or (set l k c) j noise < noise → (Core near n m j → ⊥) → Dec (j ≡ k) → (q : ℕ) × Core near n m q × T (near q j) × (get_or (set l k c) q noise ≡ get_or (set l k c) j noise)
        edge j q f (yes a) =
            let x = why (λ y. f (subst (Core near n m) (sym a) y)) in
            (x.0, x.1, subst (λ (u : ℕ). T (near x.0 u)) (sym a) x.2, kept x.0 (omega (arith, x.3)) ∙ x.3 ∙ sym own ∙ ap (λ (u : ℕ). get_or (set l k c) u noise) (sym a))
        edge j q f (no g) =
            let y = other j g in
            let x = s.border j (omega arith) f in
            (x.0, x.1, x.2, kept x.0 (omega (arith, x.3)) ∙ x.3 ∙ sym y)

  -- a neighbour k of a core q whose label is the newest takes that label
  module _ {i c : ℕ} {w : List ℕ} {h t : ℕ} {l : List ℕ} (s : State near n m i (suc c) w h t l) (q k : ℕ) (d : Core near n m q)
      (e : get_or l q noise ≡ c) (v : T (near q k)) (inside : k < n) (bare : get_or l k noise ≡ noise) (fits : c < noise) where
    late : Core near n m k → i ≤ k
    late a = le_of_suc-le-suc (lt_of_not-le (λ (o : suc k ≤ i). let z = s.done k a o in omega (arith, z, bare)))

    mark : (w' : List ℕ) (t' : ℕ) → ((j : ℕ) → Waits w h t j → Waits w' h t' j) → (Core near n m k → Waits w' h t' k) → State near n m i (suc c) w' h t' (set l k c)
    mark w' t' still mine =
        put s k c w' t' inside bare fits (omega arith) still mine i s.few
        (λ j a b z. (chain_trans near n m (on (here a) (subst T (comm q k) v) d) (s.joined q j d b (omega arith) (e ∙ sym z)), on (s.joined j q b d (omega arith) (z ∙ sym e)) v a))
        (λ f. (q, d, v, e))
        (λ a u o. let x = s.each u (omega arith) in (x.0, x.1, omega (arith, x.2, late a), x.3))
        (λ j a o. inr o)
        (λ u o. inl (s.each u o))

    -- it waits
    pub mark_queued : t < length w → h ≤ t → State near n m i (suc c) (set w t k) h (suc t) (set l k c)
    mark_queued room order = mark (set w t k) (suc t) (waits_still w h t k) (λ a. waits_last w h t k room order)

    -- below i it is no core, and need not wait
    pub mark_only : k < i → State near n m i (suc c) w h t (set l k c)
    mark_only o = mark w t (λ j x. x) (λ a. absurd (early (late a)))
      where
        early : i ≤ k → ⊥
        early z = omega (arith, z, o)

  -- a core with no label starts the next
  pub state_seed : {i c : ℕ} {w : List ℕ} {h : ℕ} {l : List ℕ} → State near n m i c w h h l → Core near n m i → get_or l i noise ≡ noise → c < noise → h < length w
      → State near n m (suc i) (suc c) (set w h i) h (suc h) (set l i c)
  state_seed {i = i} {c = c} {w = w} {h = h} {l = l} s d bare fits room =
      put s i c (set w h i) (suc h) d.inside bare fits (omega arith) (waits_still w h h i) (λ a. waits_last w h h i room (omega arith)) (suc i) (omega (arith, s.few))
      (λ j a b z. absurd (new j z))
      (λ f. absurd (f d))
      (λ a u o. s.each u o)
      (λ j a o. eq-or-lt_of_le (le_of_suc-le-suc o))
      (λ u o. elim (eq-or-lt_of_le (le_of_suc-le-suc o)) [ inl e ↦ inr (e, d, omega arith) | inr b ↦ inl (let x = s.each u b in (x.0, x.1, omega (arith, x.2), x.3)) ])
    where
      new : (j : ℕ) → get_or l j noise ≡ c → ⊥
      new j z = let y = s.low j (omega arith) in omega arith

-- the state goes by what waits alone
pub state-moved : {near : ℕ → ℕ → Bool} {n m i c : ℕ} {w : List ℕ} {h t : ℕ} {l : List ℕ} → State near n m i c w h t l → (w' : List ℕ) → ((x : ℕ) → h ≤ x → x < t → get_or w' x 0 ≡ get_or w x 0) → State near n m i c w' h t l
state-moved {near = near} {n = n} {m = m} {w = w} {h = h} {t = t} {l = l} s w' f =
    record {
      size = s.size;
      few = s.few;
      top = s.top;
      low = s.low;
      done = s.done;
      joined = s.joined;
      rising = s.rising;
      each = s.each;
      border = s.border;
      closed = λ j k c q o v. elim (s.closed j k c q o v) [ inl x ↦ inl (x.0, x.1, x.2, f x.0 x.1 x.2 ∙ x.3) | inr y ↦ inr y ];
    }
