-- From one core to the next: a query's hits in the front of the work slice change nothing that waits (`queried`); a core with
-- no label starts a cluster (`growing_start`), which is whole once nothing waits (`growing-end`); a point that is no core, or
-- has a label, is passed (`between-skip`); after the last point the labels are those of the definition (`between-end`).
-- Assumes nothing.
use mathlib.Core.Path.{◌≡◌, sym, ap, ◌∙◌, subst}
use mathlib.Core.Bool.{Bool}
use mathlib.Core.List.{List, ◌++◌}
use Prim.Native.Nat.{ℕ, suc, ◌+◌, ◌-◌, ◌≤◌, ◌<◌}
use native.Mathlib.Nat.{le_antisymm}
use native.Mathlib.Numerals.{add-one}
use native.Mathlib.Omega.{arith}
use lib.ListN.{length, get_or, set, take, drop, length-set, length-take, replicate, length-replicate}
use lib.Seq.{length_front, get_or-set_same, get_or-append-add, get_or-drop, get_or-take, take-set-le, take-append-le}
use Rattle.labels.specs.Labels.{noise, hits, Core, Labelled}
use Rattle.labels.proofs.Neighbours.{hits-length, hits_at}
use Rattle.dbscan.specs.Growing.{State, Sizes, Between, Growing, Held, held, claim_all, Filled, Roomy}
use Rattle.dbscan.proofs.State.{state_start, state-rest, state-skip, state_seed, state-labels, state-moved}
use Rattle.dbscan.proofs.Claims.{free-set, free-le, growing_idle, growing-on}

-- ---- a query
-- the work slice w' after a query for the neighbours of q over w
pub record Queried (near : ℕ → ℕ → Bool) (n q r : ℕ) (w w' l : List ℕ) : Type 0 where
  pub sizes : Sizes n w' l
  pub behind : (x : ℕ) → n ≤ x → get_or w' x 0 ≡ get_or w x 0
  pub filled : Filled near n q r w'

pub queried : (near : ℕ → ℕ → Bool) (n q r : ℕ) (w l out : List ℕ) → Sizes n w l → length out ≡ length (take n w) → Filled near n q r out → Queried near n q r w (out ++ drop n w) l
queried near n q r w l out z e f =
    record {
      sizes = record { labels = z.labels; work = length_front w out n e ∙ z.work; in_limit = z.in_limit };
      behind = λ x a. ap (λ (u : ℕ). get_or (out ++ drop n w) u 0) (split x a) ∙ get_or-append-add out (drop n w) (x - n) 0 ∙ get_or-drop n w (x - n) 0 ∙ ap (λ (u : ℕ). get_or w u 0) (join x a);
      filled = record { count = f.count; front = take-append-le r out (drop n w) (omega (arith, long, f.count, hits-length (near q) n)) ∙ f.front };
    }
  where
    long : length out ≡ n
    long = omega (arith, e, length-take n w, z.work)

    split : (x : ℕ) → n ≤ x → x ≡ length out + (x - n)
    split x a = omega (arith, long)

    join : (x : ℕ) → n ≤ x → n + (x - n) ≡ x
    join x a = omega arith

pub growing-moved : {near : ℕ → ℕ → Bool} {n m seed c : ℕ} {w : List ℕ} {h t : ℕ} {l : List ℕ} (w' : List ℕ) → Sizes n w' l
    → ((x : ℕ) → n ≤ x → get_or w' x 0 ≡ get_or w x 0) → Growing near n m seed c w h t l → Growing near n m seed c w' h t l
growing-moved {n = n} {h = h} {l = l} w' z f G =
    record {
      sizes = z;
      seeded = G.seeded;
      inside = λ x a b. subst (λ (u : ℕ). u < n) (sym (f x (late x a))) (G.inside x a b);
      label = λ x a b. ap (λ (u : ℕ). get_or l u noise) (f x (late x a)) ∙ G.label x a b;
      behind = G.behind;
      order = G.order;
      room = G.room;
      state = state-moved G.state w' (λ x a b. f x (late x a));
    }
  where
    late : (x : ℕ) → h ≤ x → n ≤ x
    late x a = omega (arith, G.behind)

module _ (near : ℕ → ℕ → Bool) (n m : ℕ) where
  filled-few : {i r : ℕ} {w : List ℕ} → Filled near n i r w → r ≤ n
  filled-few {i} f = omega (arith, f.count, hits-length (near i) n)

  -- there is room to claim what was found
  pub growing-roomy : {seed c : ℕ} {w : List ℕ} {h t : ℕ} {l : List ℕ} {q r : ℕ} → Growing near n m seed c w h t l → Filled near n q r w → Roomy r c w t l
  growing-roomy {w = w} {l = l} {q = q} {r = r} G f =
      record {
        front = omega (arith, filled-few f, G.behind, G.order);
        points = λ x o. omega (arith, found x o, G.sizes.labels);
        in_limit = omega (arith, G.sizes.labels, G.sizes.in_limit);
        room = omega (arith, G.room, G.sizes.work);
        label = omega (arith, G.state.few, G.seeded, G.sizes.in_limit);
      }
    where
      found : (x : ℕ) → x < r → get_or w x 0 < n
      found x o = subst (λ (u : ℕ). u < n) (ap (λ (z : List ℕ). get_or z x 0) (sym f.front) ∙ get_or-take r w x 0 o) (hits_at (near q) n x (omega (arith, f.count, o)))

  -- ---- a cluster
  module _ (comm : (i j : ℕ) → near i j ≡ near j i) where
    pub growing_start : {i c : ℕ} {w l : List ℕ} → Between near n m i c w l → Core near n m i → get_or l i noise ≡ noise → Growing near n m i c (set w n i) n (n + 1) (set l i c)
    growing_start {i} {c} {w} {l} B core bare =
        rw (add-one n) (record {
          sizes = record { labels = length-set l i c ∙ z.labels; work = length-set w n i ∙ z.work; in_limit = z.in_limit };
          seeded = core.inside;
          inside = λ x a b. subst (λ (u : ℕ). u < n) (sym (only x a b)) core.inside;
          label = λ x a b. ap (λ (u : ℕ). get_or (set l i c) u noise) (only x a b) ∙ get_or-set_same l i c noise point;
          behind = omega arith;
          order = omega arith;
          room = omega (arith, free-set l i c point bare fits, free-le l, z.labels);
          state = state_seed near n m comm B.state core bare fits room;
        })
      where
        z : Sizes n w l
        z = B.sizes

        fits : c < noise
        fits = omega (arith, B.state.few, z.in_limit, core.inside)

        room : n < length w
        room = omega (arith, z.work, core.inside)

        point : i < length l
        point = omega (arith, z.labels, core.inside)

        only : (x : ℕ) → n ≤ x → x < suc n → get_or (set w n i) x 0 ≡ i
        only x a b = let y : x ≡ n = omega arith in ap (λ (u : ℕ). get_or (set w n i) u 0) y ∙ get_or-set_same w n i 0 room

    -- the first of what waits is the core q, and what was found of its neighbours is claimed
    pub growing-by : {seed c : ℕ} {w : List ℕ} {h t : ℕ} {l w' : List ℕ} {t' : ℕ} {l' : List ℕ} (q r : ℕ) → Growing near n m seed c w h t l → h < t → get_or w h 0 ≡ q
        → Core near n m q → Filled near n q r w → held w' t' l' ≡ claim_all seed c (held w t l) (take r w) → Growing near n m seed c w' (h + 1) t' l'
    growing-by {seed} {c} {w} {h} {t} {l} q r G o e core f s =
        rw (add-one h)
        (subst (λ (z : Held). Growing near n m seed c z.work (suc h) z.tail z.labels)
        (sym (s ∙ ap (claim_all seed c (held w t l)) (f.front ∙ ap (λ (u : ℕ). hits (near u) n) (sym e))))
        (growing-on near n m seed c comm G o (subst (Core near n m) (sym e) core)))

    pub between-end : {i c : ℕ} {w l : List ℕ} → Between near n m i c w l → i ≤ n → n ≤ i → Labelled near n m l
    between-end {i} {c} {w} {l} B a b = state-labels near n m comm (subst (λ (k : ℕ). State near n m k c w n n l) (le_antisymm a b) B.state)

  -- the first of what waits has too few neighbours
  pub growing-past : {seed c : ℕ} {w : List ℕ} {h t : ℕ} {l : List ℕ} (q r : ℕ) → Growing near n m seed c w h t l → h < t → get_or w h 0 ≡ q → Filled near n q r w → r < m
      → Growing near n m seed c w (h + 1) t l
  growing-past {seed} {c} {w} {h} q r G o e f few = rw (add-one h) (growing_idle near n m seed c G o (λ core. none (subst (Core near n m) e core)))
    where
      none : Core near n m q → ⊥
      none core = omega (arith, core.many, f.count)

  pub filled-set : {i r : ℕ} {w : List ℕ} (j : ℕ) → Filled near n i r w → Filled near n i r (set w n j)
  filled-set {r = r} {w = w} j f = record { count = f.count; front = take-set-le r w n j (filled-few f) ∙ f.front }

  pub growing-end : {seed c : ℕ} {w : List ℕ} {h t : ℕ} {l : List ℕ} → Growing near n m seed c w h t l → t ≤ h → Between near n m (seed + 1) (c + 1) w l
  growing-end {seed} {c} {w} {h} {t} {l} G o = rw (add-one seed, add-one c) (record { sizes = G.sizes; state = state-rest near n m (subst (λ (u : ℕ). State near n m (suc seed) (suc c) w h u l) (le_antisymm o G.order) G.state) w n n })

  -- ---- between two
  pub between_start : {w l l' : List ℕ} → Sizes n w l → l' ≡ replicate (length l) noise → Between near n m 0 0 w l'
  between_start {w} {l} {l'} z e =
      let y : l' ≡ replicate n noise = e ∙ ap (λ (k : ℕ). replicate k noise) z.labels in
      rw y (record { sizes = record { labels = length-replicate n noise; work = z.work; in_limit = z.in_limit }; state = state_start near n m w n })

  pub between-skip : {i c : ℕ} {w w' l : List ℕ} → Between near n m i c w l → Sizes n w' l → (Core near n m i → get_or l i noise < noise) → Between near n m (i + 1) c w' l
  between-skip {i = i} {w' = w'} B z f = rw (add-one i) (record { sizes = z; state = state-rest near n m (state-skip near n m B.state f) w' n n })

  -- nothing waits: what the work slice holds is no matter
  pub between-moved : {i c : ℕ} {w w' l : List ℕ} → Between near n m i c w l → Sizes n w' l → Between near n m i c w' l
  between-moved {w' = w'} B z = record { sizes = z; state = state-rest near n m B.state w' n n }
