-- The points that a core claims: one claim takes at most one label from the noise and adds at most one to what waits, so
-- there is room for all (`roomy_turn`); and once a core has claimed each of its neighbours, the cluster has grown by it
-- (`growing-on`, `growing_idle` for a point that is no core). Assumes nothing.
use mathlib.Core.Path.{◌≡◌, refl, sym, ap, ◌∙◌, subst}
use mathlib.Core.Logic.{◌⊎◌, inl, inr}
use mathlib.Core.Bool.{Bool, true, false, cond}
use mathlib.Core.List.Memᴰ
use mathlib.Core.List.{List, [], ◌∷◌, Memᴰ}
use Prim.Native.Nat.{ℕ, zero, suc, ◌+◌, ◌≤◌, ◌<◌}
use native.Mathlib.Nat.{le_of_suc-le-suc, eq-or-lt_of_le}
use native.Mathlib.Numerals.{add-one}
use native.Mathlib.Omega.{arith}
use lib.Dec.{T, eqb, ltb}
use lib.ListN.{length, get_or, set, take, drop, length-set, length-take, drop_of_length-le}
use lib.Seq.{get_or-set_same, get_or-set_other, take-set-le, get_or-take, drop-cons, length-take-le}
use borrow.Author.Tests.{eqb-true, eqb-false, eq-eqb, ne_eqb, ltb-true, lt-ltb, le-ltb}
use Rattle.tree.specs.Points.{limit}
use Rattle.labels.specs.Labels.{noise, hits, Core}
use Rattle.labels.proofs.Neighbours.{hits-sound, hits_complete}
use Rattle.dbscan.specs.Growing.{free, Growing, Held, held, claim, claim_all, Claimable, Roomy}
use Rattle.dbscan.proofs.State.{state-next, mark_queued, mark_only}

-- ---- lists
-- inside a list the default is no matter
pub get_or_inside : (l : List ℕ) (i d e : ℕ) → i < length l → get_or l i d ≡ get_or l i e
get_or_inside [] i d e o = omega arith
get_or_inside (x ∷ l) zero d e o = refl
get_or_inside (x ∷ l) (suc i) d e o = get_or_inside l i d e (le_of_suc-le-suc o)

pub free-set : (l : List ℕ) (k c : ℕ) → k < length l → get_or l k noise ≡ noise → c < noise → suc (free (set l k c)) ≡ free l
unfolding free
free-set [] k c o e f = omega arith
free-set (x ∷ l) zero c o e f = rw (ne_eqb c noise (λ (z : c ≡ noise). omega arith), eq-eqb x noise e) (omega arith)
free-set (x ∷ l) (suc k) c o e f = let r = free-set l k c (le_of_suc-le-suc o) e f in omega arith

pub free-le : (l : List ℕ) → free l ≤ length l
unfolding free
free-le [] = omega arith
free-le (x ∷ l) = go (eqb x noise) (free-le l)
  where
    go : (b : Bool) → free l ≤ length l → cond b 1 0 + free l ≤ suc (length l)
    go true h = omega arith
    go false h = omega arith

-- ---- one claim, as the code makes it
module _ (k seed c t : ℕ) (w l : List ℕ) where
  pub claim-left : (get_or l k noise ≡ noise → ⊥) → held w t l ≡ claim seed c (held w t l) k
  unfolding claim
  claim-left f = rw (ne_eqb (get_or l k noise) noise f)

  pub claim_marked : get_or l k noise ≡ noise → k < seed → held w t (set l k c) ≡ claim seed c (held w t l) k
  unfolding claim
  claim_marked e o = rw (eq-eqb (get_or l k noise) noise e, lt-ltb k seed o)

  pub claim_queued : get_or l k noise ≡ noise → seed ≤ k → held (set w t k) (suc t) (set l k c) ≡ claim seed c (held w t l) k
  unfolding claim
  claim_queued e o = rw (eq-eqb (get_or l k noise) noise e, le-ltb k seed o)

-- what holds after each of the three ways holds after a claim
claim_ways : (P : Held → Type 0) (seed c : ℕ) (s : Held) (k : ℕ)
    → ((get_or s.labels k noise ≡ noise → ⊥) → P s)
    → (get_or s.labels k noise ≡ noise → k < seed → P (held s.work s.tail (set s.labels k c)))
    → (get_or s.labels k noise ≡ noise → P (held (set s.work s.tail k) (suc s.tail) (set s.labels k c)))
    → P (claim seed c s k)
unfolding claim
claim_ways P seed c s k left marked queued = go (eqb (get_or s.labels k noise) noise) refl (ltb k seed) refl
  where
    go : (a : Bool) → eqb (get_or s.labels k noise) noise ≡ a → (b : Bool) → ltb k seed ≡ b
        → P (cond a (cond b (held s.work s.tail (set s.labels k c)) (held (set s.work s.tail k) (suc s.tail) (set s.labels k c))) s)
    go true e true f = marked (eqb-true (get_or s.labels k noise) noise e) (ltb-true k seed f)
    go true e false f = queued (eqb-true (get_or s.labels k noise) noise e)
    go false e b f = left (eqb-false (get_or s.labels k noise) noise e)

-- ---- room for all
abbrev RoomyAs : ℕ → ℕ → List ℕ → Held → Type 0
RoomyAs r c ks s = Roomy r c s.work s.tail s.labels × (take r s.work ≡ ks)

roomy-claim : (r seed c : ℕ) (ks : List ℕ) (s : Held) (k : ℕ) → k < length s.labels → RoomyAs r c ks s → RoomyAs r c ks (claim seed c s k)
roomy-claim r seed c ks s k o (R, e) =
    claim_ways (RoomyAs r c ks) seed c s k
    (λ f. (R, e))
    (λ b l. (record { front = R.front; points = points; in_limit = few; room = omega (arith, R.room, less b); label = R.label }, e))
    (λ b. (
      record {
        front = omega (arith, R.front);
        points = λ x y. subst (λ (u : ℕ). u < length (set s.labels k c)) (sym (get_or-set_other s.work s.tail x k 0 (λ z. omega (arith, z, y, R.front)))) (points x y);
        in_limit = few;
        room = omega (arith, R.room, less b, length-set s.work s.tail k);
        label = R.label;
      },
      take-set-le r s.work s.tail k R.front ∙ e,
    ))
  where
    points : (x : ℕ) → x < r → get_or s.work x 0 < length (set s.labels k c)
    points x y = subst (λ (u : ℕ). get_or s.work x 0 < u) (sym (length-set s.labels k c)) (R.points x y)

    few : length (set s.labels k c) ≤ limit
    few = omega (arith, R.in_limit, length-set s.labels k c)

    less : get_or s.labels k noise ≡ noise → suc (free (set s.labels k c)) ≡ free s.labels
    less b = free-set s.labels k c o b R.label

pub roomy_claimable : {r c : ℕ} {w : List ℕ} {t : ℕ} {l : List ℕ} → Roomy r c w t l → (x : ℕ) → x < r → Claimable (get_or w x 0) w t l
roomy_claimable {c = c} {w = w} {t = t} {l = l} R x o =
    record { point = R.points x o; in_limit = R.in_limit; room = λ b. omega (arith, free-set l (get_or w x 0) c (R.points x o) b R.label, R.room) }

-- a turn: what is left to claim from here comes to what was asked at the start
pub roomy_turn : (r seed c x : ℕ) (ks w : List ℕ) (t : ℕ) (l w' : List ℕ) (t' : ℕ) (l' : List ℕ) (g : Held)
    → Roomy r c w t l → take r w ≡ ks → x < r → claim_all seed c (held w t l) (drop x ks) ≡ g → held w' t' l' ≡ claim seed c (held w t l) (get_or w x 0)
    → Roomy r c w' t' l' × (take r w' ≡ ks) × (claim_all seed c (held w' t' l') (drop (x + 1) ks) ≡ g)
unfolding claim_all
roomy_turn r seed c x ks w t l w' t' l' g R e o a q =
    let both = subst (RoomyAs r c ks) (sym q) (roomy-claim r seed c ks (held w t l) (get_or w x 0) (R.points x o) (R, e)) in (
      both.0,
      both.1,
      ap (λ (s : Held). claim_all seed c s (drop (x + 1) ks)) q
          ∙ ap (λ (n : ℕ). claim_all seed c (claim seed c (held w t l) (get_or w x 0)) (drop n ks)) (add-one x)
          ∙ ap (λ (k : ℕ). claim_all seed c (claim seed c (held w t l) k) (drop (suc x) ks)) (sym at_x)
          ∙ ap (claim_all seed c (held w t l)) (sym (drop-cons ks x 0 (omega (arith, o, long))))
          ∙ a,
    )
  where
    long : length ks ≡ r
    long = ap length (sym e) ∙ length-take-le r w (omega (arith, R.front, R.room))

    at_x : get_or ks x 0 ≡ get_or w x 0
    at_x = ap (λ (z : List ℕ). get_or z x 0) (sym e) ∙ get_or-take r w x 0 o

-- nothing is left
pub claimed-out : (r seed c x : ℕ) (w : List ℕ) (s g : Held) → r ≤ x → claim_all seed c s (drop x (take r w)) ≡ g → s ≡ g
unfolding claim_all
claimed-out r seed c x w s g o e = sym (ap (claim_all seed c s) (drop_of_length-le (take r w) {i = x} (simp length-take (omega arith)))) ∙ e

-- ---- a core claims its neighbours
-- the core q, first of what waits; of its neighbours those in ks have still to be claimed
record Claiming (near : ℕ → ℕ → Bool) (n m seed c h q : ℕ) (ks : List ℕ) (s : Held) : Type 0 where
  growing : Growing near n m seed c s.work h s.tail s.labels
  some : h < s.tail
  first : get_or s.work h 0 ≡ q
  good : (k : ℕ) → Memᴰ k ks → (k < n) × T (near q k)
  left : (k : ℕ) → k < n → T (near q k) → (get_or s.labels k noise < noise) ⊎ Memᴰ k ks

module _ (near : ℕ → ℕ → Bool) (comm : (i j : ℕ) → near i j ≡ near j i) (n m seed c h q : ℕ) (core : Core near n m q) where
  claim_turn : (k : ℕ) (ks : List ℕ) (s : Held) → Claiming near n m seed c h q (k ∷ ks) s → Claiming near n m seed c h q ks (claim seed c s k)
  claim_turn k ks s v = claim_ways (Claiming near n m seed c h q ks) seed c s k untouched marked queued
    where
      G : Growing near n m seed c s.work h s.tail s.labels
      G = v.growing

      hit : (k < n) × T (near q k)
      hit = v.good k (Memᴰ.head refl)

      point : k < length s.labels
      point = omega (arith, hit.0, G.sizes.labels)

      fits : c < noise
      fits = omega (arith, G.state.few, G.seeded, G.sizes.in_limit)

      own : get_or (set s.labels k c) k noise ≡ c
      own = get_or-set_same s.labels k c noise point

      -- labels in place stay
      kept : get_or s.labels k noise ≡ noise → (j : ℕ) → get_or s.labels j noise < noise → get_or (set s.labels k c) j noise ≡ get_or s.labels j noise
      kept bare j b = get_or-set_other s.labels k j c noise (λ e. let z = ap (λ (u : ℕ). get_or s.labels u noise) e in omega (arith, z, b, bare))

      less : get_or s.labels k noise ≡ noise → suc (free (set s.labels k c)) ≡ free s.labels
      less bare = free-set s.labels k c point bare fits

      label_q : get_or s.labels q noise ≡ c
      label_q = ap (λ (u : ℕ). get_or s.labels u noise) (sym v.first) ∙ G.label h (omega arith) v.some

      still_left : get_or s.labels k noise ≡ noise → (j : ℕ) → j < n → T (near q j) → (get_or (set s.labels k c) j noise < noise) ⊎ Memᴰ j ks
      still_left bare j o a = elim (v.left j o a) [
        | inl b ↦ inl (omega (arith, kept bare j b))
        | inr z ↦ elim (Memᴰ.cases_cons z) [ inl e ↦ inl (omega (arith, ap (λ (u : ℕ). get_or (set s.labels k c) u noise) e ∙ own, fits)) | inr y ↦ inr y ]
      ]

      untouched : (get_or s.labels k noise ≡ noise → ⊥) → Claiming near n m seed c h q ks s
      untouched f =
          record {
            growing = G;
            some = v.some;
            first = v.first;
            good = λ j z. v.good j (Memᴰ.tail z);
            left = λ j o a. elim (v.left j o a) [
              | inl b ↦ inl b
              | inr z ↦ elim (Memᴰ.cases_cons z) [ inl e ↦ inl (subst (λ (u : ℕ). get_or s.labels u noise < noise) (sym e) (elim (eq-or-lt_of_le (G.state.top k)) [ inl x ↦ absurd (f x) | inr y ↦ y ])) | inr y ↦ inr y ]
            ];
          }

      marked : get_or s.labels k noise ≡ noise → k < seed → Claiming near n m seed c h q ks (held s.work s.tail (set s.labels k c))
      marked bare o =
          record {
            growing = record {
              sizes = record { labels = length-set s.labels k c ∙ G.sizes.labels; work = G.sizes.work; in_limit = G.sizes.in_limit };
              seeded = G.seeded;
              inside = G.inside;
              label = λ x a b. kept bare (get_or s.work x 0) (omega (arith, G.label x a b, fits)) ∙ G.label x a b;
              behind = G.behind;
              order = G.order;
              room = omega (arith, G.room, less bare);
              state = mark_only near n m comm G.state q k core label_q hit.1 hit.0 bare fits (omega arith);
            };
            some = v.some;
            first = v.first;
            good = λ j z. v.good j (Memᴰ.tail z);
            left = still_left bare;
          }

      queued : get_or s.labels k noise ≡ noise → Claiming near n m seed c h q ks (held (set s.work s.tail k) (suc s.tail) (set s.labels k c))
      queued bare =
          record {
            growing = record {
              sizes = record { labels = length-set s.labels k c ∙ G.sizes.labels; work = length-set s.work s.tail k ∙ G.sizes.work; in_limit = G.sizes.in_limit };
              seeded = G.seeded;
              inside = λ x a b. elim (eq-or-lt_of_le (le_of_suc-le-suc b)) [ inl e ↦ subst (λ (u : ℕ). u < n) (sym (last x e)) hit.0 | inr z ↦ subst (λ (u : ℕ). u < n) (sym (front x z)) (G.inside x a z) ];
              label = λ x a b. elim (eq-or-lt_of_le (le_of_suc-le-suc b)) [
                | inl e ↦ ap (λ (u : ℕ). get_or (set s.labels k c) u noise) (last x e) ∙ own
                | inr z ↦ ap (λ (u : ℕ). get_or (set s.labels k c) u noise) (front x z) ∙ kept bare (get_or s.work x 0) (omega (arith, G.label x a z, fits)) ∙ G.label x a z
              ];
              behind = G.behind;
              order = omega (arith, G.order);
              room = omega (arith, G.room, less bare);
              state = mark_queued near n m comm G.state q k core label_q hit.1 hit.0 bare fits room G.order;
            };
            some = omega (arith, v.some);
            first = front h v.some ∙ v.first;
            good = λ j z. v.good j (Memᴰ.tail z);
            left = still_left bare;
          }
        where
          room : s.tail < length s.work
          room = omega (arith, G.room, less bare, G.sizes.work)

          last : (x : ℕ) → x ≡ s.tail → get_or (set s.work s.tail k) x 0 ≡ k
          last x e = ap (λ (u : ℕ). get_or (set s.work s.tail k) u 0) e ∙ get_or-set_same s.work s.tail k 0 room

          front : (x : ℕ) → x < s.tail → get_or (set s.work s.tail k) x 0 ≡ get_or s.work x 0
          front x b = get_or-set_other s.work s.tail x k 0 (λ e. omega (arith, e, b))

  claim-turns : (ks : List ℕ) (s : Held) → Claiming near n m seed c h q ks s → Claiming near n m seed c h q [] (claim_all seed c s ks)
  unfolding claim_all
  claim-turns [] s v = v
  claim-turns (k ∷ ks) s v = claim-turns ks (claim seed c s k) (claim_turn k ks s v)

-- ---- the first of what waits is looked at
abbrev GrowingAs : (near : ℕ → ℕ → Bool) → ℕ → ℕ → ℕ → ℕ → ℕ → Held → Type 0
GrowingAs near n m seed c h s = Growing near n m seed c s.work h s.tail s.labels

module _ (near : ℕ → ℕ → Bool) (n m seed c : ℕ) where
  -- it leaves the queue
  leave : (h : ℕ) (s : Held) → GrowingAs near n m seed c h s → h < s.tail
      → (Core near n m (get_or s.work h 0) → (k : ℕ) → k < n → T (near (get_or s.work h 0) k) → get_or s.labels k noise ≤ get_or s.labels (get_or s.work h 0) noise)
      → GrowingAs near n m seed c (suc h) s
  leave h s G o f =
      record {
        sizes = G.sizes;
        seeded = G.seeded;
        inside = λ x a b. G.inside x (omega arith) b;
        label = λ x a b. G.label x (omega arith) b;
        behind = omega (arith, G.behind);
        order = o;
        room = G.room;
        state = state-next near n m G.state f;
      }

  pub growing_idle : {w : List ℕ} {h t : ℕ} {l : List ℕ} → Growing near n m seed c w h t l → h < t → (Core near n m (get_or w h 0) → ⊥) → Growing near n m seed c w (suc h) t l
  growing_idle {w} {h} {t} {l} G o f = leave h (held w t l) G o (λ a. absurd (f a))

  -- no neighbour is left without a label, so none has a higher one than the newest
  all-claimed : (h q : ℕ) (s : Held) → Claiming near n m seed c h q [] s → GrowingAs near n m seed c (suc h) s
  all-claimed h q s v =
      let G = v.growing in
      leave h s G v.some (λ a k o b. elim (v.left k o (subst (λ (u : ℕ). T (near u k)) v.first b)) [
        | inl z ↦ omega (arith, G.state.low k z, G.label h (omega arith) v.some)
        | inr y ↦ absurd (Memᴰ.not-nil y)
      ])

  pub growing-on : ((i j : ℕ) → near i j ≡ near j i) → {w : List ℕ} {h t : ℕ} {l : List ℕ} → Growing near n m seed c w h t l → h < t → Core near n m (get_or w h 0)
      → GrowingAs near n m seed c (suc h) (claim_all seed c (held w t l) (hits (near (get_or w h 0)) n))
  growing-on comm {w} {h} {t} {l} G o core =
      all-claimed h q (claim_all seed c (held w t l) (hits (near q) n))
      (claim-turns near comm n m seed c h q core (hits (near q) n) (held w t l)
      (record { growing = G; some = o; first = refl; good = λ k z. hits-sound (near q) n z; left = λ k k-in a. inr (hits_complete (near q) n k k-in a) }))
    where
      q : ℕ
      q = get_or w h 0
