-- What the contract of `nearest_neighbour` comes to.
--   near-is-scan     over an accepted tree the walk's reply is the plain scan's
--   answers_as_scan  so an answer over an accepted tree says what the scan finds
--   answers-least    and what the scan finds over finite points is the least by d2, then by index
--   nine_unaccepted  9 comes only over a tree that is not accepted
--   hits-own         over any tree at all a hit is a point below n, at that point's own distance
--   answers_unique   any two answers that the contract permits are the same
-- By the law of all queries, and by the uniqueness of the root. Assumes nothing.
use mathlib.Core.Path.{◌≡◌, refl, sym, ap, ◌∙◌, subst}
use mathlib.Core.Logic.{◌⊎◌, inl, inr}
use mathlib.Core.List.{[], ◌∷◌}
use mathlib.Core.Bool.{Bool, true, false, ◌&&◌, cond}
use Prim.Native.Nat.{ℕ, zero, suc, ◌%◌, ◌≤◌, ◌<◌}
use native.Mathlib.Omega.{arith}
use lib.Dec.{T, eqb, ltb}
use lib.ListN.{length}
use lib.Ieee.{Float, nan, inf, fin, binary64, fits, lt}
use lib.Ieee.Scale.{finite}
use borrow.Author.Tests.{eqb-true, eq-eqb, ltb-false}
use Rattle.distance.specs.Distance.{bound}
use Rattle.distance.specs.declared.Bounds.{Bounds}
use Rattle.distance.specs.declared.Coord.{Coord}
use Rattle.tree.specs.Points.{limit}
use Rattle.tree.specs.Accepted.{Tree, count, Accepted}
use Rattle.root.specs.Root.{Root}
use Rattle.search.specs.Walk.{Walk, damage, done, walk, walk_all, plain}
use Rattle.search.specs.Order.{point, before}
use Rattle.search.specs.Refusal.{refusal}
use Rattle.search.specs.Result.{Roots, none, more}
use Rattle.search.specs.declared.Best.{Best}
use Rattle.search.proofs.Own.{After, walk_after}
use Rattle.search.proofs.Whole.{Ends, walk-is-plain}
use Rattle.search.proofs.Rank.{Good}
use Rattle.search.proofs.Written.{Held, roots_unique}
use Rattle.refusal.specs.declared.Refusal.{Refusal}
use Rattle.refusal.proofs.Same.{same-refusal}
use Rattle.nearest.specs.declared.Nearest.{Nearest}
use Rattle.nearest.specs.declared.Nearest.TheVariants.{Hit, Empty, Refused}
use Rattle.nearest.specs.Nearest as n
use Rattle.nearest.specs.Nearest.{better, nearest, Reply, hit, empty, refused, answer, near, near_scan, told, number_of, Says, Answers}
use Rattle.nearest.proofs.Least.{nearest_fair, none-good, none_last, Least, least}

ends-answer : (g : Best) (w : Walk Best) → Ends g w → answer w ≡ hit g
ends-answer g (done s n d) h = ap hit h
ends-answer g damage h = elim h [ ]

both : (a b : Bool) → (a && b) ≡ true → T a × T b
both true true e = (tt, tt)
both true false e = absurd (subst T (sym e) tt)
both false b e = absurd (subst T (sym e) tt)

-- ---- the scan
pub near-is-scan : (t : Tree) (q : Coord) → Accepted t → near t q ≡ near_scan t q
near-is-scan t q A = go (finite q.x && finite q.y) refl
  where
    inner : T (finite q.x) × T (finite q.y)
        → cond (eqb (count t) 0) empty (answer (walk_all t (nearest t.points q) n.none)) ≡ cond (eqb (count t) 0) empty (hit (plain (nearest t.points q).next n.none (count t)))
    inner f = elim A.tree [
      | inl z ↦ rw (eq-eqb (count t) 0 z)
      | inr G ↦ ap (λ (r : Reply). cond (eqb (count t) 0) empty r)
          (ends-answer (plain (nearest t.points q).next n.none (count t)) (walk_all t (nearest t.points q) n.none)
          (walk-is-plain t (nearest t.points q) Good (nearest_fair t q A f.0 f.1) G n.none none-good))
    ]

    go : (b : Bool) → (finite q.x && finite q.y) ≡ b → near t q ≡ near_scan t q
    go true e = ap (λ (r : Reply). cond (eqb (refusal t.points q) 0) r (refused (refusal t.points q))) (inner (both (finite q.x) (finite q.y) e))
    go false e = rw e (pick (eqb (length t.points % 2) 1) (ltb limit (count t)))
      where
        pick : (a b : Bool) → cond (eqb (cond a 1 (cond b 2 4)) 0) (cond (eqb (count t) 0) empty (answer (walk_all t (nearest t.points q) n.none))) (refused (cond a 1 (cond b 2 4)))
            ≡ cond (eqb (cond a 1 (cond b 2 4)) 0) (cond (eqb (count t) 0) empty (hit (plain (nearest t.points q).next n.none (count t)))) (refused (cond a 1 (cond b 2 4)))
        pick true b = refl
        pick false true = refl
        pick false false = refl

pub answers_as_scan : (t : Tree) (q : Coord) (r : Nearest) → Accepted t → Answers t q (told r) → Says (near_scan t q) (told r)
answers_as_scan t q r A h = subst (λ (a : Reply). Says a (told r)) (near-is-scan t q A) h

pub answers-least : (t : Tree) (q : Coord) → Accepted t → T (finite q.x) → T (finite q.y) → 0 < count t → Least t.points q (count t) (plain (nearest t.points q).next n.none (count t))
answers-least t q A X Y h = go (count t) refl h
  where
    go : (m : ℕ) → count t ≡ m → 0 < m → Least t.points q m (plain (nearest t.points q).next n.none m)
    go zero e h = absurd (omega arith)
    go (suc m) e h = least t q A X Y m (omega arith)

-- ---- damage
not_nine : (t : Tree) (q : Coord) → number_of (near_scan t q) ≡ 9 → ⊥
not_nine t q h = go (eqb (length t.points % 2) 1) (ltb limit (count t)) (finite q.x && finite q.y) (eqb (count t) 0) h
  where
    s : Best
    s = plain (nearest t.points q).next n.none (count t)

    go : (a b c d : Bool) → number_of (cond (eqb (cond a 1 (cond b 2 (cond c 0 4))) 0) (cond d empty (hit s)) (refused (cond a 1 (cond b 2 (cond c 0 4))))) ≡ 9 → ⊥
    go true b c d h = omega arith
    go false true c d h = omega arith
    go false false false d h = omega arith
    go false false true true h = omega arith
    go false false true false h = omega arith

pub nine_unaccepted : (t : Tree) (q : Coord) (r : Nearest) → Answers t q (told r) → (told r).number ≡ 9 → Accepted t → ⊥
nine_unaccepted t q r h e A = not_nine t q (ap number_of (sym (near-is-scan t q A)) ∙ sym h.number_is ∙ e)

-- ---- any tree
pub record Own (t : Tree) (q : Coord) (s : Best) : Type 0 where
  pub inside : s.index < count t
  pub own : s ≡ point t.points q s.index

top : (z : Float) → lt (inf false) z ≡ true → ⊥
unfolding lt
top nan h = subst T (sym h) tt
top (inf s) h = subst T (sym h) tt
top (fin s m e) h = subst T (sym h) tt

walk-own : (t : Tree) (q : Coord) → 0 < count t → count t ≤ limit → After (Own t q) (walk_all t (nearest t.points q) n.none)
walk-own t q some few = go (ltb (length t.indices) (count t)) refl
  where
    pick : (s : Best) (i : ℕ) → Own t q s → i < count t → (b : Bool) → Own t q (cond b s (point t.points q i))
    pick s i h o true = h
    pick s i h o false = record { inside = o; own = refl }

    step : (s : Best) (i : ℕ) → (s ≡ n.none) ⊎ Own t q s → i < count t → Own t q (better s (point t.points q i))
    step s i (inl e) o =
        subst (λ (z : Best). Own t q z)
        (sym (ap (λ (z : Best). better z (point t.points q i)) e ∙ ap (λ (b : Bool). cond b n.none (point t.points q i)) (none_last (point t.points q i) (omega arith))))
        (record { inside = o; own = refl })
    step s i (inr h) o = pick s i h o (before s (point t.points q i))

    opens : (s : Best) (b : Bounds) → s ≡ n.none → lt s.d2 (bound q b) ≡ true → ⊥
    opens s b e h = top (bound q b) (ap (λ (z : Best). lt z.d2 (bound q b)) (sym e) ∙ h)

    go : (z : Bool) → ltb (length t.indices) (count t) ≡ z → After (Own t q) (cond z damage (walk t (nearest t.points q) (count t) 0 0 (count t) n.none))
    go true e = tt
    go false e = walk_after t (nearest t.points q) (λ s. s ≡ n.none) (Own t q) step step opens (ltb-false (length t.indices) (count t) e) (count t) 0 0 (count t) some (omega arith) n.none (inl refl)

pub hits-own : (t : Tree) (q : Coord) (i : ℕ) (d : Float) → Answers t q (told (Hit i d)) → (i < count t) × Root (point t.points q i).d2 d
hits-own t q i d h = go (near t q) refl h
  where
    found : (w : Walk Best) (s : Best) → After (Own t q) w → answer w ≡ hit s → Own t q s
    found damage s o e = let z : ◌≡◌ {A = ℕ} 0 1 = cc in absurd (omega arith)
    found (done s' n d) s o e = let g : s' ≡ s = cc in subst (Own t q) g o

    own : (s : Best) → near t q ≡ hit s → Own t q s
    own s e = pick (eqb (refusal t.points q) 0) refl e
      where
        pick : (b : Bool) → eqb (refusal t.points q) 0 ≡ b → cond b (cond (eqb (count t) 0) empty (answer (walk_all t (nearest t.points q) n.none))) (refused (refusal t.points q)) ≡ hit s → Own t q s
        pick false g k = let z : ◌≡◌ {A = ℕ} 0 1 = cc in absurd (omega arith)
        pick true g k = inner (eqb (count t) 0) refl k
          where
            inner : (b : Bool) → eqb (count t) 0 ≡ b → cond b empty (answer (walk_all t (nearest t.points q) n.none)) ≡ hit s → Own t q s
            inner true f k = let z : ◌≡◌ {A = ℕ} 0 1 = cc in absurd (omega arith)
            inner false f k = found (walk_all t (nearest t.points q) n.none) s (walk-own t q (some (count t) f) (few (eqb-true (refusal t.points q) 0 g))) k
              where
                some : (m : ℕ) → eqb m 0 ≡ false → 0 < m
                some zero f = absurd (subst T f tt)
                some (suc m) f = omega arith

                few : refusal t.points q ≡ 0 → count t ≤ limit
                few g = low (eqb (length t.points % 2) 1) (ltb limit (count t)) refl g
                  where
                    low : (a b : Bool) → ltb limit (count t) ≡ b → ◌≡◌ {A = ℕ} (cond a 1 (cond b 2 (cond (finite q.x && finite q.y) 0 4))) 0 → count t ≤ limit
                    low true b e f = absurd (omega arith)
                    low false true e f = absurd (omega arith)
                    low false false e f = ltb-false limit (count t) e

    go : (a : Reply) → near t q ≡ a → Says a (told (Hit i d)) → (i < count t) × Root (point t.points q i).d2 d
    go (hit s) e h =
        let o = own s e in
        let j : i ≡ s.index = cc in
        let D : Root s.d2 d = first s.d2 d h.distances_are in (
          subst (λ (k : ℕ). k < count t) (sym j) o.inside,
          subst (λ (k : ℕ). Root (point t.points q k).d2 d) (sym j) (subst (λ (z : Best). Root z.d2 d) o.own D),
        )
      where
        first : (x y : Float) → Roots (x ∷ []) (y ∷ []) → Root x y
        first x y (more r none) = r
    go empty e h = let z : ◌≡◌ {A = ℕ} 0 1 = cc in absurd (omega arith)
    go (refused k) e h = let z : ◌≡◌ {A = ℕ} 0 1 = cc in absurd (omega arith)

-- ---- one answer
abbrev pub Fits : Nearest → Type 0
Fits (Hit i d) = T (fits binary64 d)
Fits Empty = Unit
Fits (Refused k) = Unit

told-one : (r s : Nearest) → (told r).answered ≡ (told s).answered → (told r).number ≡ (told s).number → (told r).detail ≡ (told s).detail → (told r).indices ≡ (told s).indices → (told r).distances ≡ (told s).distances → r ≡ s
told-one (Hit i d) (Hit j e) a b d' c h = cc
told-one (Hit i d) Empty a b d' c h = let z : ◌≡◌ {A = ℕ} 0 1 = cc in absurd (omega arith)
told-one (Hit i d) (Refused k) a b d' c h = absurd (subst T a tt)
told-one Empty (Hit j e) a b d' c h = let z : ◌≡◌ {A = ℕ} 0 1 = cc in absurd (omega arith)
told-one Empty Empty a b d' c h = refl
told-one Empty (Refused k) a b d' c h = absurd (subst T a tt)
told-one (Refused k) (Hit j e) a b d' c h = absurd (subst T (sym a) tt)
told-one (Refused k) Empty a b d' c h = absurd (subst T (sym a) tt)
told-one (Refused k) (Refused m) a b d' c h = ap (λ (r : Refusal). Refused r) (same-refusal k m b d')

pub answers_unique : (t : Tree) (q : Coord) (r s : Nearest) → Fits r → Fits s → Answers t q (told r) → Answers t q (told s) → r ≡ s
answers_unique t q r s f g h k =
    told-one r s (h.answered_is ∙ sym k.answered_is) (h.number_is ∙ sym k.number_is) (h.detail_is ∙ sym k.detail_is) (h.indices_are ∙ sym k.indices_are)
    (roots_unique h.distances_are k.distances_are (held r f) (held s g))
  where
    held : (r : Nearest) → Fits r → Held (told r).distances
    held (Hit i d) f = (f, tt)
    held Empty f = tt
    held (Refused m) f = tt
