-- The nearest query over an accepted tree: any two points may be taken in either order, and a box is passed over only where
-- its points are farther. So the walk ends at what the plain scan finds, which is the least point by d2 and then by index.
-- By the rank, one number for each point held. Assumes nothing.
use mathlib.Core.Path.{◌≡◌, refl, sym, ap, ◌∙◌, subst}
use mathlib.Core.Logic.{◌⊎◌, inl, inr}
use mathlib.Core.List.{List}
use mathlib.Core.Bool.{Bool, true, false, ◌&&◌, ◌||◌, cond}
use Prim.Native.Nat.{ℕ, zero, suc, ◌≤◌, ◌<◌}
use native.Mathlib.Nat.{eq-or-lt_of_le, le_of_suc-le-suc}
use native.Mathlib.Omega.{arith}
use lib.Dec.{T, ltb}
use lib.Ieee.{Float, nan, inf, fin, lt, eq, fits}
use lib.Ieee.Scale.{finite}
use borrow.Author.Tests.{ltb-true, ltb-false, lt-ltb, le-ltb}
use Rattle.distance.specs.declared.Coord.{Coord}
use Rattle.tree.specs.Accepted.{Tree, count, Accepted}
use Rattle.search.specs.Walk.{plain}
use Rattle.search.specs.Order.{point, before}
use Rattle.search.specs.declared.Best.{Best}
use Rattle.search.proofs.Whole.{Fair}
use Rattle.search.proofs.Rank.{Good, rank, before-is, point-good, same_rank, far-point}
use Rattle.nearest.specs.Nearest.{better, nearest, none}

-- ---- the lesser of two
choose : Best → Best → Best
choose s a = cond (ltb (rank s) (rank a)) s a

choose_swap : (s a b : Best) → (rank a ≡ rank b → a ≡ b) → choose (choose s a) b ≡ choose (choose s b) a
unfolding choose
choose_swap s a b tie = go (ltb (rank s) (rank a)) (ltb (rank s) (rank b)) (ltb (rank a) (rank b)) (ltb (rank b) (rank a)) refl refl refl refl
  where
    go : (p q r u : Bool) → ltb (rank s) (rank a) ≡ p → ltb (rank s) (rank b) ≡ q → ltb (rank a) (rank b) ≡ r → ltb (rank b) (rank a) ≡ u
        → choose (choose s a) b ≡ choose (choose s b) a
    go true true r u hp hq hr hu = simp (hp, hq)
    go true false r true hp hq hr hu = simp (hp, hq, hu)
    go true false r false hp hq hr hu = absurd (omega (arith, ltb-true (rank s) (rank a) hp, ltb-false (rank s) (rank b) hq, ltb-false (rank b) (rank a) hu))
    go false true true u hp hq hr hu = simp (hp, hq, hr)
    go false true false u hp hq hr hu = absurd (omega (arith, ltb-false (rank s) (rank a) hp, ltb-true (rank s) (rank b) hq, ltb-false (rank a) (rank b) hr))
    go false false true true hp hq hr hu = absurd (omega (arith, ltb-true (rank a) (rank b) hr, ltb-true (rank b) (rank a) hu))
    go false false true false hp hq hr hu = simp (hp, hq, hr, hu)
    go false false false true hp hq hr hu = simp (hp, hq, hr, hu)
    go false false false false hp hq hr hu = simp (hp, hq, hr, hu) (sym (tie (omega (arith, ltb-false (rank a) (rank b) hr, ltb-false (rank b) (rank a) hu))))

-- ---- fair
module _ (t : Tree) (q : Coord) (A : Accepted t) (QX : T (finite q.x)) (QY : T (finite q.y)) where
  abbrev pt : ℕ → Best
  pt i = point t.points q i

  next-is : (s : Best) (i : ℕ) → Good s → i < count t → (nearest t.points q).next s i ≡ choose s (pt i)
  unfolding choose
  next-is s i g h = ap (λ (b : Bool). cond b s (pt i)) (before-is s (pt i) g (point-good t q A QX QY i h))

  next-good : (s : Best) (i : ℕ) → Good s → i < count t → Good ((nearest t.points q).next s i)
  next-good s i g h = go (before s (pt i))
    where
      go : (b : Bool) → Good (cond b s (pt i))
      go true = g
      go false = point-good t q A QX QY i h

  pub nearest_fair : Fair t (nearest t.points q) Good
  nearest_fair = record {
    stays = next-good;
    swaps = λ s i j g h k.
        let sw : choose (choose s (pt i)) (pt j) ≡ choose (choose s (pt j)) (pt i) = choose_swap s (pt i) (pt j) (same_rank t q A QX QY i j h k) in
        next-is ((nearest t.points q).next s i) j (next-good s i g h) k
        ∙ ap (λ (z : Best). choose z (pt j)) (next-is s i g h)
        ∙ sw
        ∙ sym (next-is ((nearest t.points q).next s j) i (next-good s j g k) h ∙ ap (λ (z : Best). choose z (pt i)) (next-is s j g k));
    passes = λ s b i g h f o p. ap (λ (c : Bool). cond (c || (eq s.d2 (pt i).d2 && ltb s.index i)) s (pt i)) (far-point t q A QX QY s.d2 b i h f o p);
    takes = λ s b i h f o p. absurd (subst T (sym p) tt);
  }

pub none-good : Good none
unfolding fits
none-good = record { held = tt; plain = tt; small = omega arith }

-- ---- the scan
-- of the first m points, s is the least
pub record Least (points : List Float) (q : Coord) (m : ℕ) (s : Best) : Type 0 where
  pub inside : s.index < m
  pub own : s ≡ point points q s.index
  pub least : (k : ℕ) → k < m → (k ≡ s.index) ⊎ (before s (point points q k) ≡ true)

-- nothing is after `none`
pub none_last : (p : Best) → p.index < 4_294_967_295 → before none p ≡ false
unfolding lt
none_last p h = over (lt (inf false) p.d2) (eq (inf false) p.d2) (ltb 4_294_967_295 p.index) (top p.d2) (le-ltb 4_294_967_295 p.index (omega arith))
  where
    top : (z : Float) → lt (inf false) z ≡ false
    top nan = refl
    top (inf s) = refl
    top (fin s m e) = refl

    over : (a b c : Bool) → a ≡ false → c ≡ false → (a || (b && c)) ≡ false
    over a true c p q = rw (p, q)
    over a false c p q = rw p

module _ (t : Tree) (q : Coord) (A : Accepted t) (QX : T (finite q.x)) (QY : T (finite q.y)) where
  abbrev pl : ℕ → Best
  pl i = point t.points q i

  good : (i : ℕ) → i < count t → Good (pl i)
  good i h = point-good t q A QX QY i h

  pub least : (m : ℕ) → suc m ≤ count t → Least t.points q (suc m) (plain (nearest t.points q).next none (suc m))
  least zero h = subst (λ (b : Bool). Least t.points q 1 (cond b none (pl 0))) (sym (none_last (pl 0) (omega arith)))
      (record { inside = omega arith; own = refl; least = λ k l. inl (omega arith) })
  least (suc m) h = go (plain (nearest t.points q).next none (suc m)) (least m (omega arith))
    where
      go : (s : Best) → Least t.points q (suc m) s → Least t.points q (suc (suc m)) (better s (pl (suc m)))
      go s L = pick (before s (pl (suc m))) refl
        where
          is : before s (pl (suc m)) ≡ ltb (rank s) (rank (pl (suc m)))
          is = before-is s (pl (suc m)) (subst (λ (z : Best). Good z) (sym L.own) (good s.index (omega (arith, L.inside)))) (good (suc m) h)

          last : (k : ℕ) → k < suc (suc m) → (k ≡ suc m) ⊎ (k < suc m)
          last k l = eq-or-lt_of_le (le_of_suc-le-suc l)

          -- the new point is before s, and so before all others
          strict : before s (pl (suc m)) ≡ false → rank (pl (suc m)) < rank s
          strict e = elim (eq-or-lt_of_le (ltb-false (rank s) (rank (pl (suc m))) (sym is ∙ e))) [
            | inl r ↦ absurd (apart (ap (λ (b : Best). b.index) (same_rank t q A QX QY (suc m) s.index h (omega (arith, L.inside)) (r ∙ ap rank L.own))))
            | inr r ↦ r
          ]
            where
              apart : suc m ≡ s.index → ⊥
              apart e = omega (arith, L.inside)

          pick : (b : Bool) → before s (pl (suc m)) ≡ b → Least t.points q (suc (suc m)) (cond b s (pl (suc m)))
          pick true e = record {
            inside = omega (arith, L.inside);
            own = L.own;
            least = λ k l. elim (last k l) [ inl g ↦ inr (subst (λ (j : ℕ). before s (pl j) ≡ true) (sym g) e) | inr g ↦ L.least k g ];
          }
          pick false e = record {
            inside = omega arith;
            own = refl;
            least = λ k l. elim (last k l) [
              | inl g ↦ inl g
              | inr g ↦ inr (before-is (pl (suc m)) (pl k) (good (suc m) h) (good k (omega arith)) ∙ lt-ltb (rank (pl (suc m))) (rank (pl k)) (over k g))
            ];
          }
            where
              over : (k : ℕ) → k < suc m → rank (pl (suc m)) < rank (pl k)
              over k g = elim (L.least k g) [
                | inl f ↦ subst (λ (z : Best). rank (pl (suc m)) < rank z) (L.own ∙ ap pl (sym f)) (strict e)
                | inr f ↦ let a = strict e in let b = ltb-true (rank s) (rank (pl k)) (sym (before-is s (pl k) (subst (λ (z : Best). Good z) (sym L.own) (good s.index (omega (arith, L.inside)))) (good k (omega arith))) ∙ f) in omega arith
              ]
