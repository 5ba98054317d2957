-- The order by d2 and then by index is the order of one number, the rank: totalOrder's key of d2, and below it the index.
-- Points of an accepted tree seen from a finite place have ranks of their own; and where a box's bound is above d, so is
-- the d2 of each point in the box. By the laws of `distance`. Assumes nothing.
use mathlib.Core.Path.{◌≡◌, refl, sym, ap, ◌∙◌, subst}
use mathlib.Core.Bool.{Bool, true, false, not, ◌&&◌, ◌||◌}
use Prim.Native.Nat.{ℕ, ◌+◌, ◌*◌, ◌^◌, ◌≤◌, ◌<◌}
use native.Mathlib.Omega.{arith}
use lib.Dec.{T, ltb}
use lib.Ieee.{Float, inf, fin, binary64, lt, le, eq, is_nan, fits, nan}
use borrow.Author.Tests.{lt-ltb, le-ltb, ltb-true, ltb-false}
use Rattle.distance.specs.Distance.{bound}
use lib.Ieee.Scale.{finite}
use Rattle.distance.proofs.Mono.{d2-nonneg}
use Rattle.distance.proofs.Order.{lt-is_not_le, plain, nonneg-plain}
use Rattle.distance.proofs.Prune.{le_self, lt_not_le, prune_strict}
use Rattle.distance.specs.TotalOrder.{key}
use Rattle.distance.proofs.TotalKey.{key-lt-all, key_inj}
use Rattle.distance.proofs.Squares.{d2-fits, Three, below, same, above, three}
use Rattle.tree.specs.Points.{x, y}
use Rattle.tree.specs.Accepted.{Tree, count, Finite, Holds, Accepted}
use Rattle.search.specs.Order.{best, point, before}
use Rattle.distance.specs.declared.Bounds.{Bounds}
use Rattle.distance.specs.declared.Coord.{Coord}
use Rattle.search.specs.declared.Best.{Best}

-- a best that the order is total on
pub record Good (s : Best) : Type 0 where
  pub held : T (fits binary64 s.d2)
  pub plain : T (plain s.d2)
  pub small : s.index < 2 ^ 32

pub rank : Best → ℕ
rank s = key s.d2 * 2 ^ 32 + s.index

is_true : (b : Bool) → T b → b ≡ true
is_true true h = refl
is_true false h = elim h [ ]

pub no_nan : (z : Float) → T (plain z) → T (not (is_nan z))
unfolding is_nan
no_nan (inf s) p = tt
no_nan (fin s m e) p = tt
no_nan nan p = elim p [ ]

-- ---- the three cases of `before`
less : (z w : Float) → T (lt z w) → (b : Bool) → (lt z w || (eq z w && b)) ≡ true
less z w h b = ap (λ (c : Bool). c || (eq z w && b)) (is_true (lt z w) h)

more : (z w : Float) → T (lt w z) → (b : Bool) → (lt z w || (eq z w && b)) ≡ false
unfolding le
more z w h b = go (lt z w) (eq z w) (lt_not_le w z h)
  where
    go : (c d : Bool) → (T (c || d) → ⊥) → (c || (d && b)) ≡ false
    go true d e = absurd (e tt)
    go false true e = absurd (e tt)
    go false false e = refl

-- a point that is farther than another does not stand before it
pub farther : (z w : Float) (i j : ℕ) → lt w z ≡ true → before (best z i) (best w j) ≡ false
farther z w i j h = more z w (subst T (sym h) tt) (ltb i j)

like : (z : Float) → T (plain z) → (b : Bool) → (lt z z || (eq z z && b)) ≡ b
unfolding le
like z p b = go (lt z z) (eq z z) (is_true (le z z) (le_self z (no_nan z p))) (lt-is_not_le z z (no_nan z p) (no_nan z p))
  where
    go : (c d : Bool) → (c || d) ≡ true → c ≡ not (c || d) → (c || (d && b)) ≡ b
    go true d e f = absurd (subst T f tt)
    go false true e f = refl
    go false false e f = absurd (subst T (sym e) tt)

pub before-is : (s a : Best) → Good s → Good a → before s a ≡ ltb (rank s) (rank a)
unfolding rank
before-is s a g h = go (three s.d2 a.d2 g.held h.held g.plain h.plain)
  where
    up : (k l i j : ℕ) → k < l → i < 2 ^ 32 → k * 2 ^ 32 + i < l * 2 ^ 32 + j
    up k l i j h m = omega arith

    down : (k l i j : ℕ) → l < k → j < 2 ^ 32 → l * 2 ^ 32 + j ≤ k * 2 ^ 32 + i
    down k l i j h m = omega arith

    beside : (k i j : ℕ) (b : Bool) → ltb i j ≡ b → b ≡ ltb (k * 2 ^ 32 + i) (k * 2 ^ 32 + j)
    beside k i j true e = let h = ltb-true i j e in sym (lt-ltb (k * 2 ^ 32 + i) (k * 2 ^ 32 + j) (omega arith))
    beside k i j false e = let h = ltb-false i j e in sym (le-ltb (k * 2 ^ 32 + i) (k * 2 ^ 32 + j) (omega arith))

    go : Three s.d2 a.d2 → before s a ≡ ltb (key s.d2 * 2 ^ 32 + s.index) (key a.d2 * 2 ^ 32 + a.index)
    go (below l) =
        less s.d2 a.d2 l (ltb s.index a.index)
        ∙ sym (lt-ltb (key s.d2 * 2 ^ 32 + s.index) (key a.d2 * 2 ^ 32 + a.index) (up (key s.d2) (key a.d2) s.index a.index (key-lt-all s.d2 a.d2 g.held h.held l) g.small))
    go (same e) =
        subst (λ (z : Float). before s (best z a.index) ≡ ltb (key s.d2 * 2 ^ 32 + s.index) (key z * 2 ^ 32 + a.index)) e
        (like s.d2 g.plain (ltb s.index a.index) ∙ beside (key s.d2) s.index a.index (ltb s.index a.index) refl)
    go (above l) =
        more s.d2 a.d2 l (ltb s.index a.index)
        ∙ sym (le-ltb (key s.d2 * 2 ^ 32 + s.index) (key a.d2 * 2 ^ 32 + a.index) (down (key s.d2) (key a.d2) s.index a.index (key-lt-all a.d2 s.d2 h.held g.held l) h.small))

-- ---- the points of an accepted tree, seen from a finite place
module _ (t : Tree) (q : Coord) (A : Accepted t) (QX : T (finite q.x)) (QY : T (finite q.y)) where
  x-finite : (i : ℕ) → i < count t → T (finite (x t.points i))
  x-finite i h = A.all_finite (2 * i) (omega arith)

  y-finite : (i : ℕ) → i < count t → T (finite (y t.points i))
  y-finite i h = A.all_finite (2 * i + 1) (omega arith)

  abbrev pub pt : ℕ → Best
  pt i = point t.points q i

  pub point-good : (i : ℕ) → i < count t → Good (pt i)
  point-good i h = record {
    held = d2-fits q.x q.y (x t.points i) (y t.points i);
    plain = nonneg-plain (pt i).d2 (d2-nonneg q.x q.y (x t.points i) (y t.points i) QX QY (x-finite i h) (y-finite i h));
    small = omega (arith, A.in_limit);
  }

  pub same_rank : (i j : ℕ) → i < count t → j < count t → rank (pt i) ≡ rank (pt j) → pt i ≡ pt j
  unfolding rank
  same_rank i j h k e = ap pt (low (key (pt i).d2) (key (pt j).d2) i j e (omega (arith, A.in_limit)) (omega (arith, A.in_limit)))
    where
      low : (k l i j : ℕ) → k * 2 ^ 32 + i ≡ l * 2 ^ 32 + j → i < 2 ^ 32 → j < 2 ^ 32 → i ≡ j
      low k l i j e h m = omega arith

  -- a point of a box whose bound is above d is further than d
  pub far-point : (d : Float) (b : Bounds) (i : ℕ) → i < count t → Finite b → Holds b (x t.points i) (y t.points i) → lt d (bound q b) ≡ true → lt d (pt i).d2 ≡ true
  far-point d b i h f o p =
      is_true (lt d (pt i).d2)
      (prune_strict q.x q.y (x t.points i) (y t.points i) b.min_x b.min_y b.max_x b.max_y d
      (record { q_finite = QX; p_finite = x-finite i h; lo_finite = f.min_x; hi_finite = f.max_x; above_lo = o.above_x; below_hi = o.below_x })
      (record { q_finite = QY; p_finite = y-finite i h; lo_finite = f.min_y; hi_finite = f.max_y; above_lo = o.above_y; below_hi = o.below_y })
      (subst T (sym p) tt))

-- two that stand at one place of the order are one
pub rank-one : (a b : Best) → Good a → Good b → rank a ≡ rank b → a ≡ b
unfolding rank
rank-one a b g h e =
    let k = high (key a.d2) (key b.d2) a.index b.index e g.small h.small in
    let i = low (key a.d2) (key b.d2) a.index b.index e g.small h.small in
    let d = key_inj a.d2 b.d2 g.held h.held k in
    ap (λ (z : Float). best z a.index) d ∙ ap (λ (j : ℕ). best b.d2 j) i
  where
    high : (k l i j : ℕ) → k * 2 ^ 32 + i ≡ l * 2 ^ 32 + j → i < 2 ^ 32 → j < 2 ^ 32 → k ≡ l
    high k l i j e h m = omega arith

    low : (k l i j : ℕ) → k * 2 ^ 32 + i ≡ l * 2 ^ 32 + j → i < 2 ^ 32 → j < 2 ^ 32 → i ≡ j
    low k l i j e h m = omega arith
