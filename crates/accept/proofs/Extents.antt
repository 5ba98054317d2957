-- The tight box of two parts is the box around their tight boxes, and a node's box holds every point of a part exactly where it holds
-- the part's tight box. Each end of a tight box is the coordinate of some point of the part, and `le` is transitive. Assumes nothing.
use mathlib.Core.Path.{◌≡◌, refl, sym, subst}
use mathlib.Core.Bool.{Bool, true, false, not, ◌&&◌, cond}
use Prim.Native.Nat.{ℕ, ◌+◌, ◌*◌, ◌≤◌, ◌<◌}
use native.Mathlib.Omega.{arith}
use lib.Dec.{T, ltb}
use lib.ListN.{get_or}
use lib.Ieee.{Float, fin, le, lt, is_nan, nan, inf}
use lib.Ieee.Fits.{and_l, and_r, and_i}
use lib.Ieee.Scale.{finite}
use borrow.Author.Tests.{ltb-true, ltb-false}
use Rattle.distance.specs.declared.Bounds.{Bounds}
use Rattle.distance.proofs.Order.{le_chain}
use Rattle.distance.proofs.Prune.{lt→le, le_self, le_of_not_lt}
use Rattle.tree.specs.Points.{x, y}
use Rattle.tree.specs.Accepted.{Tree, count, Boxed}
use Rattle.accept.specs.declared.extent.Span.{Span}
use Rattle.accept.specs.declared.extent.Extent.{Extent}
use Rattle.accept.specs.Inner.{dot, around, within, of_entry, joined, fits, Extreme, above, Spans, Tight, Ready}

pub of_true : (b : Bool) → b ≡ true → T b
of_true b e = subst T (sym e) tt

-- ---- numbers
no_nan : (p : Float) → T (finite p) → T (not (is_nan p))
unfolding is_nan
no_nan (fin s m e) h = tt
no_nan nan h = elim h [ ]
no_nan (inf _) h = elim h [ ]

lt_true_le : (p q : Float) → lt p q ≡ true → T (le p q)
lt_true_le p q e = lt→le p q (of_true (lt p q) e)

lt_false_le : (p q : Float) → T (finite p) → T (finite q) → lt p q ≡ false → T (le q p)
lt_false_le p q P Q e = le_of_not_lt p q (no_nan p P) (no_nan q Q) e

-- ---- one entry, and two parts
module _ (R : Float → Float → Bool) (f : ℕ → Float) where
  extreme_one : (k : ℕ) → T (R (f k) (f k)) → Extreme R f k (k + 1) (f k)
  extreme_one k h = record {
    all = λ j a b. subst (λ (z : ℕ). T (R (f k) (f z))) (same k j a b) h;
    at = k;
    from = omega arith;
    to = omega arith;
    is = refl;
  }
    where
      same : (k j : ℕ) → k ≤ j → j < k + 1 → k ≡ j
      same k j a b = omega arith

  module _ (chain : (p q r : Float) → T (R p q) → T (R q r) → T (R p r)) (a h e : ℕ) (m n : Float) (M : Extreme R f a h m) (N : Extreme R f h e n) where
    extreme_join : (c : Bool) → (c ≡ true → T (R n m)) → (c ≡ false → T (R m n)) → Extreme R f a e (cond c n m)
    extreme_join true p q = record {
      all = λ k i j. go k i j (ltb k h) refl;
      at = N.at;
      from = omega (arith, M.from, M.to, N.from);
      to = N.to;
      is = N.is;
    }
      where
        go : (k : ℕ) → a ≤ k → k < e → (b : Bool) → ltb k h ≡ b → T (R n (f k))
        go k i j true z = chain n m (f k) (p refl) (M.all k i (ltb-true k h z))
        go k i j false z = N.all k (ltb-false k h z) j
    extreme_join false p q = record {
      all = λ k i j. go k i j (ltb k h) refl;
      at = M.at;
      from = M.from;
      to = omega (arith, M.to, N.from, N.to);
      is = M.is;
    }
      where
        go : (k : ℕ) → a ≤ k → k < e → (b : Bool) → ltb k h ≡ b → T (R m (f k))
        go k i j true z = M.all k i (ltb-true k h z)
        go k i j false z = chain m n (f k) (q refl) (N.all k (ltb-false k h z) j)

extreme_finite : {R : Float → Float → Bool} {f : ℕ → Float} {a e : ℕ} {m : Float} (n : ℕ) → e ≤ n → ((k : ℕ) → k < n → T (finite (f k))) → Extreme R f a e m → T (finite m)
extreme_finite n h F M = subst (λ (z : Float). T (finite z)) (sym M.is) (F M.at (omega (arith, M.to)))

-- ---- the same of spans
spans_one : (f : ℕ → Float) (k : ℕ) → T (finite (f k)) → Spans f k (k + 1) (dot (f k))
spans_one f k h = let self = le_self (f k) (no_nan (f k) h) in record { low = extreme_one le f k self; high = extreme_one above f k self }

spans_join : (f : ℕ → Float) (n : ℕ) → ((k : ℕ) → k < n → T (finite (f k))) → (a h e : ℕ) → h ≤ n → e ≤ n → (s u : Span) → Spans f a h s → Spans f h e u → Spans f a e (around s u)
spans_join f n F a h e H E s u S U =
    record {
      low = extreme_join le f le_chain a h e s.low u.low S.low U.low (lt u.low s.low) (lt_true_le u.low s.low) (lt_false_le u.low s.low (extreme_finite n E F U.low) (extreme_finite n H F S.low));
      high = extreme_join above f (λ u v w i j. le_chain w v u j i) a h e s.high u.high S.high U.high (lt s.high u.high) (lt_true_le s.high u.high) (lt_false_le s.high u.high (extreme_finite n H F S.high) (extreme_finite n E F U.high));
    }

module _ (t : Tree) (O : Ready t) where
  fine_x : (k : ℕ) → k < count t → T (finite (x t.points (get_or t.indices k 0)))
  fine_x k h = O.all_finite (2 * get_or t.indices k 0) (omega (arith, O.below k h))

  fine_y : (k : ℕ) → k < count t → T (finite (y t.points (get_or t.indices k 0)))
  fine_y k h = O.all_finite (2 * get_or t.indices k 0 + 1) (omega (arith, O.below k h))

  pub tight_one : (k : ℕ) → k < count t → Tight t k (k + 1) (of_entry t k)
  tight_one k h = record {
    on_x = spans_one (λ k. x t.points (get_or t.indices k 0)) k (fine_x k h);
    on_y = spans_one (λ k. y t.points (get_or t.indices k 0)) k (fine_y k h);
  }

  pub tight_join : (a h e : ℕ) (s u : Extent) → h ≤ count t → e ≤ count t → Tight t a h s → Tight t h e u → Tight t a e (joined s u)
  tight_join a h e s u H E S U = record {
    on_x = spans_join (λ k. x t.points (get_or t.indices k 0)) (count t) fine_x a h e H E s.x u.x S.on_x U.on_x;
    on_y = spans_join (λ k. y t.points (get_or t.indices k 0)) (count t) fine_y a h e H E s.y u.y S.on_y U.on_y;
  }

-- ---- the test, on one axis
record Between (min max : Float) (f : ℕ → Float) (a e : ℕ) : Type 0 where
  min_finite : T (finite min)
  max_finite : T (finite max)
  over : (k : ℕ) → a ≤ k → k < e → T (le min (f k))
  under : (k : ℕ) → a ≤ k → k < e → T (le (f k) max)

module _ (min max : Float) (s : Span) (f : ℕ → Float) (a e : ℕ) (S : Spans f a e s) where
  within-between : T (within min max s) → Between min max f a e
  within-between h =
      let p = finite min in
      let q = finite max in
      let r = le min s.low in
      let z = le s.high max in
      record {
        min_finite = and_l p q (and_l (p && q) r (and_l (p && q && r) z h));
        max_finite = and_r p q (and_l (p && q) r (and_l (p && q && r) z h));
        over = λ k i j. le_chain min s.low (f k) (and_r (p && q) r (and_l (p && q && r) z h)) (S.low.all k i j);
        under = λ k i j. le_chain (f k) s.high max (S.high.all k i j) (and_r (p && q && r) z h);
      }

  between-within : Between min max f a e → T (within min max s)
  between-within B =
      let p = finite min in
      let q = finite max in
      let r = le min s.low in
      let z = le s.high max in
      and_i (p && q && r) z
      (and_i (p && q) r (and_i p q B.min_finite B.max_finite) (subst (λ (z : Float). T (le min z)) (sym S.low.is) (B.over S.low.at S.low.from S.low.to)))
      (subst (λ (z : Float). T (le z max)) (sym S.high.is) (B.under S.high.at S.high.from S.high.to))

-- ---- and on both
module _ (t : Tree) (b : Bounds) (a e : ℕ) (s : Extent) (S : Tight t a e s) where
  pub fits_boxed : T (fits b s) → Boxed t b a e
  fits_boxed h =
      let X = within-between b.min_x b.max_x s.x (λ k. x t.points (get_or t.indices k 0)) a e S.on_x (and_l (within b.min_x b.max_x s.x) (within b.min_y b.max_y s.y) h) in
      let Y = within-between b.min_y b.max_y s.y (λ k. y t.points (get_or t.indices k 0)) a e S.on_y (and_r (within b.min_x b.max_x s.x) (within b.min_y b.max_y s.y) h) in
      record {
        some = omega (arith, S.on_x.low.from, S.on_x.low.to);
        closed = record { min_x = X.min_finite; max_x = X.max_finite; min_y = Y.min_finite; max_y = Y.max_finite };
        holds = λ k i j. record { above_x = X.over k i j; below_x = X.under k i j; above_y = Y.over k i j; below_y = Y.under k i j };
      }

  pub boxed_fits : Boxed t b a e → T (fits b s)
  boxed_fits B = and_i (within b.min_x b.max_x s.x) (within b.min_y b.max_y s.y)
      (between-within b.min_x b.max_x s.x (λ k. x t.points (get_or t.indices k 0)) a e S.on_x record {
        min_finite = B.closed.min_x;
        max_finite = B.closed.max_x;
        over = λ k i j. (B.holds k i j).above_x;
        under = λ k i j. (B.holds k i j).below_x;
      })
      (between-within b.min_y b.max_y s.y (λ k. y t.points (get_or t.indices k 0)) a e S.on_y record {
        min_finite = B.closed.min_y;
        max_finite = B.closed.max_y;
        over = λ k i j. (B.holds k i j).above_y;
        under = λ k i j. (B.holds k i j).below_y;
      })
