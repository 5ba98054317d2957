-- The least index of a point that is not finite: there is one such number at most, and where it is n, all coordinates are finite.
-- By comparing two of them, and by halving a position into a point and a coordinate. Assumes nothing.
use mathlib.Core.Path.{◌≡◌, refl, subst}
use mathlib.Core.List.{List}
use mathlib.Core.Bool.{Bool, true, false}
use Prim.Native.Nat.{ℕ, zero, suc, ◌+◌, ◌*◌, ◌/◌, ◌%◌, ◌≤◌, ◌<◌}
use native.Mathlib.Nat.{le_antisymm, le_of_suc-le-suc, not-le_of_lt, not-suc-le-zero}
use native.Mathlib.Omega.{arith}
use lib.Dec.{T, ltb}
use lib.ListN.{length, get_or}
use lib.Ieee.{Float, nan}
use lib.Ieee.Fits.{and_l, and_r, and_i}
use lib.Ieee.Scale.{finite}
use borrow.Author.Tests.{ltb-true, ltb-false}
use Rattle.tree.specs.Points.{size, x, y, finite_at, AllFinite, FirstBad}

-- ---- what it is
pub first_bad_not : (points : List Float) (i : ℕ) → T (finite_at points i) → finite_at points i ≡ false → ⊥
first_bad_not points i h e = subst T e h

pub first_bad_unique : (points : List Float) (i j : ℕ) → FirstBad points i → FirstBad points j → i ≡ j
first_bad_unique points i j F G = go (ltb i j) refl (ltb j i) refl
  where
    go : (b : Bool) → ltb i j ≡ b → (c : Bool) → ltb j i ≡ c → i ≡ j
    go true p c q = let h = ltb-true i j p in absurd (first_bad_not points i (G.before i h) (F.there (omega (arith, G.within))))
    go false p true q = let h = ltb-true j i q in absurd (first_bad_not points j (F.before j h) (G.there (omega (arith, F.within))))
    go false p false q = le_antisymm (ltb-false j i q) (ltb-false i j p)

pub finite_at_of_all : (points : List Float) (i : ℕ) → AllFinite points → i < size points → T (finite_at points i)
finite_at_of_all points i A h = and_i (finite (x points i)) (finite (y points i)) (A (2 * i) (omega arith)) (A (2 * i + 1) (omega arith))

pub all_finite_of_first_bad : (points : List Float) (r : ℕ) → length points % 2 ≡ 0 → FirstBad points r → size points ≤ r → AllFinite points
all_finite_of_first_bad points r e F h k l = go (k % 2) refl (omega arith)
  where
    at : T (finite_at points (k / 2))
    at = F.before (k / 2) (omega arith)

    even : (k : ℕ) → k % 2 ≡ 0 → 2 * (k / 2) ≡ k
    even k e = omega arith

    odd : (k : ℕ) → k % 2 ≡ 1 → 2 * (k / 2) + 1 ≡ k
    odd k e = omega arith

    go : (m : ℕ) → k % 2 ≡ m → m ≤ 1 → T (finite (get_or points k nan))
    go zero q g = subst (λ (z : ℕ). T (finite (get_or points z nan))) (even k q) (and_l (finite (x points (k / 2))) (finite (y points (k / 2))) at)
    go (suc zero) q g = subst (λ (z : ℕ). T (finite (get_or points z nan))) (odd k q) (and_r (finite (x points (k / 2))) (finite (y points (k / 2))) at)
    go (suc (suc m)) q g = absurd (not-suc-le-zero (le_of_suc-le-suc g))
