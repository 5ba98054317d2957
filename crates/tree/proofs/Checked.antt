-- What `counted` says of points: refused by it, they are refused by the check; passed, they are even and not too many. By
-- cases on its two tests. Assumes nothing.
use Rattle.std.proofs.Common.{◌≡◌, ℕ, ◌%◌, ◌≤◌, length, List, Result, Ok, Err, Bool, true, false, cond, refl, eqb, ltb, arith}
use Rattle.std.specs.Float.{Float}
use borrow.Author.Tests.{eqb-true, ltb-true, ltb-false, eqb-false}
use Rattle.refusal.specs.declared.Refusal.{Refusal}
use Rattle.refusal.specs.declared.Refusal.TheVariants.{OddCoordinates, TooManyPoints}
use Rattle.tree.specs.Points.{limit, size, counted, Checks, odd, many}

abbrev counts : Bool → Bool → Result Unit Refusal
counts o m = cond o (Err OddCoordinates) (cond m (Err TooManyPoints) (Ok tt))

even_of : (points : List Float) → eqb (length points % 2) 1 ≡ false → length points % 2 ≡ 0
even_of points h = let e = eqb-false (length points % 2) 1 h in omega (arith, e)

pub counted-checks : (points : List Float) (r : Refusal) → counted points ≡ Err r → Checks points (Err r)
counted-checks points r = go (eqb (length points % 2) 1) refl (ltb limit (size points)) refl
  where
    go : (o : Bool) → eqb (length points % 2) 1 ≡ o → (m : Bool) → ltb limit (size points) ≡ m → counts o m ≡ Err r → Checks points (Err r)
    go true p m q h = let e : r ≡ OddCoordinates = cc in rw e (odd (eqb-true _ _ p))
    go false p true q h = let e : r ≡ TooManyPoints = cc in rw e (many (even_of points p) (ltb-true _ _ q))
    go false p false q h = let z : ◌≡◌ {A = ℕ} 0 1 = cc in absurd (omega arith)

pub counted-even : (points : List Float) → counted points ≡ Ok tt → length points % 2 ≡ 0
counted-even points = go (eqb (length points % 2) 1) refl (ltb limit (size points))
  where
    go : (o : Bool) → eqb (length points % 2) 1 ≡ o → (m : Bool) → counts o m ≡ Ok tt → length points % 2 ≡ 0
    go true p m h = let z : ◌≡◌ {A = ℕ} 0 1 = cc in absurd (omega arith)
    go false p m h = even_of points p

pub counted-small : (points : List Float) → counted points ≡ Ok tt → size points ≤ limit
counted-small points = go (eqb (length points % 2) 1) (ltb limit (size points)) refl
  where
    go : (o m : Bool) → ltb limit (size points) ≡ m → counts o m ≡ Ok tt → size points ≤ limit
    go true m q h = let z : ◌≡◌ {A = ℕ} 0 1 = cc in absurd (omega arith)
    go false true q h = let z : ◌≡◌ {A = ℕ} 0 1 = cc in absurd (omega arith)
    go false false q h = ltb-false _ _ q
