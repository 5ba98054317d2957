-- A query that none of 1, 2 and 4 refuses stands at a finite place. By the tests of `refusal` in turn. Assumes nothing.
use mathlib.Core.Path.{◌≡◌, refl}
use mathlib.Core.Bool.{Bool, true, false, cond, ◌&&◌}
use mathlib.Core.List.{List}
use Prim.Native.Nat.{ℕ, ◌%◌}
use native.Mathlib.Omega.{arith}
use lib.Dec.{T, eqb, ltb}
use lib.ListN.{length}
use lib.Ieee.{Float}
use lib.Ieee.Scale.{finite}
use Rattle.distance.specs.declared.Coord.{Coord}
use Rattle.tree.specs.Points.{limit, size}
use Rattle.std.proofs.Common.{Result, Ok, Err}
use Rattle.refusal.specs.Numbers.{number, detail}
use Rattle.refusal.specs.declared.Refusal.{Refusal}
use Rattle.refusal.specs.declared.Refusal.TheVariants.{OddCoordinates, TooManyPoints, PlaceNotFinite}
use Rattle.search.specs.Refusal.{refusal, checked}

pub refusal-finite : (points : List Float) (q : Coord) → refusal points q ≡ 0 → T (finite q.x) × T (finite q.y)
refusal-finite points q h = go (eqb (length points % 2) 1) (ltb limit (size points)) (finite q.x) (finite q.y) h
  where
    go : (a b c d : Bool) → ◌≡◌ {A = ℕ} (cond a 1 (cond b 2 (cond (c && d) 0 4))) 0 → T c × T d
    go true b c d h = absurd (omega arith)
    go false true c d h = absurd (omega arith)
    go false false true true h = (tt, tt)
    go false false true false h = absurd (omega arith)
    go false false false d h = absurd (omega arith)

-- ---- the same as an answer
abbrev number_by : Bool → Bool → Bool → ℕ
number_by a b c = cond a 1 (cond b 2 (cond c 0 4))

abbrev answer_by : Bool → Bool → Bool → Result Unit Refusal
answer_by a b c = cond a (Err OddCoordinates) (cond b (Err TooManyPoints) (cond c (Ok tt) (Err PlaceNotFinite)))

pub checked-ok : (points : List Float) (q : Coord) (u : Unit) → checked points q ≡ Ok u → refusal points q ≡ 0
checked-ok points q u h = go (eqb (length points % 2) 1) (ltb limit (size points)) (finite q.x && finite q.y) h
  where
    go : (a b c : Bool) → answer_by a b c ≡ Ok u → number_by a b c ≡ 0
    go true b c h = let z : ◌≡◌ {A = ℕ} 0 1 = cc in absurd (omega arith)
    go false true c h = let z : ◌≡◌ {A = ℕ} 0 1 = cc in absurd (omega arith)
    go false false true h = refl
    go false false false h = let z : ◌≡◌ {A = ℕ} 0 1 = cc in absurd (omega arith)

-- what is refused, by number and detail
pub record Refuses (n : ℕ) (r : Refusal) : Type 0 where
  pub number_is : n ≡ number r
  pub detail_is : detail r ≡ 0
  pub some : n ≡ 0 → ⊥

pub checked-err : (points : List Float) (q : Coord) (r : Refusal) → checked points q ≡ Err r → Refuses (refusal points q) r
checked-err points q r h = go (eqb (length points % 2) 1) (ltb limit (size points)) (finite q.x && finite q.y) h
  where
    go : (a b c : Bool) → answer_by a b c ≡ Err r → Refuses (number_by a b c) r
    go true b c h = let e : r ≡ OddCoordinates = cc in rw e (record { number_is = refl; detail_is = refl; some = λ z. omega (arith, z) })
    go false true c h = let e : r ≡ TooManyPoints = cc in rw e (record { number_is = refl; detail_is = refl; some = λ z. omega (arith, z) })
    go false false true h = let z : ◌≡◌ {A = ℕ} 0 1 = cc in absurd (omega arith)
    go false false false h = let e : r ≡ PlaceNotFinite = cc in rw e (record { number_is = refl; detail_is = refl; some = λ z. omega (arith, z) })
