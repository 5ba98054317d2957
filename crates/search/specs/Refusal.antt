-- What every query tests first, and what its answer comes to.
--   refusal points q    the number of the first of 1, 2 and 4 that applies to a query at q; 0 where none does
--   checked points q    the same as an answer
--   Told                a number of the table (0: none), and a detail: of a refusal its own, else how many hits
--   told r              what an answer that fills slices says, case by case
use Rattle.std.specs.Prelude.{cond, ◌&&◌, List, ℕ, ◌%◌, eqb, ltb, length, Float, Result, Ok, Err}
use Rattle.std.specs.Float.Ieee.Scale.{finite}
use Rattle.distance.specs.declared.Coord.{Coord}
use Rattle.refusal.specs.Numbers as code
use Rattle.refusal.specs.declared.Refusal.{Refusal}
use Rattle.refusal.specs.declared.Refusal.TheVariants.{OddCoordinates, TooManyPoints, PlaceNotFinite}
use Rattle.tree.specs.Points.{limit, size}

abbrev pub refusal : List Float → Coord → ℕ
refusal points q =
    cond (eqb (length points % 2) 1) 1
    (cond (ltb limit (size points)) 2
    (cond (finite q.x && finite q.y) 0 4))

abbrev pub checked : List Float → Coord → Result Unit Refusal
checked points q =
    cond (eqb (length points % 2) 1) (Err OddCoordinates)
    (cond (ltb limit (size points)) (Err TooManyPoints)
    (cond (finite q.x && finite q.y) (Ok tt) (Err PlaceNotFinite)))

pub record Told : Type 0 where
  pub number : ℕ
  pub detail : ℕ

abbrev pub told : Result ℕ Refusal → Told
told (Ok n) = record { number = 0; detail = n }
told (Err r) = record { number = code.number r; detail = code.detail r }
