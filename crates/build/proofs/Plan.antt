-- The answer over slices of given lengths, row by row of the refusals: each where the rows before it do not apply.
-- Assumes nothing.
use mathlib.Core.Path.{◌≡◌}
use mathlib.Core.Logic.{◌⊎◌}
use mathlib.Core.List.{List}
use Prim.Native.Nat.{ℕ, ◌/◌, ◌<◌, ◌≤◌}
use native.Mathlib.Omega.{arith}
use lib.Ieee.{Float}
use Rattle.std.specs.Prelude.{Ok, Err, min}
use Rattle.refusal.specs.Numbers.{told}
use Rattle.refusal.specs.declared.Refusal.{Refusal}
use Rattle.refusal.specs.declared.Refusal.TheVariants.{NodesTooShort}
use Rattle.tree.specs.Points.{size, Usable, Checks}
use Rattle.tree.specs.Points as checks
use Rattle.build.specs.Built.{needed}
use Rattle.build.specs.Outcome.{Due, odd, many, not_finite, few_nodes, allowed}

pub usable_of : {points : List Float} {u : Unit} → Checks points (Ok u) → Usable points
usable_of (checks.usable h) = h

module _ (ls : ℕ) (points : List Float) (i b k : ℕ) where
  pub due_checks : (r : Refusal) → Checks points (Err r) → Due ls points i b k (told (Err r))
  due_checks _ (checks.odd h) = odd h
  due_checks _ (checks.many e h) = many e h
  due_checks _ (checks.not_finite e l h f) = not_finite e l h f

  module _ (U : Usable points) (I : size points ≤ i) (n : ℕ) (N : n ≡ needed ls points) where
    pub due_nodes : (w : ℕ) → w ≡ min (b / 6) (k / 4) → w < n → Due ls points i b k (told (Err (NodesTooShort n)))
    due_nodes w e h = rw N (few_nodes U I (lesser (b / 6) (k / 4) (needed ls points) (omega arith)))
      where
        lesser : (x y m : ℕ) → min x y < m → (x < m) ⊎ (y < m)
        lesser x y m h = grind arith

    pub due_given : (w : ℕ) → w ≡ min (b / 6) (k / 4) → n ≤ w → Due ls points i b k (told (Ok n))
    due_given w e h = rw N (allowed (record { usable = U; room = I; floats = omega arith; numbers = omega arith }))
