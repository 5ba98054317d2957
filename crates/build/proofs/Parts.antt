-- What is asked of a part holds of its halves and of its rearrangements; where no entry stands twice, no higher is lower.
-- Assumes nothing.
-- ---- the parts of a part
use mathlib.Core.Path.{◌≡◌, ap}
use mathlib.Core.Logic.{⊎_elim}
use mathlib.Core.List.{List, ◌++◌}
use Prim.Native.Nat.{ℕ, ◌<◌}
use native.Mathlib.Nat.{eq-or-lt_of_le}
use native.Mathlib.Omega.{arith}
use lib.ListN.{length, take, length-take, length-drop, drop}
use lib.Ieee.{Float}
use Rattle.tree.specs.Accepted.{times}
use Rattle.tree.specs.Points.{size}
use Rattle.select.proofs.Parting.{in_take, in_drop}
use Rattle.tree.proofs.Entries.{times_append, times-parts, from}
use Rattle.select.specs.Order.{rank, Fit}
use Rattle.tree.specs.Entries.{Same}
use Rattle.select.specs.Parts.{Under}
use Rattle.build.specs.Built.{Lower}
use Rattle.build.specs.Steps.{Ready}

pub ready-same : (points : List Float) (xs ys : List ℕ) → Same xs ys → length xs ≡ length ys → Ready points ys → Ready points xs
ready-same points xs ys p e r = record { all_finite = r.all_finite; limit = r.limit; within = λ v h. r.within v (from p v h); once = λ v. omega (arith, p.as_often v, r.once v); some = omega (arith, r.some) }

pub ready-take : (points : List Float) (m : ℕ) (xs : List ℕ) → Ready points xs → 0 < m → Ready points (take m xs)
ready-take points m xs r h = record { all_finite = r.all_finite; limit = r.limit; within = λ v g. r.within v (in_take v m xs g); once = λ v. omega (arith, times-parts v m xs, r.once v); some = omega (arith, length-take m xs, r.some) }

pub ready-drop : (points : List Float) (m : ℕ) (xs : List ℕ) → Ready points xs → m < length xs → Ready points (drop m xs)
ready-drop points m xs r h = record { all_finite = r.all_finite; limit = r.limit; within = λ v g. r.within v (in_drop v m xs g); once = λ v. omega (arith, times-parts v m xs, r.once v); some = omega (arith, length-drop m xs) }

-- where no entry stands twice, at most is below
pub strict : (points : List Float) (axis : ℕ) (l r : List ℕ) → Ready points (l ++ r) → Under (rank points axis) l r → Lower (rank points axis) l r
strict points axis l r R u v w h k = ⊎_elim (λ (e : rank points axis v ≡ rank points axis w). absurd (clash e)) (λ (g : rank points axis v < rank points axis w). g) (eq-or-lt_of_le (u v w h k))
  where
    a : v < size points
    a = R.within v (omega (arith, times_append v l r, h))

    b : w < size points
    b = R.within w (omega (arith, times_append w l r, k))

    clash : rank points axis v ≡ rank points axis w → ⊥
    clash e =
        let q : v ≡ w = omega (arith, a, b, R.limit) in
        omega (arith, times_append v l r, R.once v, h, k, ap (λ (z : ℕ). times z r) q)
