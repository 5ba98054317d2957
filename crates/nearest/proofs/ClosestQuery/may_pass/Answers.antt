-- `may_pass` meets its law: what is not below infinity is below no bound. Assumes nothing.
use mathlib.Core.Path.{◌≡◌, refl, subst}
use mathlib.Core.Bool.{true, false}
use lib.Dec.{T}
use lib.Ieee.{Float, nan, inf, fin, lt, of_bits}
use Rattle.nearest.proofs.ClosestQuery.may_pass.Goals as goal

below_none : (d b : Float) → lt d (inf false) ≡ false → lt d b ≡ false
unfolding lt
below_none nan b h = refl
below_none (inf true) b h = absurd (subst T h tt)
below_none (inf false) nan h = refl
below_none (inf false) (inf t) h = refl
below_none (inf false) (fin t n e) h = refl
below_none (fin s m e) b h = absurd (subst T h tt)

pub returns : goal.returns
unfolding of_bits
returns c = record { none = λ h b. below_none _ b h }
