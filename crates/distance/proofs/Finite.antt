-- std's test of a finite float is the format's. By cases. Assumes nothing.
use Rattle.std.proofs.Common.{◌≡◌, refl}
use Rattle.std.specs.Float.{nan, inf, fin, float_is_finite, Float}
use Rattle.std.specs.Float.Ieee.Scale.{finite}

pub finite-std : (x : Float) → float_is_finite x ≡ finite x
unfolding float_is_finite
finite-std nan = refl
finite-std (inf s) = refl
finite-std (fin s m e) = refl
