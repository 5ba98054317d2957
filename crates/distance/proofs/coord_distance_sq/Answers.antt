-- `distance::coord_distance_sq` meets its contract: by computation. Assumes nothing.
use mathlib.Core.Path.{refl}
use Rattle.distance.specs.Distance.{sq, d2}
use Rattle.distance.proofs.coord_distance_sq.Goals as goal

pub returns : goal.returns
unfolding sq d2
returns c = refl
