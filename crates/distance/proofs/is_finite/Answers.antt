-- `distance::is_finite` meets its contract: std's word for finite is the same. Assumes nothing.
use Rattle.distance.proofs.Finite.{finite-std}
use mathlib.Core.Path.{◌∙◌}
use Rattle.distance.proofs.is_finite.Goals as goal

pub returns : goal.returns
returns c = c.is_finite.ensures.value ∙ finite-std c.args.x
