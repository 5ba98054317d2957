-- `distance::far_corner` meets its contract: by those of its calls. Assumes nothing.
use Rattle.distance.proofs.far_corner.Goals as goal

pub returns : goal.returns
returns c = cc
