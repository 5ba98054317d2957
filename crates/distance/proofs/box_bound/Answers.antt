-- `distance::box_bound` meets its contract: by those of its calls. Assumes nothing.
use Rattle.distance.proofs.box_bound.Goals as goal

pub returns : goal.returns
returns c = cc
