-- `radius::set_distances` meets its contract. The invariant: the squared distances of the first k hits stand in front.
-- Assumes nothing.
use Rattle.std.proofs.Common.{◌≡◌, take, drop, ◌++◌}
use Rattle.radius.specs.Within.{squares}
use Rattle.radius.proofs.set_distances.Given as goal

abbrev pub invariant-each : goal.invariant-each
invariant-each l = l.out ≡ squares l.points l.from (take l.k l.hits) ++ drop l.k l.fn.out
