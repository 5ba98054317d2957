-- `hits::within_radius_hits` meets its contract. The invariant: the first k records are set. Assumes nothing.
use Rattle.std.proofs.Common.{◌≡◌, ◌++◌, take, drop}
use Rattle.hits.specs.Records.{pairs}
use Rattle.hits.proofs.within_radius_hits.Given as goal

abbrev pub invariant-each : goal.invariant-each
invariant-each l = l.hits ≡ pairs (take l.k l.out_indices) (take l.k l.out_distances) ++ drop l.k l.fn.hits
