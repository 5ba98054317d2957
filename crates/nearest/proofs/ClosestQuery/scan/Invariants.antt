-- `nearest::Closest::scan` meets its contract. The invariant: what is left of the part, from the best so far, comes to what
-- the whole part came to from the first. Assumes nothing.
use Rattle.std.proofs.Common.{◌≡◌, drop}
use Rattle.tree.specs.Accepted.{count}
use Rattle.search.specs.Walk.{scan, outcome}
use Rattle.nearest.specs.Nearest.{nearest}
use Rattle.nearest.proofs.ClosestQuery.scan.Given as goal

abbrev pub invariant-loop-index : goal.invariant-loop-index
invariant-loop-index l =
    outcome (scan (count l.tree) (nearest l.tree.points l.from).next 1 l.fn.self.best l.fn.part)
    ≡ outcome (scan (count l.tree) (nearest l.tree.points l.from).next 1 l.best (drop l.index-index l.fn.part))
