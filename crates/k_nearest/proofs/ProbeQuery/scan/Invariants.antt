-- What is left to scan from here comes to what was asked at the start.
use Rattle.std.proofs.Common.{◌≡◌, drop}
use Rattle.search.specs.Walk.{scan, outcome}
use Rattle.tree.specs.Accepted.{count}
use Rattle.k_nearest.specs.Query.{probing}
use Rattle.k_nearest.proofs.ProbeQuery.scan.Given as goal

abbrev pub invariant-loop-index : goal.invariant-loop-index
invariant-loop-index l = outcome (scan (count l.tree) probing.next 1 tt l.part) ≡ outcome (scan (count l.tree) probing.next 1 tt (drop l.index-index l.part))
