-- `radius::take_within` meets its contract. The invariant: what is left of the part, from the state so far, comes to what the
-- whole part comes to. Assumes nothing.
use Rattle.std.proofs.Common.{◌≡◌, length, drop, ◌+◌, ◌≤◌}
use Rattle.tree.specs.Accepted.{count}
use Rattle.search.specs.Walk.{scan, outcome}
use Rattle.radius.specs.Keeping.{held, keeping}
use Rattle.radius.proofs.take_within.Given as goal

abbrev pub invariant-part : goal.invariant-part
invariant-part l =
    (l.count ≤ l.fn.before + l.index-index) × (length l.out ≡ length l.fn.out)
    × (outcome (scan (count l.tree) (keeping (length l.fn.out) l.tree.points l.from l.radius_sq).next 1 (held l.fn.before l.fn.out) l.part)
    ≡ outcome (scan (count l.tree) (keeping (length l.fn.out) l.tree.points l.from l.radius_sq).next 1 (held l.count l.out) (drop l.index-index l.part)))
