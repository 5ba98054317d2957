-- `radius::take_whole` meets its contract. The invariant: what is left of the part, from the state so far, comes to what the
-- whole part comes to. Assumes nothing.
use Rattle.std.proofs.Common.{◌≡◌, true, length, drop, ◌+◌, ◌≤◌}
use Rattle.search.specs.Walk.{scan, outcome}
use Rattle.radius.specs.Keeping.{held, keep}
use Rattle.radius.proofs.take_whole.Given as goal

abbrev pub invariant-part : goal.invariant-part
invariant-part l =
    (l.count ≤ l.fn.before + l.index-index) × (length l.out ≡ length l.fn.out)
    × (outcome (scan l.size (keep (length l.fn.out) true) 0 (held l.fn.before l.fn.out) l.part) ≡ outcome (scan l.size (keep (length l.fn.out) true) 0 (held l.count l.out) (drop l.index-index l.part)))
