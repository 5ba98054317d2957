-- The entries under a node are no more than it covers. Assumes nothing.
use Rattle.std.proofs.Common.{ℕ, Bool, true, false, cond, List, [], ◌-◌, ◌≤◌, ltb, length, take, drop, arith}
use lib.ListN.{length-take}
use Rattle.tree.specs.Node.{part}

pub part-length : (l : List ℕ) (a e : ℕ) → length (part l a e) ≤ e - a
part-length l a e = go (ltb e a) (ltb (length l) e)
  where
    go : (b c : Bool) → length (cond b [] (cond c [] (take (e - a) (drop a l)))) ≤ e - a
    go true c = omega arith
    go false true = omega arith
    go false false = omega (arith, length-take (e - a) (drop a l))
