-- `dbscan::grow::claim_all` meets its contract. The invariant: what is left to claim from here comes to what was asked, and
-- there is room for it. Assumes nothing.
use mathlib.Core.Path.{◌≡◌}
use Prim.Native.Nat.{◌≤◌}
use lib.ListN.{length, take, drop}
use Rattle.dbscan.specs.Growing.{held, claim_all, Roomy}
use Rattle.dbscan.proofs.grow.claim_all.Given as goal

abbrev pub invariant-loop-x : goal.invariant-loop-x
invariant-loop-x l =
    (l.x ≤ l.count) × (length l.labels ≡ length l.initial.labels) × (length l.work ≡ length l.initial.work)
    × Roomy l.count l.cluster.label l.work l.end l.labels × (take l.count l.work ≡ take l.count l.initial.work)
    × (claim_all l.cluster.seed l.cluster.label (held l.work l.end l.labels) (drop l.x (take l.count l.initial.work)) ≡ claim_all l.cluster.seed l.cluster.label (held l.initial.work l.tail l.initial.labels) (take l.count l.initial.work))
