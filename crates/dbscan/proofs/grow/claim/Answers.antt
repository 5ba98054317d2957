-- `dbscan::grow::claim` meets its contract, in each of its three ways. Assumes nothing.
use mathlib.Core.Path.{◌≡◌, sym, ap, ◌∙◌}
use Prim.Native.Nat.{ℕ, ◌<◌}
use native.Mathlib.Numerals.{add-one}
use native.Mathlib.Omega.{arith}
use borrow.Author.Rules.{rules}
use lib.ListN.{length, get_or, set}
use Rattle.labels.specs.Labels.{noise}
use Rattle.dbscan.specs.Growing.{held}
use Rattle.dbscan.proofs.Claims.{get_or_inside, claim-left, claim_marked, claim_queued}
use Rattle.dbscan.proofs.grow.claim.Goals as goal
use Rattle.dbscan.proofs.grow.claim.Goals.{Else-k-cluster, Start}

-- the default of a look-up is no matter
same : (c : Start) → get_or c.args.labels.now c.args.k noise ≡ get_or c.args.labels.now c.args.k 0
same c = get_or_inside c.args.labels.now c.args.k noise 0 c.requires.point

room : (c : Else-k-cluster) → c.args.tail < length c.args.work.now
room c = c.requires.room ((let it : get_or c.args.labels.now c.args.k noise ≡ get_or c.args.labels.now c.args.k 0 = get_or_inside c.args.labels.now c.args.k noise 0 c.requires.point in it) ∙ c.if-labels-k.false)

pub returns-then-labels-k : goal.returns-then-labels-k
returns-then-labels-k c =
    claim-left c.args.k c.args.cluster.seed c.args.cluster.label c.args.tail c.args.work.now c.args.labels.now (λ e. c.if-labels-k.true (sym (same (goal.at.returns-then-labels-k c).Start) ∙ e))

pub returns-then-k-cluster : goal.returns-then-k-cluster
returns-then-k-cluster c =
    claim_marked c.args.k c.args.cluster.seed c.args.cluster.label c.args.tail c.args.work.now c.args.labels.now (same (goal.at.returns-then-k-cluster c).Start ∙ c.if-labels-k.false) c.if-k-cluster.true

pub offset_bounds-work-tail : goal.offset_bounds-work-tail
offset_bounds-work-tail c = let r = room (goal.at.offset_bounds-work-tail c).Else-k-cluster in search rules

pub bounds-work-tail : goal.bounds-work-tail
bounds-work-tail c = room (goal.at.bounds-work-tail c).Else-k-cluster

pub overflow_add-result : goal.overflow_add-result
overflow_add-result c = omega (arith, room (goal.at.overflow_add-result c).Else-k-cluster)

pub returns : goal.returns
returns c =
    ap (λ (t : ℕ). held (set c.args.work.now c.args.tail c.args.k) t (set c.args.labels.now c.args.k c.args.cluster.label)) (add-one c.args.tail)
    ∙ claim_queued c.args.k c.args.cluster.seed c.args.cluster.label c.args.tail c.args.work.now c.args.labels.now (same (goal.at.returns c).Start ∙ c.if-labels-k.false) c.if-k-cluster.false
