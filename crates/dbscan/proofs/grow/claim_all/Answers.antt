-- `dbscan::grow::claim_all` meets its contract. The invariant: what is left to claim from here comes to what was asked, and
-- there is room for it. Assumes nothing.
use mathlib.Core.Path.{refl, ◌∙◌}
use native.Mathlib.Omega.{arith}
use lib.ListN.{take}
use Rattle.dbscan.proofs.Claims.{roomy_claimable, roomy_turn, claimed-out}
use Rattle.dbscan.proofs.grow.claim_all.Goals as goal

pub loop-x-init : goal.loop-x-init
loop-x-init c = (omega arith, refl, refl, c.requires, refl, refl)

pub bounds-work-x : goal.bounds-work-x
bounds-work-x c = let i = c.loop-x.invariant in omega (arith, c.loop-x-test.true, i.3.front, i.3.room)

pub claim-end-requires : goal.claim-end-requires
claim-end-requires c = roomy_claimable c.loop-x.invariant.3 c.loop-x.x c.loop-x-test.true

pub loop-x-preserved : goal.loop-x-preserved
loop-x-preserved c =
    let a = c.args in
    let l = c.loop-x in
    let t = c.loop-x-test.true in
    let k = c.claim-end in
    let r = roomy_turn a.count a.cluster.seed a.cluster.label l.x (take a.count a.work.now) l.work l.end l.labels _ _ _ _ l.invariant.3 l.invariant.4 t l.invariant.5 k.ensures in
    (omega (arith, t), k.auto.labels ∙ l.invariant.1, k.auto.work ∙ l.invariant.2, r.0, r.1, r.2)

pub returns : goal.returns
returns c =
    let a = c.args in
    let l = c.loop-x in
    claimed-out a.count a.cluster.seed a.cluster.label l.x a.work.now _ _ c.loop-x-test.false l.invariant.5
