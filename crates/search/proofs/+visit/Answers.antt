-- `search::visit` meets its contract: each way through it is the walk's at a sound node of that kind, a branch with its
-- children in turn. Assumes nothing.
use Rattle.std.proofs.Common.{◌≡◌, length, ℕ, List, refl, sym, ap, ◌∙◌, arith}
use Rattle.std.proofs.lemmas.Result.{err_from_is_err_and, on_ok_weaker}
use Rattle.distance.specs.declared.Bounds.{Bounds}
use Rattle.tree.specs.Node.{bounds}
use Rattle.tree.specs.Accepted.{count}
use Rattle.tree.specs.Lent.{node}
use Rattle.tree.proofs.Sound.{unbranched, sound-known}
use Rattle.search.specs.Walk.{leaf_scan, outcome, Walks, got}
use Rattle.search.specs.Order.{at}
use Rattle.search.specs.Rules.{searching}
use Rattle.search.proofs.Parts.{part-length}
use Rattle.search.proofs.Turning.{sound-skip, sound-leaf, child-broken, near-broken, near-then}
use Rattle.search.proofs.+visit.Goals as goal
use Rattle.search.proofs.+visit.Goals.{then-may_pass+else-passes, then-not-passes+in_ok-visit, else-not-passes, else-may_pass+in_ok-visit-2+else-is_passed}

pub returns-in_default : goal.returns-in_default
returns-in_default g t c =
    let a = c.args in
    let T = a.tree.now in
    let Q = searching (g.Q.Query.rules (g.Q.Query.fixed a.query.now)) T.points (at a.x a.y) in
    let s = g.Q.Query.state a.query.now in
    record {
      walks =
          sound-leaf T Q a.number a.start a.end s c.requires.sound c.requires.some c.known_kind.result c.known_kind.ensures
          (unbranched c.known_kind.result c.in_default.not-Branch) c.requires.entered _
          (c.scan.ensures.state ∙ ap (λ (b : Bounds). outcome (leaf_scan (count T) Q b s c.part.result.now)) c.known_bounds.ensures
          ∙ ap (λ (l : List ℕ). outcome (leaf_scan (count T) Q (bounds T.boxes a.number) s l)) c.part.ensures);
      fixed = c.scan.ensures.fixed;
      room = on_ok_weaker c.scan.result (λ h. omega (arith, h, part-length T.indices a.start a.end, ap length c.part.ensures)) c.scan.ensures.room;
    }

pub returns-in_err-near-clause-walks : goal.returns-in_err-near-clause-walks
returns-in_err-near-clause-walks g t c =
    let a = c.args in
    let s = g.Q.Query.state a.query.now in
    let R = g.Q.Query.rules (g.Q.Query.fixed a.query.now) in
    let is = sound-known a.tree.now.boxes a.tree.now.links a.number a.start a.end c.requires.sound ∙ sym c.known_kind.ensures ∙ c.in-Branch.is in
    let p = err_from_is_err_and c.from_residual.result c.from_residual.ensures.1 in
    rw p.1 (child-broken a.tree.now (at a.x a.y) R (node a.number a.start a.end) s _ _ is c.requires.entered c.in_err-near.ensures.damaged)

pub returns-in_err-visit-clause-walks : goal.returns-in_err-visit-clause-walks
returns-in_err-visit-clause-walks g t c =
    let a = c.args in
    let s = g.Q.Query.state a.query.now in
    let R = g.Q.Query.rules (g.Q.Query.fixed a.query.now) in
    let is = sound-known a.tree.now.boxes a.tree.now.links a.number a.start a.end c.requires.sound ∙ sym c.known_kind.ensures ∙ c.in-Branch.is in
    let p = err_from_is_err_and c.from_residual-in_err-visit.result c.from_residual-in_err-visit.ensures.1 in
    rw p.1 (near-broken a.tree.now (at a.x a.y) R (node a.number a.start a.end) s _ _ is c.requires.entered _ c.in_ok-near.ensures.turned
    (rw c.in_err-visit.was at c.visit.ensures.walks))

pub returns-in_err-visit-2-clause-walks : goal.returns-in_err-visit-2-clause-walks
returns-in_err-visit-2-clause-walks g t c =
    let a = c.args in
    let s = g.Q.Query.state a.query.now in
    let R = g.Q.Query.rules (g.Q.Query.fixed a.query.now) in
    let is = sound-known a.tree.now.boxes a.tree.now.links a.number a.start a.end c.requires.sound ∙ sym c.known_kind.ensures ∙ c.in-Branch.is in
    let p = err_from_is_err_and c.from_residual-in_err-visit-2.result c.from_residual-in_err-visit-2.ensures.1 in
    rw p.1 (near-broken a.tree.now (at a.x a.y) R (node a.number a.start a.end) s _ _ is c.requires.entered _ c.in_ok-near.ensures.turned
    (rw c.in_err-visit-2.was at c.visit-else-may_pass.ensures.walks))

pub returns-then-passes-clause-walks : goal.returns-then-passes-clause-walks
returns-then-passes-clause-walks g t c =
    let a = c.args in
    let t = a.tree.now in
    let q = at a.x a.y in
    let F = g.Q.Query.fixed a.query.now in
    let R = g.Q.Query.rules F in
    let Q = searching R t.points q in
    let s = g.Q.Query.state a.query.now in
    let u = g.Q.Query.state c.if-not-passes.query in
    let T = c.in_ok-near.field-0 in
    let b = c.in_ok-near.ensures.shares in
    let is = sound-known t.boxes t.links a.number a.start a.end c.requires.sound ∙ sym c.known_kind.ensures ∙ c.in-Branch.is in
    let near : Walks t Q T.near.number T.near.start T.near.end s (got u) × (g.Q.Query.fixed c.if-not-passes.query ≡ F) =
    elim c.if-not-passes.branch [
      | then-not-passes+in_ok-visit w ↦ rw w.query-is (rw w.in_ok-visit.was at w.visit.ensures.walks, w.visit.ensures.fixed)
      | else-not-passes w ↦ rw w.query-is (
        sound-skip t Q T.near.number T.near.start T.near.end s b.near_sound b.near_some
            (ap (R.skip s) (sym c.node_bound-near_bound.ensures) ∙ sym c.passes.ensures ∙ w.if-not-passes.false),
        refl,
      )
    ] in
    near-then t q R (node a.number a.start a.end) s _ _ is c.requires.entered T c.in_ok-near.ensures.turned u near.0 _
    (sound-skip t Q T.far.number T.far.start T.far.end u b.far_sound b.far_some
    (rw (near.1, c.node_bound-far_bound.ensures) at (sym c.passes-then-may_pass.ensures ∙ c.if-passes.true)))

pub returns-then-is_passed-clause-walks : goal.returns-then-is_passed-clause-walks
returns-then-is_passed-clause-walks g t c =
    let a = c.args in
    let t = a.tree.now in
    let q = at a.x a.y in
    let F = g.Q.Query.fixed a.query.now in
    let R = g.Q.Query.rules F in
    let Q = searching R t.points q in
    let s = g.Q.Query.state a.query.now in
    let u = g.Q.Query.state c.visit-else-may_pass.new.query in
    let T = c.in_ok-near.field-0 in
    let b = c.in_ok-near.ensures.shares in
    let is = sound-known t.boxes t.links a.number a.start a.end c.requires.sound ∙ sym c.known_kind.ensures ∙ c.in-Branch.is in
    near-then t q R (node a.number a.start a.end) s _ _ is c.requires.entered T c.in_ok-near.ensures.turned u
    (rw c.in_ok-visit-2.was at c.visit-else-may_pass.ensures.walks) _
    (sound-skip t Q T.far.number T.far.start T.far.end u b.far_sound b.far_some
    (rw c.visit-else-may_pass.ensures.fixed at (sym c.is_passed.ensures ∙ c.if-is_passed.true)))

pub returns-clause-walks : goal.returns-clause-walks
returns-clause-walks g t c =
    let a = c.args in
    let t = a.tree.now in
    let q = at a.x a.y in
    let F = g.Q.Query.fixed a.query.now in
    let R = g.Q.Query.rules F in
    let Q = searching R t.points q in
    let s = g.Q.Query.state a.query.now in
    let u = g.Q.Query.state c.if-may_pass.query in
    let T = c.in_ok-near.field-0 in
    let b = c.in_ok-near.ensures.shares in
    let is = sound-known t.boxes t.links a.number a.start a.end c.requires.sound ∙ sym c.known_kind.ensures ∙ c.in-Branch.is in
    let near : Walks t Q T.near.number T.near.start T.near.end s (got u) × (g.Q.Query.fixed c.if-may_pass.query ≡ F) =
    elim c.if-may_pass.branch [
      | then-may_pass+else-passes v ↦
          rw v.query-is (elim v.if-not-passes.branch [
            | then-not-passes+in_ok-visit w ↦ rw w.query-is (rw w.in_ok-visit.was at w.visit.ensures.walks, w.visit.ensures.fixed)
            | else-not-passes w ↦ rw w.query-is (
              sound-skip t Q T.near.number T.near.start T.near.end s b.near_sound b.near_some
                  (ap (R.skip s) (sym v.node_bound-near_bound.ensures) ∙ sym v.passes.ensures ∙ w.if-not-passes.false),
              refl,
            )
          ])
      | else-may_pass+in_ok-visit-2+else-is_passed w ↦ rw w.query-is (rw w.in_ok-visit-2.was at w.visit-else-may_pass.ensures.walks, w.visit-else-may_pass.ensures.fixed)
    ] in
    near-then t q R (node a.number a.start a.end) s _ _ is c.requires.entered T c.in_ok-near.ensures.turned u near.0 _
    (rw near.1 at c.visit-2.ensures.walks)
