-- `search::walk` meets its contract: the walk from node 0 over all entries. Assumes nothing.
use Rattle.std.proofs.Common.{sym, ◌∙◌, rules}
use Rattle.tree.specs.Accepted.{count}
use Rattle.tree.proofs.Sound.{unsound}
use Rattle.search.specs.Rules.{searching}
use Rattle.search.proofs.Steps.{at-damaged, from-root}
use Rattle.search.proofs.Turning.{sound-skip}
use Rattle.search.proofs.walk.Goals as goal

pub returns-then-not-root_sound-clause-walks : goal.returns-then-not-root_sound-clause-walks
returns-then-not-root_sound-clause-walks g c =
    let a = c.args in
    let T = a.tree.now in
    let Q = searching (g.Q.Query.rules (g.Q.Query.fixed a.query.now)) T.points a.from in
    let s = g.Q.Query.state a.query.now in
    from-root T Q s _ (search rules)
    (at-damaged T Q 0 0 (count T) s (unsound _ (search rules)))

pub returns-then-is_passed-clause-walks : goal.returns-then-is_passed-clause-walks
returns-then-is_passed-clause-walks g c =
    let a = c.args in
    let T = a.tree.now in
    let R = g.Q.Query.rules (g.Q.Query.fixed a.query.now) in
    let Q = searching R T.points a.from in
    let s = g.Q.Query.state a.query.now in
    from-root T Q s _ (search rules)
    (sound-skip T Q 0 0 (count T) s (rw (c.root-root.ensures, c.len-n.ensures) at (sym c.is_sound-root_sound.ensures ∙ c.if-not-root_sound.false)) c.requires.some
    (rw c.root-root.ensures at (sym c.is_passed.ensures ∙ c.if-is_passed.true)))

pub returns-clause-walks : goal.returns-clause-walks
returns-clause-walks g c =
    let a = c.args in
    let T = a.tree.now in
    let R = g.Q.Query.rules (g.Q.Query.fixed a.query.now) in
    let Q = searching R T.points a.from in
    let s = g.Q.Query.state a.query.now in
    from-root T Q s _ (search rules) (rw (c.root-root.ensures, c.len-n.ensures) at c.visit.ensures.walks)
