-- `serve::drive` meets its contract: one turn more, or the last; and the turns that are counted do not run out. Assumes nothing.
use Rattle.std.proofs.Common.{subst, arith}
use Rattle.serve.specs.Serving.{Turned, Spends}
use Rattle.serve.proofs.Serving.{joined, ended}
use Rattle.serve.proofs.Spending as spending
use Rattle.serve.proofs.drive.Goals as goal

pub loop-turn-preserved : goal.loop-turn-preserved
loop-turn-preserved g c =
    let l = c.loop-turn in
    let n = c.turn.new in (
      joined l.invariant.0
          (subst (Turned (g.R.Read.remaining l.reader) (g.R.Read.remaining n.reader) (g.W.Write.contents l.writer) (g.W.Write.contents n.writer) l.map.points l.input n.map.points n.input)
          c.if-not-branch.false c.in_ok-turn.ensures.turned),
      spending.again _ _ _ _ _ _ _ l.invariant.1
          (subst (Spends (g.R.Read.remaining l.reader) (g.R.Read.remaining n.reader) l.input n.input) c.if-not-branch.false c.in_ok-turn.ensures.spends),
    )

pub returns-then-not-branch : goal.returns-then-not-branch
returns-then-not-branch g c =
    let l = c.loop-turn in
    let n = c.turn.new in
    spending.sooner _ _ _ _ _ (ended _ l.invariant.0
    (subst (Turned (g.R.Read.remaining l.reader) (g.R.Read.remaining n.reader) (g.W.Write.contents l.writer) (g.W.Write.contents n.writer) l.map.points l.input n.map.points n.input)
    c.if-not-branch.true c.in_ok-turn.ensures.turned))

pub returns : goal.returns
returns g c = spending.never _ _ _ _ _ _ _ _ c.loop-turn.invariant.1 (omega arith)
