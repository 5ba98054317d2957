-- What has been written goes on to what is still to come, and each turn has spent some of it. Assumes nothing.
use Rattle.serve.specs.Serving.{Turns, Within}
use Rattle.serve.proofs.drive.Given as goal

abbrev pub invariant-loop-turn : goal.invariant-loop-turn
invariant-loop-turn g l =
    Turns (g.R.Read.remaining l.fn.reader) (g.R.Read.remaining l.reader) (g.W.Write.contents l.fn.writer) (g.W.Write.contents l.writer) l.fn.map.points l.fn.input l.map.points l.input
    × Within (g.R.Read.remaining l.fn.reader) (g.R.Read.remaining l.reader) l.fn.input l.input l._turn
