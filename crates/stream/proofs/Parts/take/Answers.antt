-- `stream::Parts::take` meets its contract: a point that is refused, and an unknown kind. Assumes nothing.
use Rattle.stream.specs.Feeding.{so_far}
use Rattle.stream.proofs.Keeping.{point-refused}
use Rattle.stream.proofs.Steps.{unknown_stepped}
use Rattle.stream.proofs.Parts.take.Goals as goal

pub returns-in-Err-clause-stepped : goal.returns-in-Err-clause-stepped
returns-in-Err-clause-stepped c =
    let a = c.args in
    rw c.in-Point.is (point-refused (so_far a.self.now.points.now a.self.now.count) c.in-Point.x c.in-Point.y (so_far c.keep.new.self.points.now c.keep.new.self.count) a.lines.now.out.now a.lines.now.at c.in-Err.refusal c.in-Err.ensures.kept c.put_error.ensures.put)

pub returns-in-Unknown-clause-stepped : goal.returns-in-Unknown-clause-stepped
returns-in-Unknown-clause-stepped c = rw c.in-Unknown.is (unknown_stepped c.put_error-in-Unknown.ensures.put)
