-- `text::Writer::put_hits` meets its contract: a turn of the loop writes one line more. Assumes nothing.
use Rattle.std.proofs.Common.{◌≡◌, length}
use Rattle.text.specs.Line.{Put, hit_lines}
use Rattle.text.proofs.Writer.put_hits.Given as goal

abbrev pub invariant-loop-index : goal.invariant-loop-index
invariant-loop-index l = (l.self.out.ghost_name ≡ l.fn.self.out.ghost_name) × Put l.fn.self.out.now l.fn.self.at (hit_lines (length l.yielded) l.indices l.distances) l.self.out.now l.self.at
