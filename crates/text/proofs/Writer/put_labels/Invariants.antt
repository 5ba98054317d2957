-- `text::Writer::put_labels` meets its contract: a turn of the loop writes one line more. Assumes nothing.
use Rattle.std.proofs.Common.{◌≡◌}
use Rattle.text.specs.Line.{Put, label_lines}
use Rattle.text.proofs.Writer.put_labels.Given as goal

abbrev pub invariant-loop-label : goal.invariant-loop-label
invariant-loop-label l = (l.self.out.ghost_name ≡ l.fn.self.out.ghost_name) × Put l.fn.self.out.now l.fn.self.at (label_lines l.label-index l.labels) l.self.out.now l.self.at
