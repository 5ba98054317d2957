-- `records::word` meets its contract: four bytes as a number. Assumes nothing.
use native.Mathlib.Omega.{arith}
use Rattle.records.specs.Record.{word_at}
use Rattle.records.proofs.word.Goals as goal

pub returns : goal.returns
unfolding word_at
returns c = omega (arith, c.from_le_bytes.ensures)
