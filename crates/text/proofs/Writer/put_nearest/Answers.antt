-- `text::Writer::put_nearest` meets its contract: two bytes and a hit. Assumes nothing.
use Rattle.text.proofs.Laws.{then}
use Rattle.text.proofs.Writer.put_nearest.Goals as goal

pub returns-clause-put : goal.returns-clause-put
returns-clause-put c = then c.put_all.ensures.put c.put_hit.ensures.put
