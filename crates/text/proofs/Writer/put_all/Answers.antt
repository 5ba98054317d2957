-- `text::Writer::put_all` meets its contract: a copy of a run is its stores one by one. Assumes nothing.
use Rattle.text.proofs.Laws.{copied}
use Rattle.text.proofs.Writer.put_all.Goals as goal

pub returns-clause-put : goal.returns-clause-put
returns-clause-put c =
    let s = c.args.self.now in
    copied s.out.now s.at c.args.bytes.now c.copy_from_slice.new.self c.copy_from_slice.ensures.after c.requires.room
