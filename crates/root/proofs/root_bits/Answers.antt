-- `root::root_bits` meets its contract: `root_bits` of `Halfway.antt`. Assumes nothing.
use Rattle.root.proofs.Halfway.{root_bits}
use Rattle.root.proofs.root_bits.Goals as goal

pub returns : goal.returns
returns c =
    let p = c.scale-s in
    root_bits c.args.b p.result.a p.result.h c.nearest_root.result p.ensures.splits c.nearest_root.ensures
