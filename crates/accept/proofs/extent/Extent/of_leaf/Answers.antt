-- `accept::extent::Extent::of_leaf` meets its contract: the box is that of the entries from start to k. Assumes nothing.
use Rattle.std.proofs.Common.{◌+◌, arith}
use Rattle.accept.proofs.Extents.{tight_one, tight_join}
use Rattle.accept.proofs.extent.Extent.of_leaf.Goals as goal

pub loop-k-init : goal.loop-k-init
loop-k-init c = rw c.of_entry-extent.ensures (tight_one c.args.tree.now c.requires.ready c.args.leaf.start (omega arith))

pub loop-k-preserved : goal.loop-k-preserved
loop-k-preserved c =
    let l = c.loop-k in
    rw (c.joined-extent.ensures, c.of_entry.ensures) (tight_join c.args.tree.now c.requires.ready _ l.k (l.k + 1) _ _ (omega arith) (omega arith) l.invariant (tight_one c.args.tree.now c.requires.ready l.k (omega arith)))
