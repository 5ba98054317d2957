-- The first of the distance slice is the first of the heap. Assumes nothing.
use Rattle.std.proofs.Common.{refl, le-ltb}
use Rattle.k_nearest.proofs.Heaps.{over-is}
use Rattle.k_nearest.proofs.HoldingQuery.passes.Goals as goal

pub returns : goal.returns
returns c =
    let s = c.args.self.now in
    rw (over-is _ s.held s.indices.now s.d2s.now c.args.bound s.some s.few refl s.alike, le-ltb _ _ c.if-self.false)
