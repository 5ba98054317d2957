-- `accept::once::each_once` meets its contract: after k entries the set has each number as often as it stood there. Assumes nothing.
use Rattle.std.proofs.Common.{arith, refl}
use Rattle.accept.proofs.Turns.{passed_none, passed-more, passed_twice, passed-all}
use Rattle.accept.proofs.once.each_once.Goals as goal

pub loop-index-init : goal.loop-index-init
loop-index-init c = passed_none _ 16384 (omega arith)

pub returns-then-is_seen : goal.returns-then-is_seen
returns-then-is_seen c =
    let l = c.loop-index in
    (λ h. absurd cc, λ o. absurd (passed_twice c.args.indices.now l.seen l.index-index l.invariant (omega arith) (omega arith) c.if-is_seen.true o))

pub loop-index-preserved : goal.loop-index-preserved
loop-index-preserved c =
    let l = c.loop-index in
    passed-more c.args.indices.now l.seen l.index-index l.invariant (omega arith) (omega arith) c.if-is_seen.false

pub returns : goal.returns
returns c =
    let l = c.loop-index in
    (λ _. passed-all c.args.indices.now l.seen l.index-index l.invariant (omega arith), λ _. refl)
