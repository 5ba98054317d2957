-- `accept::is_grown` meets its contract: indices once each and a sound root make the tree. Assumes nothing.
use Rattle.accept.proofs.Entry.{once-grown}
use Rattle.accept.proofs.is_grown.Goals as goal

pub returns-then-each_once : goal.returns-then-each_once
returns-then-each_once c =
    let s = rw (c.root.ensures, c.len-n.ensures) at c.check_part.ensures.sound in
    let o = rw (c.len-n.ensures, c.indices-2.ensures) at (c.each_once.ensures.0 c.if-each_once.true) in
    let room = rw (c.len-n.ensures, c.indices.ensures) at c.if-indices-n.false in
    rw c.is_some.ensures (λ h. once-grown c.args.tree.now room o (s.0 h), λ g. s.1 g.root)
