-- `dbscan::grow::label_all` meets its contract. The invariant: the cores below i have labels, and nothing waits. Assumes nothing.
use mathlib.Core.Path.{ap, ◌∙◌}
use Prim.Native.Nat.{ℕ}
use native.Mathlib.Omega.{arith}
use lib.ListN.{replicate}
use Rattle.tree.specs.Points.{size}
use Rattle.labels.specs.Labels.{near}
use Rattle.labels.proofs.Neighbours.{near_comm}
use Rattle.dbscan.proofs.Rounds.{between_start, between-end}
use Rattle.dbscan.proofs.grow.label_all.Goals as goal

pub loop-i-init : goal.loop-i-init
loop-i-init c =
    between_start (near c.args.tree.now.points c.args.density.epsilon) (size c.args.tree.now.points) c.args.density.min_samples c.requires.sizes (c.fill.ensures.after (λ y h. h))

pub label-c-requires : goal.label-c-requires
label-c-requires c =
    record { search = c.requires.search; between = c.loop-i.invariant; point = rw c.len-i-end.ensures at c.loop-i-test.true; asked = c.requires.asked }

pub loop-i-preserved : goal.loop-i-preserved
loop-i-preserved c = c.label-c.ensures

pub returns : goal.returns
returns c =
    let l = c.loop-i in
    record {
      labels = between-end (near c.args.tree.now.points c.args.density.epsilon) (size c.args.tree.now.points) c.args.density.min_samples (near_comm c.args.tree.now.points c.args.density.epsilon) l.invariant (omega (arith, l.auto.i-end, c.len-i-end.ensures)) (omega (arith, c.loop-i-test.false, c.len-i-end.ensures));
      cleared = c.fill-2.ensures.after (λ y h. h) ∙ ap (λ (k : ℕ). replicate k 0) l.invariant.sizes.work;
    }
