-- `build::build_whole` meets its contract: the recursion over the numbered indices leaves the built tree (`Whole.antt`).
-- Assumes nothing.
use mathlib.Core.Path.{◌≡◌, sym, ap, ◌∙◌, subst}
use mathlib.Core.List.{List, ◌++◌}
use Prim.Native.Nat.{ℕ, ◌<◌, ◌/◌}
use native.Mathlib.Nat.{pos_of_ne-zero}
use lib.ListN.{length, take, drop}
use lib.Seq.{take_at, drop_at, length-take-le}
use Rattle.tree.proofs.Counting.{nodes-none}
use Rattle.tree.specs.Count.{leaf_of, nodes}
use Rattle.build.proofs.Whole.{whole_ready, whole_room, whole-done}
use Rattle.build.specs.Built.{Each}
use Rattle.build.specs.Steps.{Raised}
use Rattle.build.proofs.build_whole.Goals as goal
use Rattle.build.proofs.build_whole.Goals.{After-slice_known-4-1}

taken : (c : After-slice_known-4-1) → length (take (length c.args.points.now / 2) (c.args.indices.now)) ≡ (length c.args.points.now / 2)
taken c = length-take-le (length c.args.points.now / 2) (c.args.indices.now) c.requires.room

sized : (c : After-slice_known-4-1) → length (c.number.new.part) ≡ (length c.args.points.now / 2)
sized c = c.number.auto.part ∙ taken c

numbered : (c : After-slice_known-4-1) → Each (length c.args.points.now / 2) (c.number.new.part)
numbered c = subst (λ (n : ℕ). Each n (c.number.new.part)) (taken c) c.number.ensures

front : (c : After-slice_known-4-1) → take (length c.args.points.now / 2) ((c.number.new.part) ++ drop (length c.args.points.now / 2) (c.args.indices.now)) ≡ (c.number.new.part)
front c = take_at (c.number.new.part) (drop (length c.args.points.now / 2) (c.args.indices.now)) (length c.args.points.now / 2) (sized c)

pub returns-then-n-eq0-clause-nodes : goal.returns-then-n-eq0-clause-nodes
returns-then-n-eq0-clause-nodes c =
    let leaf = leaf_of c.args.leaf_size in
    sym (ap (nodes leaf) c.if-n-eq0.true ∙ nodes-none leaf)

pub build_recursive-requires : goal.build_recursive-requires
build_recursive-requires c =
    let h : 0 < length c.args.points.now / 2 = pos_of_ne-zero c.if-n-eq0.false in (record {
      ready = rw (front (goal.at.build_recursive-requires c).After-slice_known-4-1) (whole_ready _ _ _ _ _ c.requires (c.number.new.part) (numbered (goal.at.build_recursive-requires c).After-slice_known-4-1) (sized (goal.at.build_recursive-requires c).After-slice_known-4-1) h);
      room = rw c.leaf_of-leaf.ensures (whole_room _ _ _ _ _ c.requires _ (ap length (front (goal.at.build_recursive-requires c).After-slice_known-4-1) ∙ sized (goal.at.build_recursive-requires c).After-slice_known-4-1) h);
    })

pub returns : goal.returns
returns c =
    let g = c.build_recursive in
    let n = length c.args.points.now / 2 in
    let G : Raised c.args.points.now (leaf_of c.args.leaf_size) 0 0 (c.number.new.part) c.args.boxes.now c.args.links.now g.new.part g.new.boxes g.new.links g.result =
    subst (λ (l : ℕ). Raised c.args.points.now l 0 0 (c.number.new.part) c.args.boxes.now c.args.links.now g.new.part g.new.boxes g.new.links g.result) c.leaf_of-leaf.ensures
    (subst (λ (z : List ℕ). Raised c.args.points.now c.leaf_of-leaf.result 0 0 z c.args.boxes.now c.args.links.now g.new.part g.new.boxes g.new.links g.result) (front (goal.at.returns c).After-slice_known-4-1) g.ensures) in (record {
      nodes = G.number ∙ ap (nodes (leaf_of c.args.leaf_size)) (sized (goal.at.returns c).After-slice_known-4-1);
      built = rw (drop_at (c.number.new.part) (drop n (c.args.indices.now)) n (sized (goal.at.returns c).After-slice_known-4-1))
          (whole-done c.args.points.now c.args.leaf_size (c.args.indices.now) (c.number.new.part) g.new.part c.args.links.now g.new.links c.args.boxes.now g.new.boxes g.result (numbered (goal.at.returns c).After-slice_known-4-1) (sized (goal.at.returns c).After-slice_known-4-1) (g.auto.part ∙ ap length (front (goal.at.returns c).After-slice_known-4-1) ∙ sized (goal.at.returns c).After-slice_known-4-1) G);
    })
