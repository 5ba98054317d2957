-- `build::build_recursive` meets its contract: a leaf by `leaf-done`, a branch from its two subtrees by `branch-done`
-- (`Step.antt`). The measure is the part's count. Assumes nothing.
use mathlib.Core.Path.{◌≡◌, refl, sym, ap, ◌∙◌, subst}
use mathlib.Core.List.{◌++◌}
use Prim.Native.Nat.{ℕ, ◌*◌, ◌+◌, ◌≤◌, ◌-◌, ◌/◌}
use native.Mathlib.Omega.{arith}
use lib.ListN.{length, take, drop}
use lib.Seq.{length_front, length-take-le}
use borrow.Rule.Slice.PartMut.{put_mid}
use Rattle.tree.specs.Count.{nodes}
use Rattle.select.proofs.Parting.{same_front, mid-all, put_back}
use Rattle.tree.proofs.Entries.{same_trans}
use Rattle.select.specs.Order.{rank}
use Rattle.select.specs.Parts.{Split}
use Rattle.build.proofs.Parts.{ready-same, ready-take, ready-drop}
use Rattle.build.proofs.Step.{leaf-done, branch-done, room-own, Big, big, room-left, room-right, mid-length, put-length, raised_left, raised_right}
use Rattle.build.specs.Steps.{own_of, Ready}
use Rattle.build.proofs.+build_recursive.Goals as goal
use Rattle.build.proofs.+build_recursive.Goals.{After-build_recursive-arg-1, After-slice_known-12-1, After-slice_known-8-1, After-slice_known-9-1, Else-count-leaf}

-- ---- what is known where the part is to be halved, where the left subtree is done, and where the branch's numbers are written
start_of : (t : ℕ) (c : Else-count-leaf t) → Big c.args.leaf c.args.node c.args.start (length c.args.part.now) (length c.args.boxes.now) (length c.args.links.now)
start_of t c = big _ _ _ _ _ _ c.requires.room c.if-count-leaf.false

left_is : (t : ℕ) (c : After-slice_known-8-1 t) → (c.build_recursive-left.result) ≡ nodes c.args.leaf (length (c.args.part.now) / 2)
left_is t c =
    let h = c.halve in
    let g = c.build_recursive-left in
    g.ensures.number ∙ ap (nodes c.args.leaf) (length-take-le (length c.args.part.now / 2) h.new.part (omega (arith, h.auto.part)))

len_p2 : (t : ℕ) (c : After-slice_known-8-1 t) → length ((c.build_recursive-left.new.part) ++ drop (length (c.args.part.now) / 2) (c.halve.new.part)) ≡ length (c.args.part.now)
len_p2 t c =
    let h = c.halve in
    let g = c.build_recursive-left in
    length_front h.new.part g.new.part (length c.args.part.now / 2) g.auto.part ∙ h.auto.part

own_b1 : (t : ℕ) (c : After-build_recursive-arg-1 t) → 6 ≤ length c.put_box.new.boxes
own_b1 t c =
    let b = c.put_box in
    omega (arith, b.auto.boxes, ((let it : Big c.args.leaf c.args.node c.args.start (length c.args.part.now) (length c.args.boxes.now) (length c.args.links.now) = big _ _ _ _ _ _ c.requires.room c.if-count-leaf.false in it)).floats)

own_k1 : (t : ℕ) (c : After-build_recursive-arg-1 t) → 4 ≤ length c.args.links.now
own_k1 t c = omega (arith, ((let it : Big c.args.leaf c.args.node c.args.start (length c.args.part.now) (length c.args.boxes.now) (length c.args.links.now) = big _ _ _ _ _ _ c.requires.room c.if-count-leaf.false in it)).numbers)

len_b2 : (t : ℕ) (c : After-slice_known-8-1 t) → length (put_mid 6 (length (c.put_box.new.boxes) - 6) (c.put_box.new.boxes) c.build_recursive-left.new.boxes) ≡ length (c.args.boxes.now)
len_b2 t c =
    let b = c.put_box in
    let g = c.build_recursive-left in
    put-length 6 b.new.boxes g.new.boxes ((let it : 6 ≤ length c.put_box.new.boxes = let b = c.put_box in omega (arith, b.auto.boxes, ((let it : Big c.args.leaf c.args.node c.args.start (length c.args.part.now) (length c.args.boxes.now) (length c.args.links.now) = big _ _ _ _ _ _ c.requires.room c.if-count-leaf.false in it)).floats) in it)) g.auto.boxes ∙ b.auto.boxes

len_k2 : (t : ℕ) (c : After-slice_known-8-1 t) → length (put_mid 4 (length (c.args.links.now) - 4) (c.args.links.now) c.build_recursive-left.new.links) ≡ length (c.args.links.now)
len_k2 t c =
    let g = c.build_recursive-left in
    put-length 4 c.args.links.now g.new.links ((let it : 4 ≤ length c.args.links.now = omega (arith, ((let it : Big c.args.leaf c.args.node c.args.start (length c.args.part.now) (length c.args.boxes.now) (length c.args.links.now) = big _ _ _ _ _ _ c.requires.room c.if-count-leaf.false in it)).numbers) in it)) g.auto.links

len_k3 : (t : ℕ) (c : After-slice_known-9-1 t) → length c.put_link-2.new.links ≡ length (c.args.links.now)
len_k3 t c = c.put_link-2.auto.links ∙ (let it : length (put_mid 4 (length (c.args.links.now) - 4) (c.args.links.now) c.build_recursive-left.new.links) ≡ length (c.args.links.now) = let g = c.build_recursive-left in put-length 4 c.args.links.now g.new.links ((let it : 4 ≤ length c.args.links.now = omega (arith, ((let it : Big c.args.leaf c.args.node c.args.start (length c.args.part.now) (length c.args.boxes.now) (length c.args.links.now) = big _ _ _ _ _ _ c.requires.room c.if-count-leaf.false in it)).numbers) in it)) g.auto.links in it)

room_b2 : (t : ℕ) (c : After-slice_known-8-1 t) → 6 + 6 * (c.build_recursive-left.result) ≤ length (put_mid 6 (length (c.put_box.new.boxes) - 6) (c.put_box.new.boxes) c.build_recursive-left.new.boxes)
room_b2 t c =
    let g = c.build_recursive-left in
    subst (λ (n : ℕ). 6 + 6 * g.result ≤ n) (sym (len_b2 t c)) (omega (arith, left_is t c, ((let it : Big c.args.leaf c.args.node c.args.start (length c.args.part.now) (length c.args.boxes.now) (length c.args.links.now) = big _ _ _ _ _ _ c.requires.room c.if-count-leaf.false in it)).floats))

room_k3 : (t : ℕ) (c : After-slice_known-9-1 t) → 4 + 4 * (c.build_recursive-left.result) ≤ length c.put_link-2.new.links
room_k3 t c =
    let g = c.build_recursive-left in
    subst (λ (n : ℕ). 4 + 4 * g.result ≤ n) (sym (len_k3 t c)) (omega (arith, (let it : (c.build_recursive-left.result) ≡ nodes c.args.leaf (length (c.args.part.now) / 2) = let h = c.halve in let g = c.build_recursive-left in g.ensures.number ∙ ap (nodes c.args.leaf) (length-take-le (length c.args.part.now / 2) h.new.part (omega (arith, h.auto.part))) in it), ((let it : Big c.args.leaf c.args.node c.args.start (length c.args.part.now) (length c.args.boxes.now) (length c.args.links.now) = big _ _ _ _ _ _ c.requires.room c.if-count-leaf.false in it)).numbers))

ready_p2 : (t : ℕ) (c : After-slice_known-8-1 t) → Ready c.args.points.now (c.build_recursive-left.new.part ++ drop (length c.args.part.now / 2) c.halve.new.part)
ready_p2 t c =
    let h = c.halve in
    let g = c.build_recursive-left in
    ready-same _ (c.build_recursive-left.new.part ++ drop (length c.args.part.now / 2) c.halve.new.part) c.args.part.now (same_trans (same_front (length c.args.part.now / 2) h.new.part g.new.part g.ensures.same) h.ensures.same) (len_p2 t c) c.requires.ready

mid_p2 : (t : ℕ) (c : After-slice_known-8-1 t) → (length (c.args.part.now) / 2) ≤ length (c.build_recursive-left.new.part ++ drop (length c.args.part.now / 2) c.halve.new.part)
mid_p2 t c =
    subst (λ (n : ℕ). (length c.args.part.now / 2) ≤ n) (sym (len_p2 t c)) (omega arith)

len_r : (t : ℕ) (c : After-slice_known-8-1 t) → length (take (length (c.build_recursive-left.new.part ++ drop (length c.args.part.now / 2) c.halve.new.part) - (length (c.args.part.now) / 2)) (drop (length (c.args.part.now) / 2) (c.build_recursive-left.new.part ++ drop (length c.args.part.now / 2) c.halve.new.part))) ≡ length (c.args.part.now) - (length (c.args.part.now) / 2)
len_r t c =
    omega (arith, mid-length (length c.args.part.now / 2) (c.build_recursive-left.new.part ++ drop (length c.args.part.now / 2) c.halve.new.part) (mid_p2 t c), len_p2 t c)

right_is : (t : ℕ) (c : After-slice_known-12-1 t) → c.build_recursive-more.result ≡ nodes c.args.leaf (length c.args.part.now - length c.args.part.now / 2)
right_is t c =
    let g2 = c.build_recursive-more in
    g2.ensures.number ∙ ap (nodes c.args.leaf) ((let it : length (take (length (c.build_recursive-left.new.part ++ drop (length c.args.part.now / 2) c.halve.new.part) - (length (c.args.part.now) / 2)) (drop (length (c.args.part.now) / 2) (c.build_recursive-left.new.part ++ drop (length c.args.part.now / 2) c.halve.new.part))) ≡ length (c.args.part.now) - (length (c.args.part.now) / 2) = omega (arith, mid-length (length c.args.part.now / 2) (c.build_recursive-left.new.part ++ drop (length c.args.part.now / 2) c.halve.new.part) ((let it : (length (c.args.part.now) / 2) ≤ length (c.build_recursive-left.new.part ++ drop (length c.args.part.now / 2) c.halve.new.part) = subst (λ (n : ℕ). (length c.args.part.now / 2) ≤ n) (sym ((let it : length ((c.build_recursive-left.new.part) ++ drop (length (c.args.part.now) / 2) (c.halve.new.part)) ≡ length (c.args.part.now) = let h = c.halve in let g = c.build_recursive-left in length_front h.new.part g.new.part (length c.args.part.now / 2) g.auto.part ∙ h.auto.part in it))) (omega arith) in it)), (let it : length ((c.build_recursive-left.new.part) ++ drop (length (c.args.part.now) / 2) (c.halve.new.part)) ≡ length (c.args.part.now) = let h = c.halve in let g = c.build_recursive-left in length_front h.new.part g.new.part (length c.args.part.now / 2) g.auto.part ∙ h.auto.part in it)) in it))

pub put_box-requires : goal.put_box-requires
put_box-requires t c =
    (room-own _ _ _ _ _ _ c.requires.room c.requires.ready.some).0

pub put_link-requires : goal.put_link-requires
put_link-requires t c =
    (room-own _ _ _ _ _ _ c.requires.room c.requires.ready.some).1

pub returns-then-count-leaf : goal.returns-then-count-leaf
returns-then-count-leaf t c =
    let o = c.box_of-b in
    let b = c.put_box in
    leaf-done _ _ _ _ _ _ _ (own_of o.result) _ _ c.requires.ready c.if-count-leaf.true o.ensures b.ensures c.put_link.ensures

pub slice_bounds-build_recursive-count-2 : goal.slice_bounds-build_recursive-count-2
slice_bounds-build_recursive-count-2 t c = own_k1 t (goal.at.slice_bounds-build_recursive-count-2 t c).After-build_recursive-arg-1

pub slice_bounds-build_recursive-start-2 : goal.slice_bounds-build_recursive-start-2
slice_bounds-build_recursive-start-2 t c = own_k1 t (goal.at.slice_bounds-build_recursive-start-2 t c).After-build_recursive-arg-1

pub build_recursive-left-requires : goal.build_recursive-left-requires
build_recursive-left-requires t c =
    let b = c.put_box in
    let h = c.halve in
    let l = length-take-le (length c.args.part.now / 2) h.new.part (omega (arith, h.auto.part)) in (
      omega (arith, c.decreases, (start_of t (goal.at.build_recursive-left-requires t c).Else-count-leaf).right),
      (
        ready-take _ (length c.args.part.now / 2) h.new.part (ready-same _ h.new.part c.args.part.now h.ensures.same h.auto.part c.requires.ready) (start_of t (goal.at.build_recursive-left-requires t c).Else-count-leaf).left,
        room-left _ _ _ _ _ _ c.requires.room c.if-count-leaf.false _ _ _ l (mid-length 6 b.new.boxes (own_b1 t (goal.at.build_recursive-left-requires t c).After-build_recursive-arg-1) ∙ b.auto.boxes) (mid-length 4 c.args.links.now (own_k1 t (goal.at.build_recursive-left-requires t c).After-build_recursive-arg-1)),
      ),
    )

pub overflow_add-right-2 : goal.overflow_add-right-2
overflow_add-right-2 t c = omega (arith, (start_of t (goal.at.overflow_add-right-2 t c).Else-count-leaf).node_fits, left_is t (goal.at.overflow_add-right-2 t c).After-slice_known-8-1)

pub overflow_cast-node : goal.overflow_cast-node
overflow_cast-node t c = omega (arith, (start_of t (goal.at.overflow_cast-node t c).Else-count-leaf).node_fits, left_is t (goal.at.overflow_cast-node t c).After-slice_known-8-1)

pub overflow_cast-right : goal.overflow_cast-right
overflow_cast-right t c = omega (arith, (start_of t (goal.at.overflow_cast-right t c).Else-count-leaf).node_fits, left_is t (goal.at.overflow_cast-right t c).After-slice_known-8-1)

pub put_link-requires-2 : goal.put_link-requires-2
put_link-requires-2 t c = subst (λ (n : ℕ). 4 ≤ n) (sym (len_k2 t (goal.at.put_link-requires-2 t c).After-slice_known-8-1)) (own_k1 t (goal.at.put_link-requires-2 t c).After-build_recursive-arg-1)

pub overflow_mul-b2 : goal.overflow_mul-b2
overflow_mul-b2 t c = omega (arith, (start_of t (goal.at.overflow_mul-b2 t c).Else-count-leaf).node_fits, left_is t (goal.at.overflow_mul-b2 t c).After-slice_known-8-1)

pub overflow_add-b2 : goal.overflow_add-b2
overflow_add-b2 t c = omega (arith, (start_of t (goal.at.overflow_add-b2 t c).Else-count-leaf).node_fits, left_is t (goal.at.overflow_add-b2 t c).After-slice_known-8-1)

pub overflow_mul-l2 : goal.overflow_mul-l2
overflow_mul-l2 t c = omega (arith, (start_of t (goal.at.overflow_mul-l2 t c).Else-count-leaf).node_fits, left_is t (goal.at.overflow_mul-l2 t c).After-slice_known-8-1)

pub overflow_add-l2 : goal.overflow_add-l2
overflow_add-l2 t c = omega (arith, (start_of t (goal.at.overflow_add-l2 t c).Else-count-leaf).node_fits, left_is t (goal.at.overflow_add-l2 t c).After-slice_known-8-1)

pub offset_bounds-boxes-b2 : goal.offset_bounds-boxes-b2
offset_bounds-boxes-b2 t c = omega (arith, (start_of t (goal.at.offset_bounds-boxes-b2 t c).Else-count-leaf).node_fits, left_is t (goal.at.offset_bounds-boxes-b2 t c).After-slice_known-8-1)

pub slice_bounds-build_recursive-count-4 : goal.slice_bounds-build_recursive-count-4
slice_bounds-build_recursive-count-4 t c = room_b2 t (goal.at.slice_bounds-build_recursive-count-4 t c).After-slice_known-8-1

pub slice_bounds-build_recursive-start-4 : goal.slice_bounds-build_recursive-start-4
slice_bounds-build_recursive-start-4 t c = room_b2 t (goal.at.slice_bounds-build_recursive-start-4 t c).After-slice_known-8-1

pub offset_bounds-links-l2 : goal.offset_bounds-links-l2
offset_bounds-links-l2 t c = omega (arith, (start_of t (goal.at.offset_bounds-links-l2 t c).Else-count-leaf).node_fits, left_is t (goal.at.offset_bounds-links-l2 t c).After-slice_known-8-1)

pub slice_bounds-build_recursive-count-5 : goal.slice_bounds-build_recursive-count-5
slice_bounds-build_recursive-count-5 t c = room_k3 t (goal.at.slice_bounds-build_recursive-count-5 t c).After-slice_known-9-1

pub slice_bounds-build_recursive-start-5 : goal.slice_bounds-build_recursive-start-5
slice_bounds-build_recursive-start-5 t c = room_k3 t (goal.at.slice_bounds-build_recursive-start-5 t c).After-slice_known-9-1

pub build_recursive-more-requires : goal.build_recursive-more-requires
build_recursive-more-requires t c =
    let g = c.build_recursive-left in
    let k = c.put_link-2 in
    let m = length c.args.part.now / 2 in (
      omega (arith, c.decreases, len_r t (goal.at.build_recursive-more-requires t c).After-slice_known-8-1, (start_of t (goal.at.build_recursive-more-requires t c).Else-count-leaf).left, (start_of t (goal.at.build_recursive-more-requires t c).Else-count-leaf).right),
      (
        rw (mid-all m (c.build_recursive-left.new.part ++ drop (length c.args.part.now / 2) c.halve.new.part)) (ready-drop _ m (c.build_recursive-left.new.part ++ drop (length c.args.part.now / 2) c.halve.new.part) (ready_p2 t (goal.at.build_recursive-more-requires t c).After-slice_known-8-1) (omega (arith, len_p2 t (goal.at.build_recursive-more-requires t c).After-slice_known-8-1, (start_of t (goal.at.build_recursive-more-requires t c).Else-count-leaf).right))),
        room-right _ _ _ _ _ _ _ c.requires.room c.if-count-leaf.false (left_is t (goal.at.build_recursive-more-requires t c).After-slice_known-8-1) _ _ _ (len_r t (goal.at.build_recursive-more-requires t c).After-slice_known-8-1)
            (mid-length (6 + 6 * g.result) (put_mid 6 (length c.put_box.new.boxes - 6) c.put_box.new.boxes c.build_recursive-left.new.boxes) (room_b2 t (goal.at.build_recursive-more-requires t c).After-slice_known-8-1) ∙ len_b2 t (goal.at.build_recursive-more-requires t c).After-slice_known-8-1)
            (mid-length (4 + 4 * g.result) k.new.links (room_k3 t (goal.at.build_recursive-more-requires t c).After-slice_known-9-1) ∙ len_k3 t (goal.at.build_recursive-more-requires t c).After-slice_known-9-1),
      ),
    )

pub overflow_add-result : goal.overflow_add-result
overflow_add-result t c = omega (arith, (start_of t (goal.at.overflow_add-result t c).Else-count-leaf).node_fits, left_is t (goal.at.overflow_add-result t c).After-slice_known-8-1, right_is t (goal.at.overflow_add-result t c).After-slice_known-12-1)

pub overflow_add-result-2 : goal.overflow_add-result-2
overflow_add-result-2 t c = omega (arith, (start_of t (goal.at.overflow_add-result-2 t c).Else-count-leaf).node_fits, left_is t (goal.at.overflow_add-result-2 t c).After-slice_known-8-1, right_is t (goal.at.overflow_add-result-2 t c).After-slice_known-12-1)

pub returns : goal.returns
returns t c =
    let o = c.box_of-b in
    let b = c.put_box in
    let a = c.axis_of-axis in
    let k = c.put_link-2 in
    let g2 = c.build_recursive-more in
    let g = c.build_recursive-left in
    let h = g2 in
    let m = length c.args.part.now / 2 in
    let p1 = c.halve.new.part in
    let b1 = b.new.boxes in
    let k3 = k.new.links in
    let own = own_of o.result in
    branch-done c.args.points.now c.args.leaf c.args.node c.args.start g.result h.result
    c.args.part.now p1 (c.build_recursive-left.new.part ++ drop (length c.args.part.now / 2) c.halve.new.part) _ g.new.part h.new.part
    c.args.boxes.now own b1 (put_mid 6 (length c.put_box.new.boxes - 6) c.put_box.new.boxes c.build_recursive-left.new.boxes) _ g.new.boxes h.new.boxes
    c.args.links.now (put_mid 4 (length c.args.links.now - 4) c.args.links.now c.build_recursive-left.new.links) k3 _ g.new.links h.new.links
    c.requires.ready c.requires.room c.if-count-leaf.false o.ensures
    c.halve.ensures.same c.halve.auto.part
    (subst (λ (x : ℕ). Split (rank c.args.points.now x) m p1) a.ensures c.halve.ensures.split)
    b.ensures
    (raised_left _ _ _ _ _ 6 b1 4 c.args.links.now _ _ _ _ g.ensures)
    g.auto.part (g.auto.boxes ∙ ap length (mid-all 6 b1)) (g.auto.links ∙ ap length (mid-all 4 c.args.links.now))
    refl (put_back 6 b1 g.new.boxes) (put_back 4 c.args.links.now g.new.links)
    k.ensures
    (raised_right _ _ _ _ m (c.build_recursive-left.new.part ++ drop (length c.args.part.now / 2) c.halve.new.part) (6 + 6 * g.result) (put_mid 6 (length c.put_box.new.boxes - 6) c.put_box.new.boxes c.build_recursive-left.new.boxes) (4 + 4 * g.result) k3 _ _ _ _ h.ensures)
    (h.auto.part ∙ ap length (mid-all m (c.build_recursive-left.new.part ++ drop (length c.args.part.now / 2) c.halve.new.part)))
    (put_back m (c.build_recursive-left.new.part ++ drop (length c.args.part.now / 2) c.halve.new.part) h.new.part) (put_back (6 + 6 * g.result) (put_mid 6 (length c.put_box.new.boxes - 6) c.put_box.new.boxes c.build_recursive-left.new.boxes) h.new.boxes) (put_back (4 + 4 * g.result) k3 h.new.links)
