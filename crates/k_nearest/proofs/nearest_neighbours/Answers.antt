-- `k_nearest::nearest_neighbours` meets its contract: each of its ways is a clause of the definition. Assumes nothing.
use Rattle.std.proofs.Common.{◌∙◌, ap, sym, List, min, length}
use lib.Ieee.{Float}
use Rattle.search.specs.Refusal.{checked}
use Rattle.k_nearest.proofs.Entry.{at_none, at-no_room, at-walk}
use Rattle.k_nearest.proofs.nearest_neighbours.Goals as goal

pub returns-then-wanted-eq0 : goal.returns-then-wanted-eq0
returns-then-wanted-eq0 c =
    let a = c.args in
    at_none a.tree.now a.place a.k (min (length a.out_indices.now) (length a.out_distances.now)) a.out_indices.now a.out_distances.now _
    (sym (c.in_ok-check_place.ensures ∙ ap (λ (p : List Float). checked p a.place) c.points.ensures)) c.min-wanted.result (c.min-wanted.ensures ∙ ap (min a.k) c.len.ensures) c.if-wanted-eq0.true

pub returns-then-room-wanted : goal.returns-then-room-wanted
returns-then-room-wanted c =
    let a = c.args in
    at-no_room a.tree.now a.place a.k (min (length a.out_indices.now) (length a.out_distances.now)) a.out_indices.now a.out_distances.now _
    (sym (c.in_ok-check_place.ensures ∙ ap (λ (p : List Float). checked p a.place) c.points.ensures)) c.min-wanted.result (c.min-wanted.ensures ∙ ap (min a.k) c.len.ensures) c.if-wanted-eq0.false
    _ c.min-room.ensures _ _ _ c.if-room-wanted.true c.refuse_room.ensures

pub returns : goal.returns
returns c =
    let a = c.args in
    at-walk a.tree.now a.place a.k (min (length a.out_indices.now) (length a.out_distances.now)) a.out_indices.now a.out_distances.now _
    (sym (c.in_ok-check_place.ensures ∙ ap (λ (p : List Float). checked p a.place) c.points.ensures)) c.min-wanted.result (c.min-wanted.ensures ∙ ap (min a.k) c.len.ensures) c.if-wanted-eq0.false
    _ c.min-room.ensures _ _ _ c.if-room-wanted.false c.find.ensures
