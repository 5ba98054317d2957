-- `stream::feed_parts` meets its contract: a turn of the loop takes one record more. Assumes nothing.
use Rattle.std.proofs.Common.{◌≡◌, ◌-◌, length}
use Rattle.stream.specs.Feeding.{so_far, Ready}
use Rattle.stream.proofs.Turns.{Fine}
use Rattle.stream.proofs.feed_parts.Given as goal

abbrev pub invariant-loop-lines : goal.invariant-loop-lines
invariant-loop-lines l =
    record {
      fine : Fine l.input l.from (so_far l.fn.parts.points.now l.fn.parts.count) l.fn.out (so_far l.parts.points.now l.parts.count) l.lines.out.now l.used l.lines.at;
      ready : Ready l.parts.points.now l.parts.count l.parts.indices.now l.parts.boxes.now l.parts.links.now l.parts.fresh;
      same_points : l.parts.points.ghost_name ≡ l.fn.parts.points.ghost_name;
      same_indices : l.parts.indices.ghost_name ≡ l.fn.parts.indices.ghost_name;
      same_boxes : l.parts.boxes.ghost_name ≡ l.fn.parts.boxes.ghost_name;
      same_links : l.parts.links.ghost_name ≡ l.fn.parts.links.ghost_name;
      same_reference : l.lines.out.ghost_name ≡ l.initial.lines.out.ghost_name;
    }

abbrev pub decreases-loop-lines : goal.decreases-loop-lines
decreases-loop-lines l = length l.input - l.used
