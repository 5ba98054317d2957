-- `stream::print_all` meets its contract: slices that are not short are fed from no points on. Assumes nothing.
use Rattle.std.proofs.Common.{List, subst, rules}
use lib.Ieee.{Float}
use Rattle.stream.specs.Feeding.{FedBy}
use Rattle.stream.proofs.Printing.{roomy, filled-full, filled-done, filled-over, filled-cut}
use Rattle.stream.proofs.print_all.Goals as goal

pub returns-in-Full : goal.returns-in-Full
returns-in-Full c =
    let a = c.args in
    let F = subst (λ (p : List Float). FedBy a.input.now 0 p a.out.now c.feed-fed.new.map.points c.feed-fed.new.out c.feed-fed.result) c.new-map.ensures.none c.feed-fed.ensures in
    filled-full a.input.now a.out.now _ F (roomy c.if-points-lt-COORDINATES.false c.if-indices-lt-MAX_POINTS.false c.if-boxes-lt-BOXES.false c.if-links-lt-LINKS.false) c.in-Full.is

pub returns-in-Done : goal.returns-in-Done
returns-in-Done c =
    let a = c.args in
    let F = subst (λ (p : List Float). FedBy a.input.now 0 p a.out.now c.feed-fed.new.map.points c.feed-fed.new.out c.feed-fed.result) c.new-map.ensures.none c.feed-fed.ensures in
    filled-done a.input.now a.out.now _ F (roomy c.if-points-lt-COORDINATES.false c.if-indices-lt-MAX_POINTS.false c.if-boxes-lt-BOXES.false c.if-links-lt-LINKS.false) c.in-Done.is

pub returns-else-is_cut : goal.returns-else-is_cut
returns-else-is_cut c =
    let a = c.args in
    let F = subst (λ (p : List Float). FedBy a.input.now 0 p a.out.now c.feed-fed.new.map.points c.feed-fed.new.out c.feed-fed.result) c.new-map.ensures.none c.feed-fed.ensures in
    filled-over a.input.now a.out.now _ F (roomy c.if-points-lt-COORDINATES.false c.if-indices-lt-MAX_POINTS.false c.if-boxes-lt-BOXES.false c.if-links-lt-LINKS.false) c.in-Hungry.is c.if-is_cut.false

pub returns-then-is_cut : goal.returns-then-is_cut
returns-then-is_cut c =
    let a = c.args in
    let F = subst (λ (p : List Float). FedBy a.input.now 0 p a.out.now c.feed-fed.new.map.points c.feed-fed.new.out c.feed-fed.result) c.new-map.ensures.none c.feed-fed.ensures in
    let d = filled-cut a.input.now a.out.now _ F (roomy c.if-points-lt-COORDINATES.false c.if-indices-lt-MAX_POINTS.false c.if-boxes-lt-BOXES.false c.if-links-lt-LINKS.false) c.in-Hungry.is c.if-is_cut.true {out'' = c.put_error.new.lines.out.now} {w = c.put_error.new.lines.at} (rw (← c.new-lines.ensures.out, ← c.new-lines.ensures.at) c.put_error.ensures.put) in
    search rules
