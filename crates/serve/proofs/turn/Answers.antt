-- `serve::turn` meets its contract: each way out, after what was fed and written. Assumes nothing.
use Rattle.std.proofs.Common.{List, ℕ, ap, sym, subst, ◌∙◌, arith}
use Rattle.stream.specs.Feeding.{on, FedBy}
use Rattle.serve.specs.Serving.{Waits}
use Rattle.serve.proofs.Fed.{waits}
use Rattle.serve.proofs.Serving.{joined, ended, fed, fed_last, read, over-none, over-cut}
use Rattle.serve.proofs.Spending as spending
use Rattle.serve.proofs.turn.Goals as goal

pub returns-in-Full : goal.returns-in-Full
returns-in-Full g c =
    let a = c.args in
    let F = subst (λ (s : List ℕ). FedBy s 0 a.map.now.points a.out.now c.feed-fed.new.map.points c.feed-fed.new.out c.feed-fed.result) c.rest.ensures c.feed-fed.ensures in
    record { turned = fed c.feed-fed.result F _ _ c.in_ok-write_all.ensures.bytes c.advance.ensures (ap on c.in-Full.is); spends = spending.taken _ _ _ a.out.now c.feed-fed.result F c.requires.room c.in-Full.is _ c.advance.ensures }

pub returns-in-Done : goal.returns-in-Done
returns-in-Done g c =
    let a = c.args in
    let F = subst (λ (s : List ℕ). FedBy s 0 a.map.now.points a.out.now c.feed-fed.new.map.points c.feed-fed.new.out c.feed-fed.result) c.rest.ensures c.feed-fed.ensures in
    record { turned = fed_last c.feed-fed.result F _ _ c.in_ok-write_all.ensures.bytes _ (ap on c.in-Done.is); spends = tt }

pub returns-then-branch-gt0 : goal.returns-then-branch-gt0
returns-then-branch-gt0 g c =
    let a = c.args in
    let F = subst (λ (s : List ℕ). FedBy s 0 a.map.now.points a.out.now c.feed-fed.new.map.points c.feed-fed.new.out c.feed-fed.result) c.rest.ensures c.feed-fed.ensures in
    record { turned = joined (fed c.feed-fed.result F _ _ c.in_ok-write_all.ensures.bytes c.advance.ensures (ap on c.in-Hungry.is)) (read _ _ c.in_ok-refill-in-Hungry.ensures.came); spends = spending.read _ _ c.advance.ensures c.in_ok-refill-in-Hungry.ensures.came c.if-branch-gt0.true }

pub returns-else-not-is_empty : goal.returns-else-not-is_empty
returns-else-not-is_empty g c =
    let a = c.args in
    let f = c.feed-fed.result in
    let F = subst (λ (s : List ℕ). FedBy s 0 a.map.now.points a.out.now c.feed-fed.new.map.points c.feed-fed.new.out c.feed-fed.result) c.rest.ensures c.feed-fed.ensures in
    let W = subst (Waits c.feed-fed.new.map.points) (sym c.advance.ensures) (waits a.input.now a.map.now.points a.out.now f F c.in-Hungry.is) in
    record { turned = ended _ (joined (fed f F _ _ c.in_ok-write_all.ensures.bytes c.advance.ensures (ap on c.in-Hungry.is)) (read _ _ c.in_ok-refill-in-Hungry.ensures.came)) (over-none c.in_ok-refill-in-Hungry.ensures.came (omega (arith, c.if-branch-gt0.false)) W _ (sym c.is_empty.ensures ∙ c.if-not-is_empty.false)); spends = tt }

pub returns-in_ok-write_all-in-Hungry : goal.returns-in_ok-write_all-in-Hungry
returns-in_ok-write_all-in-Hungry g c =
    let a = c.args in
    let f = c.feed-fed.result in
    let F = subst (λ (s : List ℕ). FedBy s 0 a.map.now.points a.out.now c.feed-fed.new.map.points c.feed-fed.new.out c.feed-fed.result) c.rest.ensures c.feed-fed.ensures in
    let W = subst (Waits c.feed-fed.new.map.points) (sym c.advance.ensures) (waits a.input.now a.map.now.points a.out.now f F c.in-Hungry.is) in
    record { turned = ended _ (joined (fed f F _ _ c.in_ok-write_all.ensures.bytes c.advance.ensures (ap on c.in-Hungry.is)) (read _ _ c.in_ok-refill-in-Hungry.ensures.came)) (over-cut c.in_ok-refill-in-Hungry.ensures.came (omega (arith, c.if-branch-gt0.false)) W _ _ (sym c.is_empty.ensures ∙ c.if-not-is_empty.true) c.in_ok-write_all-in-Hungry.ensures.bytes); spends = tt }
