-- `serve::Input::advance` meets its contract. Assumes nothing.
use Rattle.std.proofs.Common.{◌≤◌, ◌∙◌, List, ℕ, length, drop, ap, sym, subst}
use Rattle.serve.proofs.Waiting.{held-on}
use Rattle.serve.proofs.Input.advance.Goals as goal

pub returns : goal.returns
returns c =
    let n = c.args.count in
    let i = c.self.inside in
    held-on i.used n i.have i.bytes.now c.self.invariant.used_in c.self.invariant.have_in (subst (λ (s : List ℕ). n ≤ length s) (sym c.self.view_is) c.requires) ∙ ap (drop n) c.self.view_is
