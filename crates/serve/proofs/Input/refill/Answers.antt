-- `serve::Input::refill` meets its contract: what was read comes after what waited. Assumes nothing.
use Rattle.std.proofs.Common.{◌<◌, ◌∙◌, List, ℕ, ◌++◌, length, take, ap, arith, rules, ◌-◌}
use lib.Seq.{length-take-le}
use Rattle.serve.specs.Waiting.{longest_record}
use Rattle.serve.proofs.Waiting.{held-length, refilled}
use Rattle.serve.proofs.Input.refill.Goals as goal

pub returns : goal.returns
returns g c =
    let i = c.self.inside in
    let I = c.self.invariant in
    let n = c.in_ok-got.got in
    let buf = c.read.new.buf in
    let short : length c.args.self.now < longest_record = c.requires.room in
    let few : i.have - i.used < longest_record = omega (arith, held-length i.used i.have i.bytes.now I.used_in I.have_in, ap length c.self.view_is, short) in
    record {
      came = record {
        bytes = take n buf;
        read = c.in_ok-got.ensures.bytes.0;
        after = refilled i.bytes.now c.copy_within.new.self buf i.used i.have _ n I.used_in I.have_in c.copy_within.ensures.after c.in_ok-got.ensures.bound.0 c.copy_within.ensures.len ∙ ap (λ (s : List ℕ). s ++ take n buf) c.self.view_is;
        count = length-take-le n buf c.in_ok-got.ensures.bound.0;
        ends = λ z. c.in_ok-got.ensures.bytes.1 z (search rules);
      };
    }
