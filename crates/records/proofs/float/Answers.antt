-- `records::float` meets its contract: eight bytes as a number, and its bits as a float. Assumes nothing.
use mathlib.Core.Path.{◌≡◌, ap, ◌∙◌}
use Prim.Native.Nat.{ℕ, ◌+◌}
use lib.Ieee.{binary64, of_bits}
use lib.ListN.{get_or}
use native.Mathlib.Omega.{arith}
use Rattle.records.specs.Record.{float_at, long_at, word_at}
use Rattle.records.proofs.float.Goals as goal

pub returns : goal.returns
unfolding float_at long_at word_at
returns c =
    let s = c.args.s.now in
    let at = c.args.at in
    let byte : (i j : ℕ) → i ≡ j → get_or s i 0 ≡ get_or s j 0 = λ i j e. ap (λ (k : ℕ). get_or s k 0) e in
    let number : c.from_le_bytes.result ≡ long_at s at = omega (arith, c.from_le_bytes.ensures, byte (at + 5) (at + 4 + 1) (omega arith), byte (at + 6) (at + 4 + 2) (omega arith), byte (at + 7) (at + 4 + 3) (omega arith)) in
    c.f64_from_bits_with_nan.ensures ∙ ap (of_bits binary64) number
