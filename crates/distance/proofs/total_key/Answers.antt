-- `distance::total_key` meets its contract: the two halves of the key, by its laws. Assumes nothing.
use mathlib.Core.Path.{sym, subst}
use native.Mathlib.Omega.{arith}
use lib.Dec.{T}
use lib.Ieee.{binary64, fits, to_bits}
use lib.Ieee.Bits.{to_bits-lt}
use Rattle.distance.proofs.TotalKey.{key-high, key-low}
use Rattle.distance.proofs.total_key.Goals as goal
use Rattle.distance.proofs.total_key.Goals.{Start}

-- what owning an `f64` tells: the format holds it
held : (c : Start) → T (fits binary64 c.args.x)
held c = subst T (sym c.well_formed.0.1) tt

pub overflow_sub-result : goal.overflow_sub-result
overflow_sub-result c = omega (arith, to_bits-lt binary64 c.args.x (held (goal.at.overflow_sub-result c).Start))

pub returns-then-b-ge9223372036854775808 : goal.returns-then-b-ge9223372036854775808
returns-then-b-ge9223372036854775808 c = sym (key-high (to_bits binary64 c.args.x) c.if-b-ge9223372036854775808.true)

pub returns-else-b-ge9223372036854775808 : goal.returns-else-b-ge9223372036854775808
returns-else-b-ge9223372036854775808 c = sym (key-low (to_bits binary64 c.args.x) c.if-b-ge9223372036854775808.false)
