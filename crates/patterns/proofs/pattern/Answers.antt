-- `pattern` meets its contract, a NaN apart (`Patterns.antt`). Assumes nothing.
use mathlib.Core.Path.{sym, subst}
use lib.Dec.{T}
use Rattle.patterns.proofs.Patterns.{pattern_of}
use Rattle.patterns.proofs.pattern.Goals as goal

pub returns : goal.returns
returns c = rw c.f64_to_bits_with_nan.ensures (pattern_of c.args.x (subst T (sym c.well_formed.0.1) tt))
