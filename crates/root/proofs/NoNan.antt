-- The root of a number that is not below zero is no NaN: case by case of the definition. Assumes nothing.
use mathlib.Core.Path.{sym, subst}
use mathlib.Core.Bool.{Bool, false, not, true}
use Prim.Native.Nat.{zero, suc}
use lib.Dec.{T}
use lib.Ieee.{Float, nan, inf, fin, is_nan}
use lib.Ieee.Positive.{positive}
use Rattle.root.specs.Root.{Root}

-- a number whose sign is plus
abbrev pub unsigned : Float → Bool
unsigned nan = false
unsigned (inf s) = not s
unsigned (fin s m e) = not s

abbrev Number : Float → Type 0
Number r = T (not (is_nan r))

positive-number : (r : Float) → T (positive r) → Number r
unfolding is_nan
positive-number (fin s m e) p = tt
positive-number nan p = elim p [ ]
positive-number (inf _) p = elim p [ ]

pub root-no-nan : (x r : Float) → T (unsigned x) → Root x r → Number r
unfolding Root is_nan
root-no-nan (inf false) r p h = subst Number (sym h) tt
root-no-nan (fin false zero e) r p h = subst Number (sym h) tt
root-no-nan (fin false (suc m) e) r p h = positive-number r h.0
root-no-nan nan r p h = elim p [ ]
root-no-nan (inf true) r p h = elim p [ ]
root-no-nan (fin true _ e) r p h = elim p [ ]
