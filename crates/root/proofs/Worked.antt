-- Worked values of the root. Each is computed from the definition; by `root_unique` no other float will do. Assumes nothing.
use mathlib.Core.Path.{◌≡◌, refl, ap, ◌∙◌}
use mathlib.Core.Bool.{true, false}
use Prim.Native.Nat.{ℕ, ◌<◌}
use native.Mathlib.Nat.{not-le_of_lt}
use lib.Dec.{T, leb, lit<, lit≤}
use lib.IntN.{pos, negsuc}
use lib.Ieee.{Float, nan, inf, fin, binary64, fits, of_bits, to_bits}
use lib.Ieee.Bits.{of_bits-fits}
use Rattle.root.specs.Root.{Root, units, next, previous}
use Rattle.root.specs.Worked.{RootOfFour, RootOfTwo}
use Rattle.root.proofs.Floats.{bits_back}
use Rattle.root.proofs.Unique.{root_unique}

pub root_of_four : RootOfFour
unfolding Root units next previous
root_of_four = (tt, record { above = lit< tt; below = lit< tt })

pub root_of_two : RootOfTwo
unfolding Root units next previous
root_of_two = (tt, record { above = lit< tt; below = lit< tt })

-- the root of the least float, 2 ^ -1074, is 2 ^ -537
pub root_of_least : Root (of_bits binary64 1) (fin false 1 (negsuc 536))
unfolding Root units next previous
root_of_least = (tt, record { above = lit< tt; below = lit< tt })

pub root_of_largest : Root (of_bits binary64 0x7FEF_FFFF_FFFF_FFFF) (of_bits binary64 0x5FEF_FFFF_FFFF_FFFF)
unfolding Root units next previous
root_of_largest = (tt, record { above = lit< tt; below = lit< tt })

pub root_of_minus_zero : Root (fin true 0 (pos 0)) (fin true 0 (pos 0))
unfolding Root
root_of_minus_zero = refl

pub root_of_minus_one : Root (fin true 1 (pos 0)) nan
unfolding Root
root_of_minus_one = refl

pub root_of_infinity : Root (inf false) (inf false)
unfolding Root
root_of_infinity = refl

-- ---- the neighbours of the root of 2 are no root of it
refute : {m n : ℕ} → m < n → T (leb n m) → ⊥
refute h t = not-le_of_lt h (lit≤ t)

pub root_of_two_not_below : Root (of_bits binary64 0x4000_0000_0000_0000) (of_bits binary64 0x3FF6_A09E_667F_3BCC) → ⊥
unfolding Root units next previous
root_of_two_not_below h = refute h.1.below tt

pub root_of_two_not_above : Root (of_bits binary64 0x4000_0000_0000_0000) (of_bits binary64 0x3FF6_A09E_667F_3BCE) → ⊥
unfolding Root units next previous
root_of_two_not_above h = refute h.1.above tt

-- ---- so a call that answers a root of 4 answers 2, and one of 2 that pattern
pub root_of_four-is : (r : Float) → T (fits binary64 r) → Root (of_bits binary64 0x4010_0000_0000_0000) r → r ≡ of_bits binary64 0x4000_0000_0000_0000
root_of_four-is r f h = root_unique (of_bits binary64 0x4010_0000_0000_0000) r (of_bits binary64 0x4000_0000_0000_0000) f (of_bits-fits binary64 0x4000_0000_0000_0000) h root_of_four

pub root_of_two-is : (r : Float) → T (fits binary64 r) → Root (of_bits binary64 0x4000_0000_0000_0000) r → to_bits binary64 r ≡ 0x3FF6_A09E_667F_3BCD
root_of_two-is r f h =
    ap (to_bits binary64) (root_unique (of_bits binary64 0x4000_0000_0000_0000) r (of_bits binary64 0x3FF6_A09E_667F_3BCD) f (of_bits-fits binary64 0x3FF6_A09E_667F_3BCD) h root_of_two)
    ∙ bits_back 0x3FF6_A09E_667F_3BCD (lit< tt)
