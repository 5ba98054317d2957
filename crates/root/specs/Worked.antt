-- Worked values of the root, as statements about the definition alone. Definitions only.
--   RootOfFour   the root of 4 is 2
--   RootOfTwo    the root of 2 is the float of the pattern 3FF6A09E667F3BCD
use Rattle.std.specs.Float.{binary64}
use Rattle.std.specs.Float.Ieee.{of_bits}
use Rattle.root.specs.Root.{Root}

abbrev pub RootOfFour : Type 0
RootOfFour = Root (of_bits binary64 0x4010_0000_0000_0000) (of_bits binary64 0x4000_0000_0000_0000)

abbrev pub RootOfTwo : Type 0
RootOfTwo = Root (of_bits binary64 0x4000_0000_0000_0000) (of_bits binary64 0x3FF6_A09E_667F_3BCD)
