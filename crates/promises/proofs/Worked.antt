-- The table of worked examples holds. Scans compute; a root is shown by its two halfway points, which compute too; labels
-- pass the test that is sound for the definition. Assumes nothing.
use mathlib.Core.Path.{refl}
use Prim.Native.Nat.{ℕ}
use lib.Dec.{lit<}
use lib.Ieee.{Float, binary64, of_bits, to_bits, add, sub, mul, le, lt, eq}
use Rattle.distance.specs.Distance.{sq, d2}
use Rattle.root.specs.Root.{Root, units, next, previous}
use Rattle.root.proofs.Worked.{root_of_four, root_of_two}
use Rattle.search.specs.Result.{none, more}
use Rattle.labels.specs.Labels as l
use Rattle.labels.proofs.Test.{all, any, implies, coreb, within, pairs, rises, beside, borders, passes, passes-sound}
use Rattle.promises.specs.Examples.{Each, examples}

-- ---- the roots that occur, of 9, 16, 52, 4 and 2
abbrev f : ℕ → Float
f bits = of_bits binary64 bits

root_of_nine : Root (f 0x4022_0000_0000_0000) (f 0x4008_0000_0000_0000)
unfolding of_bits to_bits Root units next previous
root_of_nine = (tt, record { above = lit< tt; below = lit< tt })

root_of_sixteen : Root (f 0x4030_0000_0000_0000) (f 0x4010_0000_0000_0000)
unfolding of_bits to_bits Root units next previous
root_of_sixteen = (tt, record { above = lit< tt; below = lit< tt })

root_of_fifty_two : Root (f 0x404a_0000_0000_0000) (f 0x401c_d82b_4461_59f3)
unfolding of_bits to_bits Root units next previous
root_of_fifty_two = (tt, record { above = lit< tt; below = lit< tt })

-- ---- the table
pub examples_hold : Each examples
unfolding of_bits d2 sq add sub mul le lt eq l.near l.hits all any implies coreb within pairs rises beside borders passes
examples_hold = (
  record { answered_is = refl; number_is = refl; detail_is = refl; indices_are = refl; distances_are = more root_of_nine none },
  (
    (refl, more root_of_nine (more root_of_nine (more root_of_sixteen none))),
    (
      (refl, more root_of_nine (more root_of_nine (more root_of_sixteen (more root_of_fifty_two none)))),
      (
        refl,
        (
          refl,
          (
            refl,
            (
              passes-sound _ _ _ 1 _ tt,
              (
                passes-sound _ _ _ 1 _ tt,
                (
                  passes-sound _ _ _ 1 _ tt,
                  (
                    root_of_four,
                    (
                      root_of_two,
                      tt,
                    ),
                  ),
                ),
              ),
            ),
          ),
        ),
      ),
    ),
  ),
)
