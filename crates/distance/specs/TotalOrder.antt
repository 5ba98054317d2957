-- IEEE 754's totalOrder of numbers that are no NaN, and a whole number for each that has the same order.
--   negative x      x has the sign bit, -0 and -infinity included
--   total_lt x y    x stands before y: by value, and -0 before +0
--   key_bits b      the pattern b with its sign turned, or all of it where the sign is set
--   key x           the key of x, which is no NaN
use Rattle.std.specs.Prelude.{Bool, false, not, ◌&&◌, ◌||◌, cond, ℕ, ◌+◌, ◌-◌, leb, Float}
use Rattle.std.specs.Float.{nan, inf, fin, binary64}
use Rattle.std.specs.Float.Ieee.{to_bits, lt, eq}

abbrev pub negative : Float → Bool
negative nan = false
negative (inf s) = s
negative (fin s m e) = s

unfoldable pub total_lt : Float → Float → Bool
total_lt x y = lt x y || (eq x y && (negative x && not (negative y)))

unfoldable pub key_bits : ℕ → ℕ
key_bits b = cond (leb 0x8000_0000_0000_0000 b) (0xffff_ffff_ffff_ffff - b) (b + 0x8000_0000_0000_0000)

abbrev pub key : Float → ℕ
key x = key_bits (to_bits binary64 x)
