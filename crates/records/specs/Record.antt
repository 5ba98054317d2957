-- What the bytes at a place of a stream stand for: a byte of kind, then a body of fixed length, little-endian.
--   word_at s at         the number that four bytes from `at` on stand for, the least first
--   long_at s at         that of eight
--   float_at s at        the f64 whose bits are those eight; every NaN's bits are the one nan
--   body_of kind         how many bytes follow a byte of kind; none where the kind is unknown
--   record_at s kind at  the record of a kind whose body starts at `at`
--   read_at s at         nothing left: End; a kind with its whole body: the record, and the place past it; else Cut
use Rattle.std.specs.Prelude.{ℕ, ◌+◌, ◌*◌, ◌-◌, List, cond, length, get_or, ltb, leb, eqb, Float}
use Rattle.std.specs.Float.{binary64}
use Rattle.std.specs.Float.Ieee.{of_bits}
use Rattle.records.specs.declared.Record.{Record}
use Rattle.records.specs.declared.Record.TheVariants.{Point, Nearest, KNearest, Radius, Label, Unknown}
use Rattle.records.specs.declared.Read.{Read}
use Rattle.records.specs.declared.Read.TheVariants.{Whole, Cut, End}

unfoldable pub word_at : List ℕ → ℕ → ℕ
word_at s at = get_or s at 0 + 256 * get_or s (at + 1) 0 + 65536 * get_or s (at + 2) 0 + 16777216 * get_or s (at + 3) 0

unfoldable pub long_at : List ℕ → ℕ → ℕ
long_at s at = word_at s at + 4294967296 * word_at s (at + 4)

unfoldable pub float_at : List ℕ → ℕ → Float
float_at s at = of_bits binary64 (long_at s at)

abbrev pub body_of : ℕ → ℕ
body_of kind =
    cond (eqb kind 1) 16
    (cond (eqb kind 2) 16
    (cond (eqb kind 3) 20
    (cond (eqb kind 4) 24
    (cond (eqb kind 5) 12 0))))

abbrev pub record_at : List ℕ → ℕ → ℕ → Record
record_at s kind at =
    cond (eqb kind 1) (Point (float_at s at) (float_at s (at + 8)))
    (cond (eqb kind 2) (Nearest (float_at s at) (float_at s (at + 8)))
    (cond (eqb kind 3) (KNearest (float_at s at) (float_at s (at + 8)) (word_at s (at + 16)))
    (cond (eqb kind 4) (Radius (float_at s at) (float_at s (at + 8)) (float_at s (at + 16)))
    (cond (eqb kind 5) (Label (float_at s at) (word_at s (at + 8))) Unknown))))

abbrev pub read_at : List ℕ → ℕ → Read
read_at s at =
    cond (ltb at (length s))
    (cond (leb (body_of (get_or s at 0)) (length s - (at + 1))) (Whole (record_at s (get_or s at 0) (at + 1)) (at + 1 + body_of (get_or s at 0))) Cut)
    End
