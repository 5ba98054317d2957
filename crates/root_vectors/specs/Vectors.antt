-- Vectors of the root as text. A line has 34 bytes: 16 hex digits, a blank, 16 hex digits, a line end. Definitions only.
--   number s i    the float whose pattern stands first in line i of s, counted from 0
--   expected s i  the float whose pattern stands second in it
--   Tallied s t   what is promised of the tally t of the text s
use Rattle.std.specs.Prelude.{◌≡◌, List, ℕ, ◌+◌, ◌*◌, ◌/◌, ◌≤◌, ◌<◌, length, Float}
use Rattle.patterns.specs.Digits.{float_at}
use Rattle.root.specs.Root.{Root}
use Rattle.root_vectors.specs.declared.vectors.Tally.{Tally}

abbrev pub number : List ℕ → ℕ → Float
number s i = float_at s (i * 34)

abbrev pub expected : List ℕ → ℕ → Float
expected s i = float_at s (i * 34 + 17)

-- Where every line agrees, what is expected is the root, by the definition, in every line.
pub record Tallied (s : List ℕ) (t : Tally) : Type 0 where
  pub lines_is : t.lines ≡ length s / 34
  pub agree_le : t.agree ≤ t.lines
  pub all_agree : t.agree ≡ t.lines → (i : ℕ) → i < t.lines → Root (number s i) (expected s i)
