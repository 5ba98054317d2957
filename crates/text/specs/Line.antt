-- The stream's lines as bytes, and what it is to write them.
--   Put before at text now next  `text` stands in `now` from `at` on, all else is as in `before`, and `next` is the place past it
--   glyph_of d           a digit: `0` to `9`, then `A` to `F`
--   decimals k n         the decimal digits of n, with no 0 in front, of a number of at most k digits
--   decimal n            those of a u32
--   hexes k n            the last k hexadecimal digits of n
--   hit_line i d         an index, a space, the 16 digits of a distance's bits
--   nearest_line i d     `N`, a space, and the same
--   none_line            `N none`
--   count_line letter n  a letter, a space, a number: `K`, `R`, `C` with a count, `E` with a refusal's number
--   label_line l         a label; `-` for noise
--   lines k f            the lines f 0, f 1 and so on, k of them
--   hit_lines k is ds    the lines of the first k hits
--   label_lines k ls     those of the first k labels
--   HitsFit out at is ds k  there are k hits, none at a NaN, and there is room for their lines
--   LabelsFit out at ls k   there are k labels, and room for their lines
use Rattle.std.specs.Prelude.{ℕ, zero, suc, ◌+◌, ◌*◌, ◌/◌, ◌%◌, ◌≤◌, ◌<◌, ◌≡◌, List, [], ◌∷◌, ◌++◌, not, cond, length, get_or, T, ltb, eqb, Float}
use Rattle.std.proofs.lemmas.List.Edits.{sets}
use Rattle.std.specs.Float.{nan, binary64}
use Rattle.std.specs.Float.Ieee.{to_bits, is_nan}

pub record Put (before : List ℕ) (at : ℕ) (text : List ℕ) (now : List ℕ) (next : ℕ) : Type 0 where
  pub bytes : now ≡ sets before at text
  pub past : next ≡ at + length text

abbrev pub glyph_of : ℕ → ℕ
glyph_of d = cond (ltb d 10) (48 + d) (55 + d)

unfoldable pub decimals : ℕ → ℕ → List ℕ
decimals zero n = []
decimals (suc k) n = cond (ltb n 10) (glyph_of n ∷ []) (decimals k (n / 10) ++ (glyph_of (n % 10) ∷ []))

abbrev pub decimal : ℕ → List ℕ
decimal n = decimals 10 n

unfoldable pub hexes : ℕ → ℕ → List ℕ
hexes zero n = []
hexes (suc k) n = hexes k (n / 16) ++ (glyph_of (n % 16) ∷ [])

abbrev pub hit_line : ℕ → Float → List ℕ
hit_line i d = decimal i ++ (32 ∷ (hexes 16 (to_bits binary64 d) ++ (10 ∷ [])))

abbrev pub nearest_line : ℕ → Float → List ℕ
nearest_line i d = 78 ∷ 32 ∷ hit_line i d

abbrev pub none_line : List ℕ
none_line = 78 ∷ 32 ∷ 110 ∷ 111 ∷ 110 ∷ 101 ∷ 10 ∷ []

abbrev pub count_line : ℕ → ℕ → List ℕ
count_line letter n = letter ∷ 32 ∷ (decimal n ++ (10 ∷ []))

abbrev pub label_line : ℕ → List ℕ
label_line l = cond (eqb l 4294967295) (45 ∷ 10 ∷ []) (decimal l ++ (10 ∷ []))

unfoldable pub lines : ℕ → (ℕ → List ℕ) → List ℕ
lines zero f = []
lines (suc k) f = lines k f ++ f k

abbrev pub hit_lines : ℕ → List ℕ → List Float → List ℕ
hit_lines k is ds = lines k (λ (i : ℕ). hit_line (get_or is i 0) (get_or ds i nan))

abbrev pub label_lines : ℕ → List ℕ → List ℕ
label_lines k ls = lines k (λ (i : ℕ). label_line (get_or ls i 0))

pub record HitsFit (out : List ℕ) (at : ℕ) (is : List ℕ) (ds : List Float) (k : ℕ) : Type 0 where
  pub indices : k ≤ length is
  pub distances : k ≤ length ds
  pub numbers : (i : ℕ) → i < k → T (not (is_nan (get_or ds i nan)))
  pub room : at + 28 * k ≤ length out

pub record LabelsFit (out : List ℕ) (at : ℕ) (ls : List ℕ) (k : ℕ) : Type 0 where
  pub labels : k ≤ length ls
  pub room : at + 11 * k ≤ length out
