-- The recorded list by its lines. Definitions only.
--   begins s i       a line of s begins at place i: it is the first, or a line end stands before it
--   starts s c i     a line with the letter c begins there
--   lines s c n      how many lines of s that begin before place n have the letter c
--   NextLine s p r   r is the first place past p where a line of s begins; the end of s where there is none
--   Says s p x r     what it means that the word at p is the pattern of x, or that it is not
--   code l           the byte of a letter
--   count_of t l     how many lines of the letter l were met
--   Tallied s n t    t has how many lines of each letter begin before place n; and where it names a place, a line begins there
use Rattle.std.specs.Prelude.{◌≡◌, Bool, true, false, cond, not, ◌&&◌, ◌||◌, List, ℕ, zero, suc, ◌+◌, ◌-◌, ◌≤◌, ◌<◌, T, eqb, length, get_or, Float, IfSome}
use Rattle.std.specs.Float.Ieee.{is_nan}
use Rattle.patterns.specs.Digits.{float_at}
use Rattle.replay_answers.specs.declared.answers.Tally.{Tally}
use Rattle.replay_answers.specs.declared.recorded.Letter.{Letter}
use Rattle.replay_answers.specs.declared.recorded.Letter.TheVariants.{Map, Nearest, KNearest, Radius, Labels}

abbrev pub begins : List ℕ → ℕ → Bool
begins s i = eqb i 0 || eqb (get_or s (i - 1) 0) 10

abbrev pub starts : List ℕ → ℕ → ℕ → Bool
starts s c i = begins s i && eqb (get_or s i 0) c

unfoldable pub lines : List ℕ → ℕ → ℕ → ℕ
lines s c zero = 0
lines s c (suc n) = lines s c n + cond (starts s c n) 1 0

pub record NextLine (s : List ℕ) (p r : ℕ) : Type 0 where
  pub past : p < r
  pub within : r ≤ length s
  pub none_between : (i : ℕ) → p < i → i < r → begins s i ≡ false
  pub here : r < length s → begins s r ≡ true

pub record Says (s : List ℕ) (p : ℕ) (x : Float) (r : Bool) : Type 0 where
  pub yes : r ≡ true → float_at s p ≡ x
  pub no : r ≡ false → T (not (is_nan x)) → float_at s p ≡ x → ⊥

abbrev pub code : Letter → ℕ
code Map = 77
code Nearest = 78
code KNearest = 75
code Radius = 82
code Labels = 76

abbrev pub count_of : Tally → Letter → ℕ
count_of t Map = t.maps
count_of t Nearest = t.nearest
count_of t KNearest = t.k_nearest
count_of t Radius = t.radius
count_of t Labels = t.labels

pub record Tallied (s : List ℕ) (n : ℕ) (t : Tally) : Type 0 where
  pub counts : (l : Letter) → count_of t l ≡ lines s (code l) n
  pub first_within : IfSome t.first_wrong (λ at. at < length s)
  pub first_begins : IfSome t.first_wrong (λ at. begins s at ≡ true)
