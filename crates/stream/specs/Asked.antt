-- What the inner functions of `stream` ask.
--   Raising p i b l         finite points, at most 1,024, and room for their tree
--   Asking t out at         the tree t of at most 1,024 points stands, and there is room for the longest lines
--   Plain p out at          finite points, at most 1,024, and room for the longest lines
--   label_text r n ls       the lines of a labelling's answer
--   found_text letter r is ds  the lines of an answer that lists hits: a letter and a count, then the hits; or the refusal
--   Countable m is ds       there are m hits, 1,024 at most, and none is at a NaN
--   Writes out at r is ds   the lines of an answer can be written
--   asked w q               the record that asks at q for what is wanted
--   letter_of w             its letter
--   listed w p q            what it lists of the points p by a scan, with room for all
--   Query what              it is no point
use Rattle.std.specs.Prelude.{◌≡◌, List, ◌++◌, not, ℕ, ◌+◌, ◌%◌, ◌≤◌, ◌<◌, T, length, get_or, Float, Result, Ok, Err}
use Rattle.std.specs.Float.{nan}
use Rattle.std.specs.Float.Ieee.{is_nan}
use Rattle.distance.specs.declared.Coord.{Coord}
use Rattle.refusal.specs.Numbers.{number}
use Rattle.refusal.specs.declared.Refusal.{Refusal}
use Rattle.tree.specs.Points.{size, AllFinite}
use Rattle.tree.specs.Accepted.{Tree, count, Accepted}
use Rattle.search.specs.Answer.{Answer}
use Rattle.k_nearest.specs.Query.{scan_answer}
use Rattle.records.specs.declared.Record.{Record}
use Rattle.records.specs.declared.Record.TheVariants.{Point, Nearest, KNearest, Radius, Label, Unknown}
use Rattle.text.specs.Line.{count_line, hit_lines, label_lines}
use Rattle.stream.specs.declared.Wanted.{Wanted}
use Rattle.stream.specs.declared.Wanted.TheVariants as wanted
use Rattle.stream.specs.Prints.{error, limit_points, radius_scan}
use Rattle.stream.specs.Feeding.{longest}

pub record Raising (p : List Float) (indices : List ℕ) (boxes : List Float) (links : List ℕ) : Type 0 where
  pub even : length p % 2 ≡ 0
  pub few : size p ≤ limit_points
  pub all_finite : AllFinite p
  pub indices_room : 1024 ≤ length indices
  pub boxes_room : 12288 ≤ length boxes
  pub links_room : 8192 ≤ length links

pub record Asking (t : Tree) (out : List ℕ) (at : ℕ) : Type 0 where
  pub few : count t ≤ limit_points
  pub stands : Accepted t
  pub room : at + longest ≤ length out

pub record Plain (p : List Float) (out : List ℕ) (at : ℕ) : Type 0 where
  pub even : length p % 2 ≡ 0
  pub few : size p ≤ limit_points
  pub all_finite : AllFinite p
  pub room : at + longest ≤ length out

abbrev pub label_text : Result Unit Refusal → ℕ → List ℕ → List ℕ
label_text (Ok u) n ls = count_line 67 n ++ label_lines n ls
label_text (Err r) n ls = error (number r)

abbrev pub found_text : ℕ → Result ℕ Refusal → List ℕ → List Float → List ℕ
found_text letter (Ok m) is ds = count_line letter m ++ hit_lines m is ds
found_text letter (Err r) is ds = error (number r)

pub record Countable (m : ℕ) (is : List ℕ) (ds : List Float) : Type 0 where
  pub few : m ≤ limit_points
  pub indices : m ≤ length is
  pub distances : m ≤ length ds
  pub numbers : (i : ℕ) → i < m → T (not (is_nan (get_or ds i nan)))

pub record Writes (out : List ℕ) (at : ℕ) (r : Result ℕ Refusal) (is : List ℕ) (ds : List Float) : Type 0 where
  pub room : at + longest ≤ length out
  pub counts : (m : ℕ) → r ≡ Ok m → Countable m is ds

abbrev pub asked : Wanted → Coord → Record
asked (wanted.Nearest k) q = KNearest q.x q.y k
asked (wanted.Within radius) q = Radius q.x q.y radius

abbrev pub letter_of : Wanted → ℕ
letter_of (wanted.Nearest k) = 75
letter_of (wanted.Within radius) = 82

abbrev pub listed : Wanted → List Float → Coord → Answer
listed (wanted.Nearest k) p q = scan_answer p q k (size p)
listed (wanted.Within radius) p q = radius_scan p q radius

abbrev pub Query : Record → Type 0
Query (Point x y) = ⊥
Query (Nearest x y) = Unit
Query (KNearest x y k) = Unit
Query (Radius x y radius) = Unit
Query (Label epsilon samples) = Unit
Query Unknown = Unit
