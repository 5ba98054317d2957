-- The whole output of a stream, from its bytes.
--   after points what        the points so far, after a record: a point that is not refused comes last
--   goes what                the stream goes on after it: only an unknown kind ends it
--   Output points s text     a stream of the bytes s prints text, where these are the points so far
-- The rest of a stream that is cut inside a body ends it by 10; bytes that end before a kind end it without a line.
use Rattle.std.specs.Prelude.{◌≡◌, List, [], ◌∷◌, ◌++◌, Bool, true, false, cond, ℕ, eqb, drop, Float}
use Rattle.tree.specs.Points.{size}
use Rattle.records.specs.Record.{read_at}
use Rattle.records.specs.declared.Record.{Record}
use Rattle.records.specs.declared.Record.TheVariants.{Point, Nearest, KNearest, Radius, Label, Unknown}
use Rattle.records.specs.declared.Read.TheVariants.{Whole, Cut, End}
use Rattle.stream.specs.Prints.{error, keep_number, Prints}

abbrev pub after : List Float → Record → List Float
after points (Point x y) = cond (eqb (keep_number (size points) x y) 0) (points ++ (x ∷ y ∷ [])) points
after points (Nearest x y) = points
after points (KNearest x y k) = points
after points (Radius x y radius) = points
after points (Label epsilon samples) = points
after points Unknown = points

abbrev pub goes : Record → Bool
goes (Point x y) = true
goes (Nearest x y) = true
goes (KNearest x y k) = true
goes (Radius x y radius) = true
goes (Label epsilon samples) = true
goes Unknown = false

pub data Output : List Float → List ℕ → List ℕ → Type 0 where
  over : {points : List Float} {s : List ℕ} → read_at s 0 ≡ End → Output points s []
  cut : {points : List Float} {s : List ℕ} → read_at s 0 ≡ Cut → Output points s (error 10)
  last : {points : List Float} {s : List ℕ} (what : Record) (next : ℕ) (text : List ℕ) → read_at s 0 ≡ Whole what next → goes what ≡ false → Prints points what text
      → Output points s text
  more : {points : List Float} {s : List ℕ} (what : Record) (next : ℕ) (text rest : List ℕ) → read_at s 0 ≡ Whole what next → goes what ≡ true → Prints points what text
      → Output (after points what) (drop next s) rest → Output points s (text ++ rest)
