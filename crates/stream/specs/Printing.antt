-- A whole stream printed into a lent slice: what `print_all` answers and leaves.
--   goes_on r                a whole record was read, and the stream goes on after it
--   Fills room points s whole text   of the bytes s, records are taken while `longest` of `room` bytes are left, where these are the
--                            points so far; they print text, and `whole` tells whether that is all that s prints
--   Roomy t                  there is room in the lent slices for 1,024 points and their tree
--   Filled t s out out' whole wrote   there is that room; such a text, from no points on, stands at the start of out, up to `wrote`,
--                            and no entry past it has changed
--   Refuses t out t' out'    there is too little room for points or tree, and no slice has changed
--   PrintedBy s t out t' out' r   what the answer r tells; where it is no refusal, nothing is said of t': its slices are work
use Rattle.std.specs.Prelude.{◌≡◌, List, [], ◌++◌, Bool, true, false, ℕ, ◌-◌, ◌≤◌, ◌<◌, length, drop, Float}
use Rattle.tree.specs.Accepted.{Tree}
use Rattle.records.specs.Record.{read_at}
use Rattle.records.specs.declared.Record.{Record}
use Rattle.records.specs.declared.Read.{Read}
use Rattle.records.specs.declared.Read.TheVariants as read
use Rattle.text.specs.Line.{Put}
use Rattle.stream.specs.declared.Printed.{Printed}
use Rattle.stream.specs.declared.Printed.TheVariants.{Whole, Full, Short}
use Rattle.stream.specs.Prints.{Prints}
use Rattle.stream.specs.Stream.{after, goes, Output}
use Rattle.stream.specs.Feeding.{longest}

abbrev pub goes_on : Read → Bool
goes_on (read.Whole what next) = goes what
goes_on read.Cut = false
goes_on read.End = false

pub data Fills : ℕ → List Float → List ℕ → Bool → List ℕ → Type 0 where
  full : {room : ℕ} {points : List Float} {s : List ℕ} → room < longest → Fills room points s false []
  end : {room : ℕ} {points : List Float} {s text : List ℕ} → longest ≤ room → goes_on (read_at s 0) ≡ false → Output points s text → Fills room points s true text
  more : {room : ℕ} {points : List Float} {s : List ℕ} {whole : Bool} (what : Record) (next : ℕ) (text rest : List ℕ) → longest ≤ room
      → read_at s 0 ≡ read.Whole what next → goes what ≡ true → Prints points what text → Fills (room - length text) (after points what) (drop next s) whole rest
      → Fills room points s whole (text ++ rest)

pub record Roomy (t : Tree) : Type 0 where
  pub points_room : 2048 ≤ length t.points
  pub indices_room : 1024 ≤ length t.indices
  pub boxes_room : 12288 ≤ length t.boxes
  pub links_room : 8192 ≤ length t.links

pub record Filled (t : Tree) (s out out' : List ℕ) (whole : Bool) (wrote : ℕ) : Type 0 where
  pub roomy : Roomy t
  pub text : List ℕ
  pub fills : Fills (length out) [] s whole text
  pub put : Put out 0 text out' wrote
  pub inside : wrote ≤ length out

pub record Refuses (t : Tree) (out : List ℕ) (t' : Tree) (out' : List ℕ) : Type 0 where
  pub too_short : Roomy t → ⊥
  pub same_work : t' ≡ t
  pub same_out : out' ≡ out

abbrev pub PrintedBy : List ℕ → Tree → List ℕ → Tree → List ℕ → Printed → Type 0
PrintedBy s t out t' out' (Whole wrote) = Filled t s out out' true wrote
PrintedBy s t out t' out' (Full wrote) = Filled t s out out' false wrote
PrintedBy s t out t' out' Short = Refuses t out t' out'
