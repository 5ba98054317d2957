-- A stream taken piece by piece, in lent slices: what the contracts of `stream` ask and promise.
--   so_far p n               the points so far: the first n of a slice
--   Ready p n i b l fresh    at most 1,024 points, all finite, room for them and their tree; where it is fresh, the tree stands.
--                            A `Map` keeps it
--   Map                      what a contract sees of one: the points so far, and whether their tree stands
--   Kept p x y p' r          a point was kept after the points p, and r is no refusal; or it was refused by r's number
--   Replies what p o at o' w the query `what` over the points p was answered: its lines stand in o' from `at` on
--   Stepped ..               one record was taken
--   longest                  no record's lines are longer; none is taken where there is room for less
--   Takes room s from p text at q going   records of s from `from` on, the points so far p, printed text, each where `longest`
--                            of `room` bytes were left; then at is the place, q the points so far, and the stream goes on or not
--   Wants r                  no whole record was read
--   Ends stop s at left      why no further record was taken, with room for `left` bytes left: the room is tested first
--   on stop                  the stream goes on
--   FedBy ..                 what `feed` makes of a piece
use Rattle.std.specs.Prelude.{◌≡◌, List, [], ◌++◌, Bool, true, false, ℕ, ◌+◌, ◌-◌, ◌*◌, ◌≤◌, ◌<◌, length, take, Float, Result}
use Rattle.refusal.specs.Numbers.{done}
use Rattle.refusal.specs.declared.Refusal.{Refusal}
use Rattle.tree.specs.Points.{size, AllFinite}
use Rattle.tree.specs.Accepted.{tree, Accepted}
use Rattle.records.specs.Record.{read_at}
use Rattle.records.specs.declared.Record.{Record}
use Rattle.records.specs.declared.Record.TheVariants.{Point}
use Rattle.records.specs.declared.Read.{Read}
use Rattle.records.specs.declared.Read.TheVariants.{Whole, Cut, End}
use Rattle.text.specs.Line.{Put}
use Rattle.stream.specs.declared.Fed.{Fed}
use Rattle.stream.specs.declared.Stop.{Stop}
use Rattle.stream.specs.declared.Stop.TheVariants.{Hungry, Full, Done}
use Rattle.stream.specs.Prints.{limit_points, keep_number, Prints}
use Rattle.stream.specs.Stream.{after, goes}

abbrev pub so_far : List Float → ℕ → List Float
so_far p n = take (2 * n) p

pub record Ready (p : List Float) (n : ℕ) (indices : List ℕ) (boxes : List Float) (links : List ℕ) (fresh : Bool) : Type 0 where
  pub few : n ≤ limit_points
  pub points_room : 2048 ≤ length p
  pub indices_room : 1024 ≤ length indices
  pub boxes_room : 12288 ≤ length boxes
  pub links_room : 8192 ≤ length links
  pub all_finite : AllFinite (so_far p n)
  pub stands : fresh ≡ true → Accepted (tree (so_far p n) indices boxes links)

pub record Map : Type 0 where
  pub points : List Float
  pub fresh : Bool

pub record Kept (p : List Float) (x y : Float) (p' : List Float) (r : Result Unit Refusal) : Type 0 where
  pub number : (done r).number ≡ keep_number (size p) x y
  pub points : p' ≡ after p (Point x y)

abbrev pub longest : ℕ
longest = 32768

pub record Replies (what : Record) (p : List Float) (out : List ℕ) (at : ℕ) (out' : List ℕ) (wrote : ℕ) : Type 0 where
  pub text : List ℕ
  pub prints : Prints p what text
  pub short : length text ≤ longest
  pub put : Put out at text out' wrote

pub record Stepped (what : Record) (p : List Float) (out : List ℕ) (at : ℕ) (p' : List Float) (out' : List ℕ) (wrote : ℕ) (on : Bool) : Type 0 where
  pub replies : Replies what p out at out' wrote
  pub points : p' ≡ after p what
  pub going : on ≡ goes what

pub data Takes (room : ℕ) (s : List ℕ) (from : ℕ) (p : List Float) : List ℕ → ℕ → List Float → Bool → Type 0 where
  none : Takes room s from p [] from p true
  then : {t : List ℕ} {at next : ℕ} {q : List Float} (what : Record) (u : List ℕ) → Takes room s from p t at q true → length t + longest ≤ room
      → read_at s at ≡ Whole what next → Prints q what u → Takes room s from p (t ++ u) next (after q what) (goes what)

abbrev pub Wants : Read → Type 0
Wants (Whole what next) = ⊥
Wants Cut = Unit
Wants End = Unit

pub record Waits (s : List ℕ) (at left : ℕ) : Type 0 where
  pub wants : Wants (read_at s at)
  pub room : longest ≤ left

abbrev pub Ends : Stop → List ℕ → ℕ → ℕ → Type 0
Ends Hungry s at left = Waits s at left
Ends Full s at left = left < longest
Ends Done s at left = Unit

abbrev pub on : Stop → Bool
on Hungry = true
on Full = true
on Done = false

pub record FedBy (s : List ℕ) (from : ℕ) (p : List Float) (out : List ℕ) (p' : List Float) (out' : List ℕ) (f : Fed) : Type 0 where
  pub text : List ℕ
  pub takes : Takes (length out) s from p text f.used p' (on f.stop)
  pub ends : Ends f.stop s f.used (length out - f.wrote)
  pub put : Put out 0 text out' f.wrote
  pub inside : from ≤ length s → f.used ≤ length s
  pub room : f.wrote ≤ length out
