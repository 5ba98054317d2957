-- The nearest point: the least squared distance, then the least index.
--   rules            of the query, by squared distances: its state is the best so far
--   better s p       s, unless p is to take its place: only one that stands before p keeps it out
--   nearest points q the query of the walk
--   none             before any point: farther than all, with an index that is none
--   Reply            what a query comes to: a hit, no point, or a refusal by number
--   near t q         by the walk over the tree
--   near_scan t q    by the plain scan of the points
--   Told, told r     an answer in numbers: whether it is one or a refusal, the table's number, the detail, and the hits
--   Says reply told  an answer says what a query comes to, the distance being the root of the squared one
--   Answers t q a    what the answer to a query at q over t may say: the refusals in order, or what the walk finds
use Rattle.std.specs.Prelude.{◌≡◌, Bool, true, false, cond, List, [], ◌∷◌, ℕ, eqb, Float}
use Rattle.std.specs.Float.{inf}
use Rattle.std.specs.Float.Ieee.{lt}
use Rattle.distance.specs.declared.Coord.{Coord}
use Rattle.tree.specs.Accepted.{Tree, count}
use Rattle.refusal.specs.Numbers as code
use Rattle.search.specs.Walk.{Search, Walk, damage, done, walk_all, plain}
use Rattle.search.specs.Rules.{Rules, searching}
use Rattle.search.specs.Order.{before}
use Rattle.search.specs.Refusal.{refusal}
use Rattle.search.specs.Result.{Roots, indices_of, squares_of}
use Rattle.search.specs.declared.Best.{Best}
use Rattle.nearest.specs.declared.Nearest.{Nearest}
use Rattle.nearest.specs.declared.Nearest.TheVariants.{Hit, Empty, Refused}

abbrev pub better : Best → Best → Best
better s p = cond (before s p) s p

-- no leaf is taken whole
abbrev pub rules : Rules Best
rules = record {
  nearer_first = true;
  skip = λ s b. lt s.d2 b;
  next = better;
  whole = λ b. false;
  add = better;
}

abbrev pub nearest : List Float → Coord → Search Best
nearest points q = searching rules points q

abbrev pub none : Best
none = record { d2 = inf false; index = 4_294_967_295 }

pub data Reply : Type 0 where
  hit : Best → Reply
  empty : Reply
  refused : ℕ → Reply

abbrev pub answer : Walk Best → Reply
answer damage = refused 9
answer (done s n d) = hit s

-- 1, 2 and 4 come first, then a tree of no points
abbrev pub replied : Tree → Coord → Reply → Reply
replied t q r = cond (eqb (refusal t.points q) 0) (cond (eqb (count t) 0) empty r) (refused (refusal t.points q))

abbrev pub near : Tree → Coord → Reply
near t q = replied t q (answer (walk_all t (nearest t.points q) none))

abbrev pub near_scan : Tree → Coord → Reply
near_scan t q = replied t q (hit (plain (nearest t.points q).next none (count t)))

pub record Told : Type 0 where
  pub answered : Bool
  pub number : ℕ
  pub detail : ℕ
  pub indices : List ℕ
  pub distances : List Float

abbrev pub told : Nearest → Told
told (Hit i d) = record { answered = true; number = 0; detail = 0; indices = i ∷ []; distances = d ∷ [] }
told Empty = record { answered = true; number = 0; detail = 0; indices = []; distances = [] }
told (Refused r) = record { answered = false; number = code.number r; detail = code.detail r; indices = []; distances = [] }

abbrev pub hits_of : Reply → List Best
hits_of (hit s) = s ∷ []
hits_of empty = []
hits_of (refused n) = []

abbrev pub answered_by : Reply → Bool
answered_by (hit s) = true
answered_by empty = true
answered_by (refused n) = false

abbrev pub number_of : Reply → ℕ
number_of (hit s) = 0
number_of empty = 0
number_of (refused n) = n

pub record Says (r : Reply) (a : Told) : Type 0 where
  pub answered_is : a.answered ≡ answered_by r
  pub number_is : a.number ≡ number_of r
  pub detail_is : a.detail ≡ 0
  pub indices_are : a.indices ≡ indices_of (hits_of r)
  pub distances_are : Roots (squares_of (hits_of r)) a.distances

abbrev pub Answers : Tree → Coord → Told → Type 0
Answers t q a = Says (near t q) a
