-- The radius query: every point whose squared distance is at most radius * radius, by rising index.
--   within points q r2      the query, for the walk: its state is the hits so far
--   refused points q radius the first of 1, 2, 4 and 5 that applies; 0 where none does
--   Reply                   what the query comes to before room is asked: a refusal, damage, or its hits
--   reply t q radius        the reply of the query at q over the tree t
--   says a room             what the answer says to a reply, where there is room for so many hits
--   leaves a room is        what it leaves of an index slice that held is
--   Distances points q a room ds₀ ds  what it leaves of a distance slice
--   Answered a room is₀ r is  the answer r, and the index slice
--   InRoom ..               the same with a distance slice
--   WithDistances ..        the same where room is the shorter length of the two slices
use Rattle.std.specs.Prelude.{◌≡◌, Bool, true, false, cond, List, [], ◌++◌, map, ℕ, min, ltb, eqb, length, drop, Float, Result}
use Rattle.std.specs.Float.{binary64}
use Rattle.std.specs.Float.Ieee.{of_bits, lt, le}
use Rattle.distance.specs.Distance.{sq, bound, corner}
use Rattle.distance.specs.declared.Coord.{Coord}
use Rattle.refusal.specs.declared.Refusal.{Refusal}
use Rattle.tree.specs.Accepted.{Tree, count}
use Rattle.rising.specs.Sort.{insert}
use Rattle.search.specs.Walk.{Search, Got, broken, got, outcome, walk_all}
use Rattle.search.specs.Order.{point}
use Rattle.search.specs.Refusal.{refusal, Told, told}
use Rattle.search.specs.Result.{Roots, zeros, float_zeros}

-- a node is passed over where its bound is above r2, never at equality; a leaf is taken whole where its farthest corner is
-- within r2
abbrev pub within : List Float → Coord → Float → Search (List ℕ)
within points q r2 = record {
  skip = λ s b. lt r2 (bound q b);
  left_first = λ l r. true;
  next = λ s i. cond (le (point points q i).d2 r2) (insert i s) s;
  whole = λ b. le (corner q b) r2;
  add = λ s i. insert i s;
}

-- a NaN and a number below zero are not at least 0; -0 is
abbrev pub refused : List Float → Coord → Float → ℕ
refused points q radius = cond (eqb (refusal points q) 0) (cond (le (of_bits binary64 0) radius) 0 5) (refusal points q)

pub data Reply : Type 0 where
  refuses : ℕ → Reply
  damaged : Reply
  finds : List ℕ → Reply

abbrev pub reply_of : Got (List ℕ) → Reply
reply_of broken = damaged
reply_of (got hits) = finds hits

-- over no points there is no walk
abbrev pub reply : Tree → Coord → Float → Reply
reply t q radius =
    cond (eqb (refused t.points q radius) 0)
    (cond (eqb (count t) 0) (finds []) (reply_of (outcome (walk_all t (within t.points q (sq radius)) []))))
    (refuses (refused t.points q radius))

abbrev pub says : Reply → ℕ → Told
says (refuses number) room = record { number = number; detail = 0 }
says damaged room = record { number = 9; detail = 0 }
says (finds hits) room = record { number = cond (ltb room (length hits)) 8 0; detail = length hits }

abbrev pub leaves : Reply → ℕ → List ℕ → List ℕ
leaves (refuses number) room indices = indices
leaves damaged room indices = zeros indices
leaves (finds hits) room indices = cond (ltb room (length hits)) indices (hits ++ drop (length hits) indices)

abbrev pub squares : List Float → Coord → List ℕ → List Float
squares points q hits = map (λ (i : ℕ). (point points q i).d2) hits

pub record RootsInFront (squares distances₀ distances : List Float) : Type 0 where
  pub roots : List Float
  pub each_root : Roots squares roots
  pub are : distances ≡ roots ++ drop (length squares) distances₀

abbrev pub Unless : Bool → List Float → List Float → List Float → Type 0
Unless true squares distances₀ distances = distances ≡ distances₀
Unless false squares distances₀ distances = RootsInFront squares distances₀ distances

abbrev pub Distances : List Float → Coord → Reply → ℕ → List Float → List Float → Type 0
Distances points q (refuses number) room distances₀ distances = distances ≡ distances₀
Distances points q damaged room distances₀ distances = distances ≡ float_zeros distances₀
Distances points q (finds hits) room distances₀ distances = Unless (ltb room (length hits)) (squares points q hits) distances₀ distances

pub record Answered (a : Reply) (room : ℕ) (indices₀ : List ℕ) (r : Result ℕ Refusal) (indices : List ℕ) : Type 0 where
  pub told_is : told r ≡ says a room
  pub indices_are : indices ≡ leaves a room indices₀

pub record InRoom (points : List Float) (q : Coord) (a : Reply) (room : ℕ) (indices₀ : List ℕ) (distances₀ : List Float) (r : Result ℕ Refusal) (indices : List ℕ) (distances : List Float) : Type 0 where
  pub answered : Answered a room indices₀ r indices
  pub distances_are : Distances points q a room distances₀ distances

abbrev pub WithDistances : List Float → Coord → Reply → List ℕ → List Float → Result ℕ Refusal → List ℕ → List Float → Type 0
WithDistances points q a indices₀ distances₀ r indices distances = InRoom points q a (min (length indices₀) (length distances₀)) indices₀ distances₀ r indices distances
