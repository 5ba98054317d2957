-- An entry's answer as C has it: a number that is returned, 0 or a refusal's, and a second number in a cell.
--   Flat P number_of second_of number second
--                            some answer that the entry's own promise P allows was given as these two numbers
--   cell number zero new old what a cell holds afterwards: zero on a 9; else the new value, where there is one; else the old
--   Checks t number detail   the tree check, of t
--   HitCells t q i₀ d₀ a i d nearest's own promise of an answer that tells a; and its index and distance, in two cells
--   Nears t q i₀ d₀ number count i d
--                            nearest, at q over t; the count is of hits, and so 0 on a refusal, as its detail is
--   Builds leaf_size t₀ number detail t
--                            the build of t₀, which left t
--   Fills P number count     a query that fills slices and promises P of its answer
--   KNears t q k is₀ ds₀ number count is ds
--                            k-nearest: the two slices before and after
--   Within t q radius is₀ ds₀ number count is ds
--                            radius
--   WithinIndices t q radius is₀ number count is
--                            radius, indices alone
--   Labels epsilon m s₀ number detail s
--                            the labelling: all its slices before and after
use Rattle.std.specs.Prelude.{◌≡◌, cond, List, [], ◌∷◌, ℕ, min, eqb, length, Float, Result}
use Rattle.std.specs.Float.{binary64}
use Rattle.std.specs.Float.Ieee.{of_bits}
use Rattle.distance.specs.declared.Coord.{Coord}
use Rattle.tree.specs.Accepted.{Tree}
use Rattle.accept.specs.Answer as check
use Rattle.build.specs.Outcome as build
use Rattle.dbscan.specs.Outcome as label
use Rattle.nearest.specs.Nearest as near
use Rattle.refusal.specs.declared.Refusal.{Refusal}
use Rattle.refusal.specs.Numbers as code
use Rattle.search.specs.Refusal.{told}
use Rattle.search.specs.Answer.{Answers}
use Rattle.k_nearest.specs.Query.{answer}
use Rattle.radius.specs.Within.{reply, Answered, WithDistances}

pub record Flat {A : Type 0} (P : A → Type 0) (number_of second_of : A → ℕ) (number second : ℕ) : Type 0 where
  pub answer : A
  pub promised : P answer
  pub number_is : number ≡ number_of answer
  pub second_is : second ≡ second_of answer

abbrev pub Checks : Tree → ℕ → ℕ → Type 0
Checks t number detail = Flat (check.Answers t) (λ a. (code.done a).number) (λ a. (code.done a).detail) number detail

abbrev pub cell : {A : Type 0} → ℕ → A → List A → A → A
cell number zero [] old = cond (eqb number 9) zero old
cell number zero (new ∷ more) old = cond (eqb number 9) zero new

pub record HitCells (t : Tree) (q : Coord) (index₀ : ℕ) (distance₀ : Float) (a : near.Told) (index : ℕ) (distance : Float) : Type 0 where
  pub answers : near.Answers t q a
  pub index_is : index ≡ cell a.number 0 a.indices index₀
  pub distance_is : distance ≡ cell a.number (of_bits binary64 0) a.distances distance₀

abbrev pub Nears : Tree → Coord → ℕ → Float → ℕ → ℕ → ℕ → Float → Type 0
Nears t q index₀ distance₀ number count index distance =
    Flat (λ a. HitCells t q index₀ distance₀ (near.told a) index distance) (λ a. (near.told a).number) (λ a. length (near.told a).indices) number count

abbrev pub Builds : ℕ → Tree → ℕ → ℕ → Tree → Type 0
Builds leaf_size t₀ number detail t =
    Flat (λ a. build.Outcome leaf_size t₀ (code.told a) t) (λ a. (code.told a).number) (λ a. (code.told a).detail) number detail

abbrev pub Fills : (Result ℕ Refusal → Type 0) → ℕ → ℕ → Type 0
Fills P number count = Flat P (λ a. (told a).number) (λ a. (told a).detail) number count

abbrev pub KNears : Tree → Coord → ℕ → List ℕ → List Float → ℕ → ℕ → List ℕ → List Float → Type 0
KNears t q k indices₀ distances₀ number count indices distances =
    Fills (λ a. Answers (answer t q k (min (length indices₀) (length distances₀))) indices₀ distances₀ a indices distances) number count

abbrev pub Within : Tree → Coord → Float → List ℕ → List Float → ℕ → ℕ → List ℕ → List Float → Type 0
Within t q radius indices₀ distances₀ number count indices distances =
    Fills (λ a. WithDistances t.points q (reply t q radius) indices₀ distances₀ a indices distances) number count

abbrev pub WithinIndices : Tree → Coord → Float → List ℕ → ℕ → ℕ → List ℕ → Type 0
WithinIndices t q radius indices₀ number count indices =
    Fills (λ a. Answered (reply t q radius) (length indices₀) indices₀ a indices) number count

abbrev pub Labels : Float → ℕ → label.Slices → ℕ → ℕ → label.Slices → Type 0
Labels epsilon m s₀ number detail s =
    Flat (λ a. label.Outcome epsilon m s₀ (code.done a) s) (λ a. (code.done a).number) (λ a. (code.done a).detail) number detail
