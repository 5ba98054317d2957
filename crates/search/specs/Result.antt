-- What a query that fills an index slice and a distance slice leaves of them.
--   Roots ds rs             each of rs is the square root of the number at its place in ds
--   indices_of, squares_of  the indices of some hits, and their squared distances
--   Rooted n ds₀ ds         the first n entries became their roots, and the others are as they were
--   Written hits is₀ is ds₀ ds  the hits stand in front, in order, and entries past them are as they were
--   zeros l, float_zeros l  as many zeros as l has entries; of floats +0
use Rattle.std.specs.Prelude.{◌≡◌, List, [], ◌∷◌, ◌++◌, map, ℕ, length, take, drop, replicate, Float}
use Rattle.std.specs.Float.{binary64}
use Rattle.std.specs.Float.Ieee.{of_bits}
use Rattle.root.specs.Root.{Root}
use Rattle.search.specs.declared.Best.{Best}

pub data Roots : List Float → List Float → Type 0 where
  none : Roots [] []
  more : {d r : Float} {ds rs : List Float} → Root d r → Roots ds rs → Roots (d ∷ ds) (r ∷ rs)

pub record Rooted (n : ℕ) (distances₀ distances : List Float) : Type 0 where
  pub roots : List Float
  pub each_root : Roots (take n distances₀) roots
  pub are : distances ≡ roots ++ drop n distances₀

abbrev pub indices_of : List Best → List ℕ
indices_of hits = map (λ (s : Best). s.index) hits

abbrev pub squares_of : List Best → List Float
squares_of hits = map (λ (s : Best). s.d2) hits

pub record Written (hits : List Best) (indices₀ indices : List ℕ) (distances₀ distances : List Float) : Type 0 where
  pub roots : List Float
  pub each_root : Roots (squares_of hits) roots
  pub indices_are : indices ≡ indices_of hits ++ drop (length hits) indices₀
  pub distances_are : distances ≡ roots ++ drop (length hits) distances₀

abbrev pub zeros : List ℕ → List ℕ
zeros l = replicate (length l) 0

abbrev pub float_zeros : List Float → List Float
float_zeros l = replicate (length l) (of_bits binary64 0)
