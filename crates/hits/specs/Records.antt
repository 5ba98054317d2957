-- The records of a radius query, beside its two slices.
--   hit i d                   the record of index i and distance d
--   pairs is ds               the records of two lists, side by side, as far as both go
--   recorded r is ds hs       what the answer r leaves of records that held hs, the slices being is and ds by then
--   InRecords ..              the query's answer, and all three slices; room is the shortest of the three
use Rattle.std.specs.Prelude.{◌≡◌, cond, List, [], ◌∷◌, ◌++◌, ℕ, min, eqb, length, take, drop, replicate, Float, Result, Ok, Err}
use Rattle.std.specs.Float.{binary64}
use Rattle.std.specs.Float.Ieee.{of_bits}
use Rattle.distance.specs.declared.Coord.{Coord}
use Rattle.refusal.specs.Numbers.{number}
use Rattle.refusal.specs.declared.Refusal.{Refusal}
use Rattle.radius.specs.Within.{Reply, InRoom}
use Rattle.hits.specs.declared.Hit.{Hit}

abbrev pub hit : ℕ → Float → Hit
hit i d = record { index = i; distance = d }

abbrev pub pairs : List ℕ → List Float → List Hit
pairs [] ds = []
pairs (i ∷ is) [] = []
pairs (i ∷ is) (d ∷ ds) = hit i d ∷ pairs is ds

abbrev pub recorded : Result ℕ Refusal → List ℕ → List Float → List Hit → List Hit
recorded (Ok n) indices distances hits = pairs (take n indices) (take n distances) ++ drop n hits
recorded (Err refusal) indices distances hits = cond (eqb (number refusal) 9) (replicate (length hits) (hit 0 (of_bits binary64 0))) hits

pub record InRecords (points : List Float) (q : Coord) (a : Reply) (indices₀ : List ℕ) (distances₀ : List Float) (hits₀ : List Hit) (r : Result ℕ Refusal) (indices : List ℕ) (distances : List Float) (hits : List Hit) : Type 0 where
  pub in_room : InRoom points q a (min (length hits₀) (min (length indices₀) (length distances₀))) indices₀ distances₀ r indices distances
  pub hits_are : hits ≡ recorded r indices distances hits₀
