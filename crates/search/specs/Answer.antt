-- What a query that fills an index slice and a distance slice answers, and what it then leaves of them.
--   Answer                     a refusal with its detail, damage, or hits
--   telling a                  the number and the detail that go with it; of hits, how many
--   gives_hits r, has_hits a   it is hits, and no refusal
--   Leaves a is₀ ds₀ is ds     what the slices is₀ and ds₀ become: a refusal changes nothing, save that damage leaves zeros, whole
--   Answers a is₀ ds₀ r is ds  the answer a was given as r, and is and ds are what it leaves
use Rattle.std.specs.Prelude.{◌≡◌, List, Bool, true, false, ℕ, length, Float, Result, Ok, Err}
use Rattle.refusal.specs.declared.Refusal.{Refusal}
use Rattle.search.specs.Refusal.{Told, told}
use Rattle.search.specs.Result.{Written, zeros, float_zeros}
use Rattle.search.specs.declared.Best.{Best}

pub data Answer : Type 0 where
  refused : ℕ → ℕ → Answer
  damaged : Answer
  hits : List Best → Answer

abbrev pub telling : Answer → Told
telling (refused number detail) = record { number = number; detail = detail }
telling damaged = record { number = 9; detail = 0 }
telling (hits l) = record { number = 0; detail = length l }

abbrev pub gives_hits : Result ℕ Refusal → Bool
gives_hits (Ok n) = true
gives_hits (Err r) = false

abbrev pub has_hits : Answer → Bool
has_hits (refused number detail) = false
has_hits damaged = false
has_hits (hits l) = true

abbrev pub Leaves : Answer → List ℕ → List Float → List ℕ → List Float → Type 0
Leaves (refused number detail) is₀ ds₀ is ds = (is ≡ is₀) × (ds ≡ ds₀)
Leaves damaged is₀ ds₀ is ds = (is ≡ zeros is₀) × (ds ≡ float_zeros ds₀)
Leaves (hits l) is₀ ds₀ is ds = Written l is₀ is ds₀ ds

pub record Answers (a : Answer) (is₀ : List ℕ) (ds₀ : List Float) (r : Result ℕ Refusal) (is : List ℕ) (ds : List Float) : Type 0 where
  pub kind : gives_hits r ≡ has_hits a
  pub tells : told r ≡ telling a
  pub leaves : Leaves a is₀ ds₀ is ds
