-- The answer of the k-nearest query, way by way, in the terms in which its code meets them. Assumes nothing.
use Rattle.std.proofs.Common.{◌≡◌, refl, sym, ◌∙◌, subst, List, [], false, Result, Ok, ltb, eqb, ℕ, ◌≤◌, ◌<◌, lt-ltb, le-ltb, eq-eqb, ne_eqb}
use lib.Ieee.{Float}
use Rattle.distance.specs.declared.Coord.{Coord}
use Rattle.refusal.specs.declared.Refusal.{Refusal}
use Rattle.tree.specs.Accepted.{Tree}
use Rattle.search.specs.Refusal.{refusal, checked}
use Rattle.search.specs.Result.{none}
use Rattle.search.specs.Walk.{outcome, walk_all}
use Rattle.search.specs.Answer.{Answers}
use Rattle.search.proofs.Unrefused.{checked-ok}
use Rattle.k_nearest.specs.Query.{wanted, holding, probing, found, no_room, answer}

module _ (t : Tree) (q : Coord) (k room : ℕ) (is₀ : List ℕ) (ds₀ : List Float) where
  -- past the first refusals, with w hits to find
  module _ (u : Unit) (h : checked t.points q ≡ Ok u) (w : ℕ) (f : w ≡ wanted k t) where
    first : ltb 0 (refusal t.points q) ≡ false
    first = rw (checked-ok t.points q u h)

    pub at_none : w ≡ 0 → Answers (answer t q k room) is₀ ds₀ (Ok 0) is₀ ds₀
    at_none z = rw (first, eq-eqb (wanted k t) 0 (sym f ∙ z)) (record { kind = refl; tells = refl; leaves = record { roots = []; each_root = none; indices_are = refl; distances_are = refl } })

    module _ (some : w ≡ 0 → ⊥) (l : ℕ) (g : l ≡ room) (r : Result ℕ Refusal) (is : List ℕ) (ds : List Float) where
      second : eqb (wanted k t) 0 ≡ false
      second = ne_eqb (wanted k t) 0 (λ (z : wanted k t ≡ 0). some (f ∙ z))

      pub at-no_room : l < w → Answers (no_room w (outcome (walk_all t probing tt))) is₀ ds₀ r is ds → Answers (answer t q k room) is₀ ds₀ r is ds
      at-no_room o A =
          rw (first, second, lt-ltb room (wanted k t) (subst (λ (x : ℕ). x < wanted k t) g (subst (λ (x : ℕ). l < x) f o)))
          (subst (λ (x : ℕ). Answers (no_room x (outcome (walk_all t probing tt))) is₀ ds₀ r is ds) f A)

      pub at-walk : w ≤ l → Answers (found (outcome (walk_all t (holding w t.points q) []))) is₀ ds₀ r is ds → Answers (answer t q k room) is₀ ds₀ r is ds
      at-walk o A =
          rw (first, second, le-ltb room (wanted k t) (subst (λ (x : ℕ). wanted k t ≤ x) g (subst (λ (x : ℕ). x ≤ l) f o)))
          (subst (λ (x : ℕ). Answers (found (outcome (walk_all t (holding x t.points q) []))) is₀ ds₀ r is ds) f A)
