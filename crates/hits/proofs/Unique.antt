-- One outcome per input: any two answers that the definition permits for one input are equal, and so are the three slices
-- that they leave, distances being floats of 64 bits. By the radius query's own uniqueness, for the records are a function of
-- the answer and of the two slices. Assumes nothing.
use mathlib.Core.Path.{◌≡◌, sym, ap, ◌∙◌}
use mathlib.Core.List.{List}
use Prim.Native.Nat.{ℕ}
use lib.Ieee.{Float}
use Rattle.distance.specs.declared.Coord.{Coord}
use Rattle.std.proofs.Common.{Result}
use Rattle.refusal.specs.declared.Refusal.{Refusal}
use Rattle.search.proofs.Written.{Held}
use Rattle.radius.specs.Within.{Reply}
use Rattle.radius.proofs.Unique.{SameAll, in_room_unique}
use Rattle.hits.specs.declared.Hit.{Hit}
use Rattle.hits.specs.Records.{recorded, InRecords}

pub record SameRecords (r s : Result ℕ Refusal) (is js : List ℕ) (ds es : List Float) (hs ks : List Hit) : Type 0 where
  pub same_slices : SameAll r s is js ds es
  pub same_hits : hs ≡ ks

pub in_records_unique : (points : List Float) (q : Coord) (a : Reply) (is₀ : List ℕ) (ds₀ : List Float) (hs₀ : List Hit) (r s : Result ℕ Refusal) (is js : List ℕ) (ds es : List Float) (hs ks : List Hit) → Held ds → Held es
    → InRecords points q a is₀ ds₀ hs₀ r is ds hs → InRecords points q a is₀ ds₀ hs₀ s js es ks → SameRecords r s is js ds es hs ks
in_records_unique points q a is₀ ds₀ hs₀ r s is js ds es hs ks f g A B =
    let same = in_room_unique points q a _ is₀ ds₀ r s is js ds es f g A.in_room B.in_room in
    record {
      same_slices = same;
      same_hits =
          A.hits_are
          ∙ ap (λ (x : Result ℕ Refusal). recorded x is ds hs₀) same.same_front.same_answer
          ∙ ap (λ (l : List ℕ). recorded s l ds hs₀) same.same_front.same_indices
          ∙ ap (λ (l : List Float). recorded s js l hs₀) same.same_distances
          ∙ sym B.hits_are;
    }
