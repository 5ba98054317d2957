-- One outcome per input: any two answers that the definition permits for one input are equal, and so are the slices that
-- they leave, distances being floats of 64 bits. By the root's own uniqueness. Assumes nothing.
use mathlib.Core.Path.{◌≡◌, sym, ap, ◌∙◌, subst}
use mathlib.Core.Bool.{Bool, true, false}
use mathlib.Core.List.{List, ◌++◌}
use Prim.Native.Nat.{ℕ, min}
use lib.Dec.{ltb}
use lib.Ieee.{Float}
use lib.ListN.{length, drop}
use Rattle.distance.specs.declared.Coord.{Coord}
use Rattle.search.specs.Refusal.{Told, told}
use Rattle.std.proofs.Common.{Result, Ok, Err}
use Rattle.refusal.specs.declared.Refusal.{Refusal}
use Rattle.refusal.proofs.Same.{same-refusal, number-nonzero}
use Rattle.search.proofs.Written.{Held, held-front, roots_unique}
use Rattle.radius.specs.Within.{Reply, refuses, damaged, finds, squares, RootsInFront, Unless, Distances, Answered, InRoom, WithDistances}

-- an answer is known by what it tells, for a refusal has a number
told_unique : (r s : Result ℕ Refusal) → told r ≡ told s → r ≡ s
told_unique (Ok n) (Ok m) e = ap (λ (x : Told). Ok x.detail) e
told_unique (Ok n) (Err d) e = absurd (number-nonzero d (sym (ap (λ (x : Told). x.number) e)))
told_unique (Err d) (Ok n) e = absurd (number-nonzero d (ap (λ (x : Told). x.number) e))
told_unique (Err c) (Err d) e = ap (λ (x : Refusal). Err x) (same-refusal c d (ap (λ (x : Told). x.number) e) (ap (λ (x : Told). x.detail) e))

pub record SameIndices (r s : Result ℕ Refusal) (is js : List ℕ) : Type 0 where
  pub same_answer : r ≡ s
  pub same_indices : is ≡ js

pub answered_unique : (a : Reply) (room : ℕ) (is₀ : List ℕ) (r s : Result ℕ Refusal) (is js : List ℕ) → Answered a room is₀ r is → Answered a room is₀ s js → SameIndices r s is js
answered_unique a room is₀ r s is js A B = record {
  same_answer = told_unique r s (A.told_is ∙ sym B.told_is);
  same_indices = A.indices_are ∙ sym B.indices_are;
}

in_front_unique : (squares ds₀ ds es : List Float) → Held ds → Held es → RootsInFront squares ds₀ ds → RootsInFront squares ds₀ es → ds ≡ es
in_front_unique squares ds₀ ds es f g R S =
    let e = roots_unique R.each_root S.each_root (held-front R.roots (drop (length squares) ds₀) (subst Held R.are f)) (held-front S.roots (drop (length squares) ds₀) (subst Held S.are g)) in
    R.are ∙ ap (λ (x : List Float). x ++ drop (length squares) ds₀) e ∙ sym S.are

distances_unique : (points : List Float) (q : Coord) (a : Reply) (room : ℕ) (ds₀ ds es : List Float) → Held ds → Held es → Distances points q a room ds₀ ds → Distances points q a room ds₀ es → ds ≡ es
distances_unique points q (refuses k) room ds₀ ds es f g D E = D ∙ sym E
distances_unique points q damaged room ds₀ ds es f g D E = D ∙ sym E
distances_unique points q (finds l) room ds₀ ds es f g D E = go (ltb room (length l)) D E
  where
    go : (b : Bool) → Unless b (squares points q l) ds₀ ds → Unless b (squares points q l) ds₀ es → ds ≡ es
    go true D E = D ∙ sym E
    go false D E = in_front_unique (squares points q l) ds₀ ds es f g D E

pub record SameAll (r s : Result ℕ Refusal) (is js : List ℕ) (ds es : List Float) : Type 0 where
  pub same_front : SameIndices r s is js
  pub same_distances : ds ≡ es

pub in_room_unique : (points : List Float) (q : Coord) (a : Reply) (room : ℕ) (is₀ : List ℕ) (ds₀ : List Float) (r s : Result ℕ Refusal) (is js : List ℕ) (ds es : List Float) → Held ds → Held es
    → InRoom points q a room is₀ ds₀ r is ds → InRoom points q a room is₀ ds₀ s js es → SameAll r s is js ds es
in_room_unique points q a room is₀ ds₀ r s is js ds es f g A B = record {
  same_front = answered_unique a room is₀ r s is js A.answered B.answered;
  same_distances = distances_unique points q a room ds₀ ds es f g A.distances_are B.distances_are;
}

pub with_distances_unique : (points : List Float) (q : Coord) (a : Reply) (is₀ : List ℕ) (ds₀ : List Float) (r s : Result ℕ Refusal) (is js : List ℕ) (ds es : List Float) → Held ds → Held es
    → WithDistances points q a is₀ ds₀ r is ds → WithDistances points q a is₀ ds₀ s js es → SameAll r s is js ds es
with_distances_unique points q a is₀ ds₀ = in_room_unique points q a (min (length is₀) (length ds₀)) is₀ ds₀
