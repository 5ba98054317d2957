-- Squared distances are stored from the front on. Assumes nothing.
use mathlib.Core.Path.{◌≡◌, refl, sym, ap, ◌∙◌}
use mathlib.Core.List.{List, [], ◌∷◌, ◌++◌}
use Prim.Native.Nat.{ℕ, suc, ◌+◌, ◌<◌}
use native.Mathlib.Numerals.{add-one}
use native.Mathlib.Omega.{arith}
use lib.Ieee.{Float, nan}
use lib.ListN.{length, get_or, set, take, drop}
use lib.Seq.{take-suc, length-take-le}
use Rattle.distance.specs.declared.Coord.{Coord}
use Rattle.search.specs.Order.{point}
use Rattle.search.proofs.Fronts.{front-more}
use Rattle.radius.specs.Within.{squares}

module _ (points : List Float) (q : Coord) where
  pub squares-length : (l : List ℕ) → length (squares points q l) ≡ length l
  squares-length [] = refl
  squares-length (i ∷ is) = ap suc (squares-length is)

  squares_append : (l m : List ℕ) → squares points q (l ++ m) ≡ squares points q l ++ squares points q m
  squares_append [] m = refl
  squares_append (i ∷ is) m = ap (λ (z : List Float). (point points q i).d2 ∷ z) (squares_append is m)

  module _ (hits : List ℕ) (d₀ : List Float) (k : ℕ) (h : k < length hits) (m : k < length d₀) where
    pub squares-more : (d : List Float) → d ≡ squares points q (take k hits) ++ drop k d₀ → (v : Float) → v ≡ (point points q (get_or hits k 0)).d2
        → set d k v ≡ squares points q (take (k + 1) hits) ++ drop (k + 1) d₀
    squares-more d e v f =
        ap (λ (z : List Float). set z k v) e
        ∙ front-more (squares points q (take k hits)) d₀ nan v k (squares-length (take k hits) ∙ length-take-le k hits (omega arith)) m
        ∙ ap (λ (x : Float). (squares points q (take k hits) ++ (x ∷ [])) ++ drop (k + 1) d₀) f
        ∙ ap (λ (z : List Float). z ++ drop (k + 1) d₀) (sym (squares_append (take k hits) (get_or hits k 0 ∷ [])))
        ∙ ap (λ (z : List ℕ). squares points q z ++ drop (k + 1) d₀) (sym (take-suc hits k 0 h))
        ∙ ap (λ (j : ℕ). squares points q (take j hits) ++ drop (k + 1) d₀) (sym (add-one k))
