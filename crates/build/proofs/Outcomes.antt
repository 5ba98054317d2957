-- Where no refusal is given the slices have room. Assumes nothing.
use mathlib.Core.Path.{◌≡◌, sym, subst}
use mathlib.Core.Bool.{true, false}
use mathlib.Core.List.{List}
use Prim.Native.Nat.{ℕ}
use lib.Dec.{T}
use lib.Ieee.{Float}
use Rattle.refusal.specs.Numbers.{Told}
use Rattle.build.specs.Outcome.{Given, Due, odd, many, not_finite, few_indices, few_nodes, allowed}

pub true_false : true ≡ false → ⊥
true_false e = subst T e tt

pub false_true : false ≡ true → ⊥
false_true e = true_false (sym e)

module _ (ls : ℕ) (points : List Float) (i b k : ℕ) where
  pub given_of : (a : Told) → a.given ≡ true → Due ls points i b k a → Given ls points i b k
  given_of a e (odd h) = absurd (false_true e)
  given_of a e (many h l) = absurd (false_true e)
  given_of a e (not_finite h l g f) = absurd (false_true e)
  given_of a e (few_indices u h) = absurd (false_true e)
  given_of a e (few_nodes u h s) = absurd (false_true e)
  given_of a e (allowed g) = g
