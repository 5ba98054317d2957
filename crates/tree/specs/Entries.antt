-- Lists of numbers by their entries, wherever they stand.
--   v ∈ xs         v stands in xs
--   Within n xs    every entry of xs is below n
--   Same xs ys     xs and ys have the same entries, each as often
--   swapped l i j  l with the entries i and j exchanged
use Rattle.std.specs.Prelude.{◌≡◌, List, ℕ, ◌<◌, get_or, set}
use Rattle.tree.specs.Accepted.{times}

infix 50 ◌∈◌
abbrev pub ◌∈◌ : ℕ → List ℕ → Type 0
v ∈ xs = 0 < times v xs

abbrev pub Within : ℕ → List ℕ → Type 0
Within n xs = (v : ℕ) → v ∈ xs → v < n

pub record Same (xs ys : List ℕ) : Type 0 where
  pub as_often : (v : ℕ) → times v xs ≡ times v ys

abbrev pub swapped : List ℕ → ℕ → ℕ → List ℕ
swapped l i j = set (set l i (get_or l j 0)) j (get_or l i 0)
