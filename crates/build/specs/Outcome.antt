-- What a build answers, by the table of refusals, and what it does to the slices. An answer in numbers gives how many nodes.
--   Given leaf_size points indices boxes links
--                   no row of the table applies, over slices of these lengths
--   Due leaf_size points indices boxes links a
--                   a is due over slices of these lengths: the lowest refusal that applies, or N(n) nodes where none does
--   Outcome leaf_size t₀ a t
--                   a is due over t₀; and t is what is built of it, or all of t₀ unchanged where it is refused
-- A node slice of a length holds length / 6 whole nodes (boxes), length / 4 (links).
-- Ruled out so: a build that refuses whatever it is given, since each row has its condition; and one that writes nothing and
-- says that it built, since node 0 of what is built covers all n.
use Rattle.std.specs.Prelude.{◌≡◌, ◌⊎◌, true, false, ℕ, ◌/◌, ◌%◌, ◌<◌, ◌≤◌, List, length, Float}
use Rattle.refusal.specs.Numbers.{Told, given, refused}
use Rattle.tree.specs.Points.{limit, size, FirstBad, Usable}
use Rattle.tree.specs.Accepted.{Tree}
use Rattle.build.specs.Built.{needed, Built}

pub record Given (leaf_size : ℕ) (points : List Float) (indices boxes links : ℕ) : Type 0 where
  pub usable : Usable points
  pub room : size points ≤ indices
  pub floats : needed leaf_size points ≤ boxes / 6
  pub numbers : needed leaf_size points ≤ links / 4

pub data Due (leaf_size : ℕ) (points : List Float) (indices boxes links : ℕ) : Told → Type 0 where
  odd : length points % 2 ≡ 1 → Due leaf_size points indices boxes links (refused 1 0)
  many : length points % 2 ≡ 0 → limit < size points → Due leaf_size points indices boxes links (refused 2 0)
  not_finite : {i : ℕ} → length points % 2 ≡ 0 → size points ≤ limit → i < size points → FirstBad points i
      → Due leaf_size points indices boxes links (refused 3 i)
  few_indices : Usable points → indices < size points → Due leaf_size points indices boxes links (refused 6 (size points))
  few_nodes : Usable points → size points ≤ indices → (boxes / 6 < needed leaf_size points) ⊎ (links / 4 < needed leaf_size points)
      → Due leaf_size points indices boxes links (refused 7 (needed leaf_size points))
  allowed : Given leaf_size points indices boxes links → Due leaf_size points indices boxes links (given (needed leaf_size points))

pub record Outcome (leaf_size : ℕ) (t₀ : Tree) (a : Told) (t : Tree) : Type 0 where
  pub due : Due leaf_size t₀.points (length t₀.indices) (length t₀.boxes) (length t₀.links) a
  pub built : a.given ≡ true → Built leaf_size t₀ t
  pub kept : a.given ≡ false → t ≡ t₀
