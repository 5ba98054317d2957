-- What the check of a tree answers.
--   Due t a        a is due to the tree t: the lowest refusal that applies, by its number and its detail, or acceptance where none does
--   Answers t r    the answer r tells what is due to t
-- Ruled out so: a check that accepts every tree, since acceptance is due to accepted ones alone; and one that refuses every tree,
-- since 9 is due only to those that are not accepted.
use Rattle.std.specs.Prelude.{◌≡◌, ℕ, ◌%◌, ◌≤◌, ◌<◌, length, Result}
use Rattle.refusal.specs.declared.Refusal.{Refusal}
use Rattle.refusal.specs.Numbers.{Told, given, refused, done}
use Rattle.tree.specs.Points.{limit, AllFinite, FirstBad}
use Rattle.tree.specs.Accepted.{Tree, count, Accepted}

pub data Due (t : Tree) : Told → Type 0 where
  sound : Accepted t → Due t (given 0)
  odd : length t.points % 2 ≡ 1 → Due t (refused 1 0)
  many : length t.points % 2 ≡ 0 → limit < count t → Due t (refused 2 0)
  not_finite : {i : ℕ} → length t.points % 2 ≡ 0 → count t ≤ limit → i < count t → FirstBad t.points i → Due t (refused 3 i)
  not_accepted : length t.points % 2 ≡ 0 → count t ≤ limit → AllFinite t.points → (Accepted t → ⊥) → Due t (refused 9 0)

abbrev pub Answers : Tree → Result Unit Refusal → Type 0
Answers t r = Due t (done r)
