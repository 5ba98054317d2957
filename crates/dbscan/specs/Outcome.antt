-- What `dbscan` answers, by the table of refusals, and what it leaves of every slice.
--   labelled           labels are given
--   leaf_size          of the tree that is built
--   verdict plan ..    what is told where the build would tell plan: its 1, 2 and 3 come first, 5 before its 6 and 7, and
--                      8 last, for fewer than n labels and then for fewer than 2 n entries of work
--   Due points epsilon indices boxes links labels work a
--                      a is due over slices of these lengths
--   Slices             the tree's slices with the points, the labels, the work slice
--   quiet n m          min_samples is 0 or above n
--   Answer epsilon m s₀ s   what is left of s₀ where labels are given: the first n labels are those of the definition. Where
--                      all is noise, only they are written. Else the tree is as the build leaves it and the first 2 n
--                      entries of the work slice are 0. Entries past these are as they were.
--   Outcome epsilon m s₀ a s  a is due over s₀; and s is what is left of it, or all of it unchanged where it is refused
-- Ruled out so: a labelling that refuses whatever it is given; one that finishes one cluster and calls the rest noise, since
-- cores that a chain joins share a label and each core has one; one that leaves the work slice as it happens to be.
use Rattle.std.specs.Prelude.{◌≡◌, Bool, true, false, not, ◌&&◌, ◌||◌, cond, List, ◌++◌, ℕ, ◌*◌, eqb, ltb, length, take, drop, replicate, Float}
use Rattle.std.specs.Float.{binary64}
use Rattle.std.specs.Float.Ieee.{of_bits, le}
use Rattle.refusal.specs.Numbers.{Told, given, refused}
use Rattle.tree.specs.Points.{size}
use Rattle.tree.specs.Accepted.{Tree, count}
use Rattle.labels.specs.Labels.{near, Labelled}
use Rattle.build.specs.Built.{Built}
use Rattle.build.specs.Outcome as build

abbrev pub labelled : Told
labelled = given 0

abbrev pub leaf_size : ℕ
leaf_size = 16

-- a NaN and a number below zero are not at least 0; -0 is
abbrev pub verdict : Told → Float → ℕ → ℕ → ℕ → Told
verdict plan epsilon n labels work =
    cond (not plan.given && ltb plan.number 5) (refused plan.number plan.detail)
    (cond (not (le (of_bits binary64 0) epsilon)) (refused 5 0)
    (cond (not plan.given) (refused plan.number plan.detail)
    (cond (ltb labels n) (refused 8 n)
    (cond (ltb work (2 * n)) (refused 8 (2 * n)) labelled))))

pub record Due (points : List Float) (epsilon : Float) (indices boxes links labels work : ℕ) (a : Told) : Type 0 where
  pub plan : Told
  pub planned : build.Due leaf_size points indices boxes links plan
  pub told_is : a ≡ verdict plan epsilon (size points) labels work

pub record Slices : Type 0 where
  pub tree : Tree
  pub labels : List ℕ
  pub work : List ℕ

abbrev pub slices : Tree → List ℕ → List ℕ → Slices
slices tree labels work = record { tree = tree; labels = labels; work = work }

abbrev pub quiet : ℕ → ℕ → Bool
quiet n m = eqb m 0 || ltb n m

pub record Quiet (s₀ s : Slices) : Type 0 where
  pub tree_is : s.tree ≡ s₀.tree
  pub work_is : s.work ≡ s₀.work

pub record Busy (s₀ s : Slices) : Type 0 where
  pub tree_is : Built leaf_size s₀.tree s.tree
  pub work_is : s.work ≡ replicate (2 * count s₀.tree) 0 ++ drop (2 * count s₀.tree) s₀.work

pub record Answer (epsilon : Float) (m : ℕ) (s₀ s : Slices) : Type 0 where
  pub labels_are : Labelled (near s₀.tree.points epsilon) (count s₀.tree) m (take (count s₀.tree) s.labels)
  pub labels_past : drop (count s₀.tree) s.labels ≡ drop (count s₀.tree) s₀.labels
  pub if_quiet : quiet (count s₀.tree) m ≡ true → Quiet s₀ s
  pub if_busy : quiet (count s₀.tree) m ≡ false → Busy s₀ s

pub record Outcome (epsilon : Float) (m : ℕ) (s₀ : Slices) (a : Told) (s : Slices) : Type 0 where
  pub due : Due s₀.tree.points epsilon (length s₀.tree.indices) (length s₀.tree.boxes) (length s₀.tree.links)
      (length s₀.labels) (length s₀.work) a
  pub answers : a.given ≡ true → Answer epsilon m s₀ s
  pub kept : a.given ≡ false → s ≡ s₀
