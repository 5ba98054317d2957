-- One outcome per input: any two that the contract permits have the same answer, the same labels and the same work slice, and
-- trees that are one but for what a build leaves free (`outcome-one`). The labels are the only ones that the definition allows
-- (`outcome-labels`); where min_samples is 0 or above n they are noise (`outcome-noise`); labels are given where no row of the
-- refusals applies (`outcome-answers`). By the build's own theorems and the uniqueness of the labels. Assumes nothing.
use mathlib.Core.Path.{◌≡◌, refl, sym, ap, ◌∙◌}
use mathlib.Core.Logic.{◌⊎◌, inl, inr}
use mathlib.Core.Bool.{Bool, true, false}
use mathlib.Core.List.{List, ◌++◌}
use Prim.Native.Nat.{ℕ, ◌*◌}
use lib.Dec.{T}
use lib.ListN.{length, take, drop, replicate, take-append-drop}
use lib.Ieee.{Float, binary64, of_bits, le}
use borrow.Author.Tests.{le-ltb}
use Rattle.tree.specs.Points.{size}
use Rattle.tree.specs.Accepted.{count}
use Rattle.labels.specs.Labels.{noise, near, Labelled}
use Rattle.labels.proofs.Unique.{labels_unique, labels-none}
use Rattle.build.specs.Outcome as build
use Rattle.build.specs.Agree.{Held, Agree}
use Rattle.build.proofs.Once as built
use Rattle.build.proofs.Unique.{built_agree}
use Rattle.refusal.specs.Numbers.{Told}
use Rattle.dbscan.specs.Outcome.{labelled, leaf_size, verdict, Due, Slices, quiet, Answer, Outcome}
use Rattle.dbscan.proofs.Verdicts.{Ready}
use Rattle.dbscan.proofs.Ends.{quiet_cases}

module _ (points : List Float) (epsilon : Float) (i b k labels work : ℕ) where
  pub due-one : {a c : Told} → Due points epsilon i b k labels work a → Due points epsilon i b k labels work c → a ≡ c
  due-one d e =
      d.told_is
      ∙ ap (λ (p : Told). verdict p epsilon (size points) labels work) (built.due-one leaf_size points i b k d.planned e.planned)
      ∙ sym e.told_is

  -- where no row applies, labels are due
  pub due-answer : {a : Told} → Ready points epsilon i b k labels work → Due points epsilon i b k labels work a → a ≡ labelled
  due-answer R d =
      d.told_is
      ∙ ap (λ (p : Told). verdict p epsilon (size points) labels work) (built.due-one leaf_size points i b k d.planned (build.allowed R.given))
      ∙ rw (is_true (le (of_bits binary64 0) epsilon) R.not_negative, le-ltb labels (size points) R.labels_room, le-ltb work (2 * size points) R.work_room)
    where
      is_true : (b : Bool) → T b → b ≡ true
      is_true true h = refl
      is_true false h = elim h [ ]

module _ (epsilon : Float) (m : ℕ) (s₀ : Slices) where
  abbrev n : ℕ
  n = count s₀.tree

  pub outcome-answers : (a : Told) (s : Slices) → Outcome epsilon m s₀ a s
      → Ready s₀.tree.points epsilon (length s₀.tree.indices) (length s₀.tree.boxes) (length s₀.tree.links) (length s₀.labels) (length s₀.work)
      → (a ≡ labelled) × Answer epsilon m s₀ s
  outcome-answers a s o R =
      let e = due-answer s₀.tree.points epsilon (length s₀.tree.indices) (length s₀.tree.boxes) (length s₀.tree.links) (length s₀.labels) (length s₀.work) R o.due in
      (e, o.answers (ap (λ (z : Told). z.given) e))

  pub outcome-labels : (a : Told) (s : Slices) → Outcome epsilon m s₀ a s → a.given ≡ true
      → (l : List ℕ) → Labelled (near s₀.tree.points epsilon) n m l → take n s.labels ≡ l
  outcome-labels a s o e l h = labels_unique (near s₀.tree.points epsilon) n m (take n s.labels) l (o.answers e).labels_are h

  pub outcome-noise : (a : Told) (s : Slices) → Outcome epsilon m s₀ a s → a.given ≡ true → quiet n m ≡ true → take n s.labels ≡ replicate n noise
  outcome-noise a s o e q = outcome-labels a s o e (replicate n noise) (labels-none (near s₀.tree.points epsilon) n m (quiet_cases n m q))

  -- ---- two outcomes
  pub record Same (a c : Told) (s u : Slices) : Type 0 where
    pub told_is : a ≡ c
    pub labels_are : s.labels ≡ u.labels
    pub work_is : s.work ≡ u.work
    pub tree_is : (s.tree ≡ u.tree) ⊎ Agree leaf_size s.tree u.tree

  glue : (k : ℕ) (l r : List ℕ) → take k l ≡ take k r → drop k l ≡ drop k r → l ≡ r
  glue k l r p q = sym (take-append-drop k l) ∙ ap (λ (z : List ℕ). z ++ drop k l) p ∙ ap (λ (z : List ℕ). take k r ++ z) q ∙ take-append-drop k r

  answers_one : (a c : Told) (s u : Slices) → Held s₀.tree.points → a ≡ c → Answer epsilon m s₀ s → Answer epsilon m s₀ u → Same a c s u
  answers_one a c s u H t A C = go (quiet n m) refl
    where
      labels : s.labels ≡ u.labels
      labels =
          glue n s.labels u.labels
          (labels_unique (near s₀.tree.points epsilon) n m (take n s.labels) (take n u.labels) A.labels_are C.labels_are)
          (A.labels_past ∙ sym C.labels_past)

      go : (b : Bool) → quiet n m ≡ b → Same a c s u
      go true q =
          let x = A.if_quiet q in
          let y = C.if_quiet q in
          record { told_is = t; labels_are = labels; work_is = x.work_is ∙ sym y.work_is; tree_is = inl (x.tree_is ∙ sym y.tree_is) }
      go false q =
          let x = A.if_busy q in
          let y = C.if_busy q in
          record { told_is = t; labels_are = labels; work_is = x.work_is ∙ sym y.work_is; tree_is = inr (built_agree leaf_size s₀.tree s.tree u.tree H x.tree_is y.tree_is) }

  pub outcome-one : (a c : Told) (s u : Slices) → Held s₀.tree.points → Outcome epsilon m s₀ a s → Outcome epsilon m s₀ c u → Same a c s u
  outcome-one a c s u H o p = go a.given refl
    where
      t : a ≡ c
      t = due-one s₀.tree.points epsilon (length s₀.tree.indices) (length s₀.tree.boxes) (length s₀.tree.links) (length s₀.labels) (length s₀.work) o.due p.due

      same : (z : Bool) → a.given ≡ z → c.given ≡ z
      same z e = sym (ap (λ (x : Told). x.given) t) ∙ e

      go : (z : Bool) → a.given ≡ z → Same a c s u
      go true e = answers_one a c s u H t (o.answers e) (p.answers (same true e))
      go false e =
          let k = o.kept e ∙ sym (p.kept (same false e)) in
          record { told_is = t; labels_are = ap (λ (x : Slices). x.labels) k; work_is = ap (λ (x : Slices). x.work) k; tree_is = inl (ap (λ (x : Slices). x.tree) k) }
