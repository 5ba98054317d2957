-- The three ways in which `dbscan` ends: refused (`ends-refused`), all noise (`ends-quiet`), labelled (`ends_labelled`); and what
-- the labelling may ask on the way there (`runs`). By putting the front of each slice and its rest together. Assumes nothing.
use mathlib.Core.Path.{◌≡◌, refl, sym, ap, ◌∙◌, subst}
use mathlib.Core.Logic.{◌⊎◌, inl, inr}
use mathlib.Core.Bool.{Bool, true, false, ◌||◌}
use mathlib.Core.List.{List, ◌++◌}
use Rattle.std.proofs.Common.{Err}
use Prim.Native.Nat.{ℕ, zero, suc, ◌*◌, ◌/◌, ◌≤◌, ◌<◌}
use native.Mathlib.Omega.{arith}
use lib.Dec.{eqb, ltb}
use lib.ListN.{length, take, drop, replicate, length-replicate}
use lib.Seq.{take_at, drop_at, length-take-le}
use lib.Ieee.{Float}
use borrow.Author.Tests.{eqb-true, ltb-true}
use Rattle.tree.specs.Accepted.{Tree, count}
use Rattle.labels.specs.Labels.{noise, near, Labelled}
use Rattle.labels.proofs.Unique.{labels-none}
use Rattle.build.proofs.Outcomes.{true_false}
use Rattle.refusal.specs.Numbers.{Told, done}
use Rattle.refusal.specs.declared.Refusal.{Refusal}
use Rattle.dbscan.specs.Outcome.{labelled, Due, Slices, slices, quiet, Answer, Outcome}
use Rattle.dbscan.specs.Growing.{Sizes, Runnable, Ran, Planted}
use Rattle.dbscan.proofs.Verdicts.{Ready, due-ready}

pub quiet_cases : (n m : ℕ) → quiet n m ≡ true → (m ≡ 0) ⊎ (n < m)
quiet_cases n m h = go (eqb m 0) refl (ltb n m) refl h
  where
    go : (a : Bool) → eqb m 0 ≡ a → (b : Bool) → ltb n m ≡ b → (a || b) ≡ true → (m ≡ 0) ⊎ (n < m)
    go true e b f h = inl (eqb-true m 0 e)
    go false e true f h = inr (ltb-true n m f)
    go false e false f h = absurd (true_false (sym h))

busy_asked : (n m : ℕ) → quiet n m ≡ false → 1 ≤ m
busy_asked n zero h = absurd (true_false h)
busy_asked n (suc m) h = omega arith

module _ (epsilon : Float) (m : ℕ) (t₀ : Tree) (l₀ w₀ : List ℕ) where
  abbrev n : ℕ
  n = count t₀

  abbrev s₀ : Slices
  s₀ = slices t₀ l₀ w₀

  abbrev Dues : Told → Type 0
  Dues a = Due t₀.points epsilon (length t₀.indices) (length t₀.boxes) (length t₀.links) (length l₀) (length w₀) a

  module _ (due : Dues labelled) where
    pub ready : Ready t₀.points epsilon (length t₀.indices) (length t₀.boxes) (length t₀.links) (length l₀) (length w₀)
    ready = due-ready t₀.points epsilon (length t₀.indices) (length t₀.boxes) (length t₀.links) (length l₀) (length w₀) due

    outcome : (s : Slices) → Answer epsilon m s₀ s → Outcome epsilon m s₀ labelled s
    outcome s a = record { due = due; answers = λ h. a; kept = λ h. absurd (true_false h) }

    -- only labels are written, and all of them are noise
    pub ends-quiet : (l : List ℕ) → quiet n m ≡ true → l ≡ replicate (length (take n l₀)) noise → Outcome epsilon m s₀ labelled (slices t₀ (l ++ drop n l₀) w₀)
    ends-quiet l q f =
        outcome (slices t₀ (l ++ drop n l₀) w₀)
        (record {
          labels_are = subst (Labelled (near t₀.points epsilon) n m) (sym (take_at l (drop n l₀) n long ∙ all)) (labels-none (near t₀.points epsilon) n m (quiet_cases n m q));
          labels_past = drop_at l (drop n l₀) n long;
          if_quiet = λ h. record { tree_is = refl; work_is = refl };
          if_busy = λ h. absurd (true_false (sym q ∙ h));
        })
      where
        all : l ≡ replicate n noise
        all = f ∙ ap (λ (k : ℕ). replicate k noise) (length-take-le n l₀ ready.labels_room)

        long : length l ≡ n
        long = ap length all ∙ length-replicate n noise

    module _ (q : quiet n m ≡ false) (t : Tree) (same : t.points ≡ t₀.points) (P : Planted t₀ t) where
      pub runs : Runnable t epsilon m (take (2 * n) w₀) (take n l₀)
      runs =
          record {
            search = record { accepted = P.accepted; not_negative = ready.not_negative };
            sizes = subst (λ (p : List Float). Sizes (length p / 2) (take (2 * n) w₀) (take n l₀)) (sym same) (record {
              labels = length-take-le n l₀ ready.labels_room;
              work = length-take-le (2 * n) w₀ ready.work_room;
              in_limit = ready.given.usable.in_limit;
            });
            asked = busy_asked n m q;
          }
