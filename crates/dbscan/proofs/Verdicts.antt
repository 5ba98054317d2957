-- What is due, case by case: the build's answer with 5 and 8 put where they stand in the table (`due-first` to
-- `due-labelled`); and what follows where labels are due (`due-given`). By computing the verdict. Assumes nothing.
use mathlib.Core.Path.{◌≡◌, refl, sym, ap, subst}
use mathlib.Core.Bool.{Bool, true, false, not, ◌&&◌, cond}
use mathlib.Core.List.{List}
use Rattle.std.proofs.Common.{Result, Ok, Err}
use Prim.Native.Nat.{ℕ, ◌*◌, ◌≤◌, ◌<◌}
use lib.Dec.{T, ltb}
use lib.ListN.{length}
use lib.Ieee.{Float, binary64, of_bits, le}
use borrow.Author.Tests.{lt-ltb, le-ltb, ltb-false}
use Rattle.tree.specs.Points.{size}
use Rattle.tree.specs.Accepted.{Tree}
use Rattle.build.specs.Outcome as build
use Rattle.build.specs.Agree.{Held}
use Rattle.build.proofs.Outcomes.{given_of, true_false}
use Rattle.build.proofs.Once.{outcome_finishes, outcome-accepted}
use Rattle.refusal.specs.Numbers.{Told, given, refused, told, number, detail}
use Rattle.refusal.specs.declared.Refusal.{Refusal}
use Rattle.dbscan.specs.Outcome.{labelled, leaf_size, Due}
use Rattle.dbscan.specs.Growing.{Planted}

-- ---- the build
pub planted : (size_of : ℕ) (a : Told) (t₀ t : Tree) → size_of ≡ 16 → Held t₀.points
    → build.Given leaf_size t₀.points (length t₀.indices) (length t₀.boxes) (length t₀.links) → build.Outcome size_of t₀ a t → Planted t₀ t
planted size_of a t₀ t e H g o =
    let p = subst (λ (n : ℕ). build.Outcome n t₀ a t) e o in
    let f = outcome_finishes leaf_size t₀ a t g p in
    record { built = f.1; accepted = outcome-accepted leaf_size t₀ a t H p (ap (λ (z : Told). z.given) f.0) }

-- ---- where labels are due
pub record Ready (points : List Float) (epsilon : Float) (i b k labels work : ℕ) : Type 0 where
  pub given : build.Given leaf_size points i b k
  pub not_negative : T (le (of_bits binary64 0) epsilon)
  pub labels_room : size points ≤ labels
  pub work_room : 2 * size points ≤ work

pub due-ready : (points : List Float) (epsilon : Float) (i b k labels work : ℕ) → Due points epsilon i b k labels work labelled → Ready points epsilon i b k labels work
due-ready points epsilon i b k labels work D =
    go D.plan.given refl (ltb D.plan.number 5) (le (of_bits binary64 0) epsilon) refl (ltb labels (size points)) refl (ltb work (2 * size points)) refl (ap (λ (a : Told). a.given) D.told_is)
  where
    go : (p : Bool) → D.plan.given ≡ p → (f : Bool) → (g : Bool) → le (of_bits binary64 0) epsilon ≡ g → (l : Bool) → ltb labels (size points) ≡ l → (w : Bool) → ltb work (2 * size points) ≡ w
        → true ≡ (cond (not p && f) (refused D.plan.number D.plan.detail) (cond (not g) (refused 5 0) (cond (not p) (refused D.plan.number D.plan.detail) (cond l (refused 8 (size points)) (cond w (refused 8 (2 * size points)) labelled))))).given
        → Ready points epsilon i b k labels work
    go false pe true g ge l le' w we e = absurd (true_false e)
    go false pe false false ge l le' w we e = absurd (true_false e)
    go false pe false true ge l le' w we e = absurd (true_false e)
    go true pe f false ge l le' w we e = absurd (true_false e)
    go true pe f true ge true le' w we e = absurd (true_false e)
    go true pe f true ge false le' true we e = absurd (true_false e)
    go true pe f true ge false le' false we e =
        record {
          given = given_of leaf_size points i b k D.plan pe D.planned;
          not_negative = subst T (sym ge) tt;
          labels_room = ltb-false labels (size points) le';
          work_room = ltb-false work (2 * size points) we;
        }
