-- A point kept or refused: the slice and the count hold the points so far, and all of them are finite. A kept point comes
-- last, all else leaves them. Assumes nothing.
use Prim.Native.Nat.{ℕ}
use mathlib.Core.Path.{◌≡◌, refl, ap, sym, ◌∙◌}
use mathlib.Core.List.{List, []}
use mathlib.Core.Bool.{Bool, true, false, cond}
use native.Mathlib.Omega.{arith}
use lib.Dec.{eqb}
use lib.Ieee.{Float}
use Rattle.std.proofs.Common.{Err}
use borrow.Author.Tests.{ne_eqb}
use Rattle.refusal.specs.Numbers.{number}
use Rattle.refusal.specs.declared.Refusal.{Refusal}
use Rattle.refusal.proofs.Same.{number-nonzero}
use Rattle.records.specs.declared.Record.TheVariants.{Point}
use Rattle.tree.specs.Points.{size}
use Rattle.text.specs.Line.{Put}
use Rattle.text.proofs.Laws.{short-count}
use Rattle.stream.specs.Prints.{error, keep_number}
use Rattle.stream.specs.Feeding.{Kept, Stepped}

-- ---- a step by a point
module _ (p : List Float) (x y : Float) (p' : List Float) (out : List ℕ) (at : ℕ) where
  printed : (k : ℕ) → k ≡ keep_number (size p) x y → (b : Bool) → eqb k 0 ≡ b
      → cond b [] (error k) ≡ cond (eqb (keep_number (size p) x y) 0) [] (error (keep_number (size p) x y))
  printed k e b f = ap (λ (c : Bool). cond c [] (error k)) (sym f) ∙ ap (λ (m : ℕ). cond (eqb m 0) [] (error m)) e

  pub point-refused : (r : Refusal) → Kept p x y p' (Err r) → {out' : List ℕ} {w : ℕ} → Put out at (error (number r)) out' w
      → Stepped (Point x y) p out at p' out' w true
  point-refused r k q = record {
    replies = record {
      text = error (number r);
      prints = printed (number r) k.number false (ne_eqb (number r) 0 (number-nonzero r));
      short = omega (arith, short-count 69 (number r));
      put = q;
    };
    points = k.points;
    going = refl;
  }
