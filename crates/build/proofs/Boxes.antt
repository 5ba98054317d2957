-- The same entries have the same box; and what is asked of a part, entry by entry. Assumes nothing.
use mathlib.Core.Path.{◌≡◌, refl, sym, ap, ◌∙◌}
use mathlib.Core.List.{List, [], ◌∷◌}
use Prim.Native.Nat.{ℕ, zero, suc, ◌*◌, ◌+◌, ◌-◌, ◌<◌}
use native.Mathlib.Nat.{not-suc-le-zero}
use native.Mathlib.Omega.{arith}
use lib.ListN.{get_or, length, take, drop, length-drop}
use lib.Seq.{get_or-drop}
use Rattle.select.proofs.Parting.{mid-all}
use lib.Ieee.{Float, nan}
use Rattle.tree.specs.Points.{size}
use Rattle.tree.proofs.Entries.{has_at, Place, place, same_sym, from}
use Rattle.select.specs.Order.{coord}
use Rattle.tree.specs.Entries.{◌∈◌, Same}
use Rattle.build.specs.Built.{Tight, Box}
use Rattle.build.specs.Steps.{Ready}

pub in_one : (w v : ℕ) → w ∈ (v ∷ []) → w ≡ v
in_one w v h = go (place w (v ∷ []) h)
  where
    go : Place w (v ∷ []) → w ≡ v
    go p = at0 p.at p.inside p.is
      where
        at0 : (i : ℕ) → i < 1 → get_or (v ∷ []) i 0 ≡ w → w ≡ v
        at0 zero a e = sym e
        at0 (suc i) a e = let z : ◌≡◌ {A = ℕ} 0 1 = omega arith in absurd (bad z)
          where
            bad : ◌≡◌ {A = ℕ} 0 1 → ⊥
            bad z = omega arith

-- the same entries have the same box
pub tight_same : (points : List Float) (axis : ℕ) (xs ys : List ℕ) (lo hi : Float) → Same xs ys → Tight points axis ys lo hi → Tight points axis xs lo hi
tight_same points axis xs ys lo hi p t = record {
  low = t.low;
  low_in = from (same_sym p) t.low t.low_in;
  low_is = t.low_is;
  least = λ v h. t.least v (from p v h);
  high = t.high;
  high_in = from (same_sym p) t.high t.high_in;
  high_is = t.high_is;
  greatest = λ v h. t.greatest v (from p v h);
}

pub box-same : (points : List Float) (xs ys : List ℕ) (own : List Float) → Same xs ys → Box points ys own → Box points xs own
box-same points xs ys own p b = record { six = b.six; x = tight_same points 0 xs ys (get_or own 2 nan) (get_or own 3 nan) p b.x; y = tight_same points 1 xs ys (get_or own 4 nan) (get_or own 5 nan) p b.y }

-- ---- what is asked of a part
pub ready_index : (points : List Float) (part : List ℕ) → Ready points part → (k : ℕ) → k < length part → get_or part k 0 < size points
ready_index points part r k h = r.within (get_or part k 0) (has_at part k h)

-- what comes after the first entry
pub rest_at : (part : List ℕ) (k : ℕ) → get_or (take (length part - 1) (drop 1 part)) k 0 ≡ get_or part (k + 1) 0
rest_at part k = ap (λ (l : List ℕ). get_or l k 0) (mid-all 1 part) ∙ get_or-drop 1 part k 0 ∙ ap (λ (j : ℕ). get_or part j 0) (omega arith)

pub rest-in : (part : List ℕ) (k : ℕ) → k < length (take (length part - 1) (drop 1 part)) → k + 1 < length part
rest-in part k h = omega (arith, ap length (mid-all 1 part), length-drop 1 part)

pub ready_rest : (points : List Float) (part : List ℕ) → Ready points part → (k : ℕ) → k < length (take (length part - 1) (drop 1 part))
    → get_or (take (length part - 1) (drop 1 part)) k 0 < size points
ready_rest points part r k h = rw (rest_at part k) (ready_index points part r (k + 1) (rest-in part k h))

pub coord-x : (points : List Float) (v : ℕ) → get_or points (2 * v) nan ≡ coord points 0 v
coord-x points v = ap (λ (j : ℕ). get_or points j nan) (omega arith)

pub first-only : (part : List ℕ) → 0 < length part → take 1 part ≡ get_or part 0 0 ∷ []
first-only [] h = absurd (not-suc-le-zero h)
first-only (x ∷ xs) h = refl
