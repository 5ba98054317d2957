-- The squared distance is the same either way, as data, of any two places, NaN and infinities included (`d2_comm`):
-- of two finite numbers the gap is the same whole number, and the other cases compute. Assumes nothing.
use mathlib.Core.Path.{◌≡◌, refl, sym, ap, ◌∙◌}
use mathlib.Core.Bool.{true, false}
use Prim.Native.Nat.{ℕ, ◌+◌, ◌*◌}
use native.Mathlib.Nat.{mul_comm}
use native.Mathlib.Omega.{arith}
use lib.Ieee.{Float, nan, inf, fin, binary64, round, add, sub, mul}
use Rattle.distance.specs.Distance.{sq, d2}
use Rattle.distance.proofs.Sign.{apart, plus, less, den, gap, leg, sq-sub}

apart_comm : (u v : ℕ) → apart u v ≡ apart v u
apart_comm u v = omega arith

sq-sub_comm : (x y : Float) → leg x y ≡ leg y x
unfolding sq mul sub
sq-sub_comm nan nan = refl
sq-sub_comm nan (inf t) = refl
sq-sub_comm nan (fin t n d) = refl
sq-sub_comm (inf s) nan = refl
sq-sub_comm (inf true) (inf true) = refl
sq-sub_comm (inf true) (inf false) = refl
sq-sub_comm (inf false) (inf true) = refl
sq-sub_comm (inf false) (inf false) = refl
sq-sub_comm (inf true) (fin t n d) = refl
sq-sub_comm (inf false) (fin t n d) = refl
sq-sub_comm (fin s m e) nan = refl
sq-sub_comm (fin s m e) (inf true) = refl
sq-sub_comm (fin s m e) (inf false) = refl
sq-sub_comm (fin s m e) (fin t n d) =
    let x = fin s m e in
    let y = fin t n d in
    sq-sub x y tt tt
    ∙ ap (λ (z : ℕ). sq (round binary64 false z (den x * den y)))
    (apart_comm (plus x * den y + less y * den x) (plus y * den x + less x * den y))
    ∙ ap (λ (z : ℕ). sq (round binary64 false (gap y x) z)) (mul_comm (den x) (den y))
    ∙ sym (sq-sub y x tt tt)

pub d2_comm : (ax ay bx by : Float) → d2 ax ay bx by ≡ d2 bx by ax ay
unfolding d2
d2_comm ax ay bx by =
    ap (λ (z : Float). add binary64 z (leg ay by)) (sq-sub_comm ax bx)
    ∙ ap (λ (z : Float). add binary64 (leg bx ax) z) (sq-sub_comm ay by)
