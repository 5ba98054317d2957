-- A refusal is known by its number and its detail, and none has the number 0. By cases. Assumes nothing.
use Rattle.std.proofs.Common.{◌≡◌, ℕ, Bool, cond, eqb, Result, Ok, Err, refl, sym, ap, subst, ◌∙◌, arith}
use lib.Dec.{T}
use Rattle.refusal.specs.Numbers.{Told, number, detail, told, done}
use Rattle.refusal.specs.declared.Refusal.{Refusal}
use Rattle.refusal.specs.declared.Refusal.TheVariants.{OddCoordinates, TooManyPoints, PointNotFinite, PlaceNotFinite, RadiusNotValid, IndicesTooShort, NodesTooShort, NoRoom, DamagedTree, UnknownRecord}

abbrev from : ℕ → ℕ → Refusal
from n d =
    cond (eqb n 1) OddCoordinates
    (cond (eqb n 2) TooManyPoints
    (cond (eqb n 3) (PointNotFinite d)
    (cond (eqb n 4) PlaceNotFinite
    (cond (eqb n 5) RadiusNotValid
    (cond (eqb n 6) (IndicesTooShort d)
    (cond (eqb n 7) (NodesTooShort d)
    (cond (eqb n 8) (NoRoom d)
    (cond (eqb n 9) DamagedTree UnknownRecord))))))))

from-number : (r : Refusal) → from (number r) (detail r) ≡ r
from-number OddCoordinates = refl
from-number TooManyPoints = refl
from-number (PointNotFinite i) = refl
from-number PlaceNotFinite = refl
from-number RadiusNotValid = refl
from-number (IndicesTooShort n) = refl
from-number (NodesTooShort n) = refl
from-number (NoRoom n) = refl
from-number DamagedTree = refl
from-number UnknownRecord = refl

pub same-refusal : (r s : Refusal) → number r ≡ number s → detail r ≡ detail s → r ≡ s
same-refusal r s e f =
    sym (from-number r) ∙ ap (λ (n : ℕ). from n (detail r)) e ∙ ap (λ (d : ℕ). from (number s) d) f ∙ from-number s

pub number-nonzero : (r : Refusal) → number r ≡ 0 → ⊥
number-nonzero OddCoordinates h = absurd (omega (arith, h))
number-nonzero TooManyPoints h = absurd (omega (arith, h))
number-nonzero (PointNotFinite i) h = absurd (omega (arith, h))
number-nonzero PlaceNotFinite h = absurd (omega (arith, h))
number-nonzero RadiusNotValid h = absurd (omega (arith, h))
number-nonzero (IndicesTooShort n) h = absurd (omega (arith, h))
number-nonzero (NodesTooShort n) h = absurd (omega (arith, h))
number-nonzero (NoRoom n) h = absurd (omega (arith, h))
number-nonzero DamagedTree h = absurd (omega (arith, h))
number-nonzero UnknownRecord h = absurd (omega (arith, h))

-- ---- two answers that tell the same are the same
pub done-one : (r s : Result Unit Refusal) → done r ≡ done s → r ≡ s
done-one (Ok u) (Ok v) e = refl
done-one (Ok u) (Err s) e = absurd (subst T (ap (λ (a : Told). a.given) e) tt)
done-one (Err r) (Ok v) e = absurd (subst T (sym (ap (λ (a : Told). a.given) e)) tt)
done-one (Err r) (Err s) e = ap (λ (r : Refusal). Err r) (same-refusal r s (ap (λ (a : Told). a.number) e) (ap (λ (a : Told). a.detail) e))

pub told-one : (r s : Result ℕ Refusal) → told r ≡ told s → r ≡ s
told-one (Ok n) (Ok m) e = ap (λ (a : Told). Ok a.count) e
told-one (Ok n) (Err s) e = absurd (subst T (ap (λ (a : Told). a.given) e) tt)
told-one (Err r) (Ok m) e = absurd (subst T (sym (ap (λ (a : Told). a.given) e)) tt)
told-one (Err r) (Err s) e = ap (λ (r : Refusal). Err r) (same-refusal r s (ap (λ (a : Told). a.number) e) (ap (λ (a : Told). a.detail) e))
