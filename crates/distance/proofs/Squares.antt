-- The laws of d2 by itself. Of two finite places it is no NaN, not below zero and not -0 (`d2-plain`, `d2-nonneg`); it
-- may be infinity (`d2_infinite`). On what it gives (`Measure`), `le` is total and antisymmetric as data, and transitive
-- as everywhere (`le_chain`): two places that are equally far are so in the same bits (`d2-same`). By the laws of `le`
-- on what is not negative. At the end: zero times a number is a zero exactly where it is finite. Assumes nothing.
use mathlib.Core.Path.{◌≡◌, refl, ap, ◌∙◌}
use mathlib.Core.Logic.{◌⊎◌}
use mathlib.Core.Bool.{Bool, true, false, not}
use Prim.Native.Nat.{ℕ, ◌*◌}
use native.Mathlib.Nat.{mul-pos}
use native.Mathlib.Omega.{arith}
use lib.IntN.{ℤ, pos}
use lib.Dec.{T}
use lib.Pow.{pow_pos}
use lib.Ieee.{Float, nan, inf, fin, binary64, fits, is_nan, le, lt, add, sub, mul, round, up, down, unlike, eq, of_bits}
use lib.Ieee.Fits.{add-fits, mul-fits, down_pos}
use lib.Ieee.Scale.{finite, round_same}
use Rattle.distance.specs.Distance.{sq, d2}
use Rattle.distance.proofs.Sign.{den, gap, leg, sq-sub}
use Rattle.distance.proofs.Mono.{nonneg, round-nonneg, d2-nonneg}
use Rattle.distance.proofs.Box.{den_pos}
use Rattle.distance.proofs.Order.{plain, le_total, le_antisym, nonneg-plain, nonneg-no-nan, plain-no-nan}
use Rattle.distance.proofs.Prune.{le_of_not_lt}

-- a place both of whose numbers are finite
pub record Finite (x y : Float) : Type 0 where
  pub fx : T (finite x)
  pub fy : T (finite y)

-- ---- one of three, of two values that fit and are neither a NaN nor -0
pub data Three (x y : Float) : Type 0 where
  below : T (lt x y) → Three x y
  same : x ≡ y → Three x y
  above : T (lt y x) → Three x y

pub three : (x y : Float) → T (fits binary64 x) → T (fits binary64 y) → T (plain x) → T (plain y) → Three x y
three x y X Y p q = go (lt x y) (lt y x) refl refl
  where
    not_above : lt y x ≡ false → T (le x y)
    not_above = le_of_not_lt y x (plain-no-nan y q) (plain-no-nan x p)

    not_below : lt x y ≡ false → T (le y x)
    not_below = le_of_not_lt x y (plain-no-nan x p) (plain-no-nan y q)

    go : (a b : Bool) → lt x y ≡ a → lt y x ≡ b → Three x y
    go true b h k = below (rw h tt)
    go false true h k = above (rw k tt)
    go false false h k = same (le_antisym binary64 x y X Y p q (not_above k) (not_below h))

-- ---- what d2 gives, and what a square gives: a number of the format, not below zero, not -0
pub record Measure (x : Float) : Type 0 where
  pub held : T (fits binary64 x)
  pub positive : T (nonneg x)

pub measure_plain : (x : Float) → Measure x → T (plain x)
measure_plain x m = nonneg-plain x m.positive

pub measure_no-nan : (x : Float) → Measure x → T (not (is_nan x))
measure_no-nan x m = nonneg-no-nan x m.positive

module _ (x y : Float) (X : Measure x) (Y : Measure y) where
  pub measure_total : T (le x y) ⊎ T (le y x)
  measure_total = le_total x y (measure_no-nan x X) (measure_no-nan y Y)

  pub measure_antisym : T (le x y) → T (le y x) → x ≡ y
  measure_antisym = le_antisym binary64 x y X.held Y.held (measure_plain x X) (measure_plain y Y)

  pub measure_three : Three x y
  measure_three = three x y X.held Y.held (measure_plain x X) (measure_plain y Y)

-- ---- d2 of finite places
pub d2-fits : (ax ay bx by : Float) → T (fits binary64 (d2 ax ay bx by))
unfolding d2
d2-fits ax ay bx by = add-fits binary64 (leg ax bx) (leg ay by)

module _ (ax ay bx by : Float) (a : Finite ax ay) (b : Finite bx by) where
  pub d2_measure : Measure (d2 ax ay bx by)
  d2_measure = record {
    held = d2-fits ax ay bx by;
    positive = d2-nonneg ax ay bx by a.fx a.fy b.fx b.fy;
  }

  pub d2-plain : T (plain (d2 ax ay bx by))
  d2-plain = measure_plain (d2 ax ay bx by) d2_measure

  pub d2-no-nan : T (not (is_nan (d2 ax ay bx by)))
  d2-no-nan = measure_no-nan (d2 ax ay bx by) d2_measure

-- as near as each other: the same number, in the same bits
pub d2-same : (qx qy ax ay bx by : Float) → Finite qx qy → Finite ax ay → Finite bx by
    → T (le (d2 qx qy ax ay) (d2 qx qy bx by)) → T (le (d2 qx qy bx by) (d2 qx qy ax ay)) → d2 qx qy ax ay ≡ d2 qx qy bx by
d2-same qx qy ax ay bx by q a b =
    measure_antisym (d2 qx qy ax ay) (d2 qx qy bx by) (d2_measure qx qy ax ay q a) (d2_measure qx qy bx by q b)

-- of (1e308, 0) and (-1e308, 0)
pub d2_infinite : d2 (of_bits binary64 0x7fe1_ccf3_85eb_c8a0) (of_bits binary64 0) (of_bits binary64 0xffe1_ccf3_85eb_c8a0) (of_bits binary64 0) ≡ inf false
unfolding d2 sq add sub mul of_bits
d2_infinite = refl

-- ---- a square of any number: that of a radius, of -0 and of a number below zero too
pub sq_measure : (x : Float) → T (not (is_nan x)) → Measure (sq x)
sq_measure x p = record { held = unfold sq in mul-fits binary64 x x; positive = positive x p }
  where
    positive : (x : Float) → T (not (is_nan x)) → T (nonneg (sq x))
    positive nan p = absurd (unfold is_nan in p)
    positive (inf true) p = unfold sq mul in tt
    positive (inf false) p = unfold sq mul in tt
    positive (fin true m e) p = unfold sq mul in round-nonneg binary64 (m * up e * (m * up e)) (down e * down e)
    positive (fin false m e) p = unfold sq mul in round-nonneg binary64 (m * up e * (m * up e)) (down e * down e)

-- ---- a place and itself
round-zero : round binary64 false 0 1 ≡ fin false 0 (pos 0)
unfolding round
round-zero = refl

sq-sub_self : (x : Float) → T (finite x) → leg x x ≡ fin false 0 (pos 0)
sq-sub_self x p =
    let d = den x * den x in
    sq-sub x x p p
    ∙ ap (λ (z : ℕ). sq (round binary64 false z d)) gap_self
    ∙ ap sq (round_same binary64 false 0 d 0 1 (mul-pos (den_pos x p) (den_pos x p)) (pow_pos 0) (zeros d) ∙ round-zero)
    ∙ (unfold sq mul in refl)
  where
    gap_self : gap x x ≡ 0
    gap_self = omega arith

    zeros : (d : ℕ) → 0 * 1 ≡ 0 * d
    zeros d = omega arith

pub d2_self : (x y : Float) → Finite x y → d2 x y x y ≡ fin false 0 (pos 0)
unfolding d2
d2_self x y f =
    ap (λ (z : Float). add binary64 z (leg y y)) (sq-sub_self x f.fx)
    ∙ ap (λ (z : Float). add binary64 (fin false 0 (pos 0)) z) (sq-sub_self y f.fy)
    ∙ (unfold add in refl)
