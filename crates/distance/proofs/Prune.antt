-- What the bound is for: a box whose bound is above the best so far has no point as good, so a walk may pass over it
-- (`prune_strict`); and one whose bound is no better than the best has none that is better (`prune`).
-- By the bound's law and the order's; the laws that join `lt` to `le` stand first. Assumes nothing.
use mathlib.Core.Path.{◌≡◌, sym, ◌∙◌, subst}
use mathlib.Core.Logic.{inl, inr}
use mathlib.Core.Bool.{Bool, true, false, not}
use lib.Dec.{T, not_T, T_not}
use lib.Ieee.{Float, nan, inf, fin, le, lt, eq, is_nan}
use Rattle.distance.specs.declared.Coord.{Coord}
use Rattle.distance.specs.declared.Bounds.{Bounds}
use Rattle.distance.specs.Distance.{d2, clamp, bound}
use Rattle.distance.proofs.Mono.{or_l, or_r}
use Rattle.distance.proofs.Box.{Axis, InBox, box-bound, bound-le-d2}
use Rattle.distance.proofs.Order.{le_total, le_chain, lt-is_not_le}

-- ---- `lt` and `le`
pub lt→le : (x y : Float) → T (lt x y) → T (le x y)
unfolding le
lt→le x y h = or_l (lt x y) (eq x y) h

pub le_self : (x : Float) → T (not (is_nan x)) → T (le x x)
le_self x p = elim (le_total x x p p) [ inl h ↦ h | inr h ↦ h ]

-- where `le` holds there is no NaN
pub le_left : (x y : Float) → T (le x y) → T (not (is_nan x))
unfolding le is_nan
le_left nan y h = h
le_left (inf s) y h = tt
le_left (fin s m e) y h = tt

pub le_right : (x y : Float) → T (le x y) → T (not (is_nan y))
unfolding le is_nan
le_right nan nan h = h
le_right (inf s) nan h = h
le_right (fin s m e) nan h = h
le_right x (inf t) h = tt
le_right x (fin t n d) h = tt

pub eq-no-nan : (x y : Float) → T (eq x y) → T (not (is_nan x))
unfolding le
eq-no-nan x y h = le_left x y (or_r (lt x y) (eq x y) h)

pub lt_of_not_le : (x y : Float) → T (not (is_nan x)) → T (not (is_nan y)) → (T (le y x) → ⊥) → T (lt x y)
lt_of_not_le x y p q h = rw (lt-is_not_le x y p q) (not_T (le y x) h)

pub le_of_not_lt : (x y : Float) → T (not (is_nan x)) → T (not (is_nan y)) → lt x y ≡ false → T (le y x)
le_of_not_lt x y p q h = back (le y x) (sym (lt-is_not_le x y p q) ∙ h)
  where
    back : (b : Bool) → not b ≡ false → T b
    back true e = tt
    back false e = subst T e tt

pub lt_not_le : (x y : Float) → T (lt x y) → T (le y x) → ⊥
lt_not_le x y h k =
    let p = le_left x y (lt→le x y h) in
    let q = le_right x y (lt→le x y h) in
    T_not (le y x) (subst T (lt-is_not_le x y p q) h) k

pub lt-le_chain : (x y z : Float) → T (lt x y) → T (le y z) → T (lt x z)
lt-le_chain x y z h k =
    lt_of_not_le x z (le_left x y (lt→le x y h)) (le_right y z k) (λ (g : T (le z x)). lt_not_le x y h (le_chain y z x k g))

-- ---- passing over a box
module _ (qx qy px py lox loy hix hiy best : Float) (x : Axis qx px lox hix) (y : Axis qy py loy hiy) where
  abbrev from_box : Float
  from_box = d2 qx qy (clamp qx lox hix) (clamp qy loy hiy)

  pub prune : T (le best from_box) → T (le best (d2 qx qy px py))
  prune h = le_chain best from_box (d2 qx qy px py) h (box-bound qx qy px py lox loy hix hiy x y)

  pub prune_strict : T (lt best from_box) → T (lt best (d2 qx qy px py))
  prune_strict h = lt-le_chain best from_box (d2 qx qy px py) h (box-bound qx qy px py lox loy hix hiy x y)

-- the same of a box and a query as the walks have them
pub bound-past : (q : Coord) (b : Bounds) (px py : Float) → InBox q b px py → (best : Float)
    → T (lt best (bound q b)) → T (lt best (d2 q.x q.y px py))
bound-past q b px py i best h = lt-le_chain best (bound q b) (d2 q.x q.y px py) h (bound-le-d2 q b px py i)
