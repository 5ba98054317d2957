-- The far corner: d2 to it, as rounded, is never below the d2 of a point in the box, overflow and subnormals included.
-- On each axis the point lies between the query and one of the two ends, so that end's rounded square is no smaller
-- (`sq-near`), and the larger of the two is no smaller than either; sums keep the order. Assumes nothing.
use mathlib.Core.Path.{◌≡◌, refl}
use mathlib.Core.Logic.{inl, inr}
use mathlib.Core.Bool.{Bool, true, false, cond}
use lib.Dec.{T}
use lib.Ieee.{Float, le, lt}
use Rattle.distance.specs.declared.Coord.{Coord}
use Rattle.distance.specs.declared.Bounds.{Bounds}
use Rattle.distance.specs.Distance.{d2, larger, far, corner}
use Rattle.distance.proofs.Sign.{leg}
use Rattle.distance.proofs.Mono.{nonneg, add_mono, sq-sub-nonneg}
use Rattle.distance.proofs.Box.{under, le→under, under-total, rising, falling, sq-near, Axis, InBox, axis_nonneg}
use Rattle.distance.proofs.Order.{le_chain, nonneg-no-nan}
use Rattle.distance.proofs.Prune.{lt→le, le_self, le_of_not_lt}

-- ---- the larger of two
module _ (x y : Float) (X : T (nonneg x)) (Y : T (nonneg y)) where
  left_le-larger : T (le x (larger x y))
  unfolding larger
  left_le-larger = go (lt x y) refl
    where
      go : (b : Bool) → lt x y ≡ b → T (le x (cond b y x))
      go true h = lt→le x y (rw h tt)
      go false h = le_self x (nonneg-no-nan x X)

  right-le-larger : T (le y (larger x y))
  unfolding larger
  right-le-larger = go (lt x y) refl
    where
      go : (b : Bool) → lt x y ≡ b → T (le y (cond b y x))
      go true h = le_self y (nonneg-no-nan y Y)
      go false h = le_of_not_lt x y (nonneg-no-nan x X) (nonneg-no-nan y Y) h

  larger-nonneg : T (nonneg (larger x y))
  unfolding larger
  larger-nonneg = go (lt x y)
    where
      go : (b : Bool) → T (nonneg (cond b y x))
      go true = Y
      go false = X

-- ---- one axis
module _ (q p lo hi : Float) (a : Axis q p lo hi) where
  lo-nonneg : T (nonneg (leg q lo))
  lo-nonneg = sq-sub-nonneg q lo a.q_finite a.lo_finite

  hi-nonneg : T (nonneg (leg q hi))
  hi-nonneg = sq-sub-nonneg q hi a.q_finite a.hi_finite

  far-nonneg : T (nonneg (far q lo hi))
  far-nonneg = larger-nonneg (leg q lo) (leg q hi) lo-nonneg hi-nonneg

  le-hi : under q p → T (le (leg q p) (leg q hi))
  le-hi u = sq-near q p hi a.q_finite a.p_finite a.hi_finite (rising u (le→under p hi a.p_finite a.hi_finite a.below_hi))

  le-lo : under p q → T (le (leg q p) (leg q lo))
  le-lo u = sq-near q p lo a.q_finite a.p_finite a.lo_finite (falling u (le→under lo p a.lo_finite a.p_finite a.above_lo))

  leg-le-far : T (le (leg q p) (far q lo hi))
  leg-le-far = elim (under-total q p) [
    | inl u ↦ le_chain (leg q p) (leg q hi) (far q lo hi) (le-hi u) (right-le-larger (leg q lo) (leg q hi) lo-nonneg hi-nonneg)
    | inr u ↦ le_chain (leg q p) (leg q lo) (far q lo hi) (le-lo u) (left_le-larger (leg q lo) (leg q hi) lo-nonneg hi-nonneg)
  ]

-- ---- the box
module _ (q : Coord) (b : Bounds) (px py : Float) (i : InBox q b px py) where
  pub d2-le-corner : T (le (d2 q.x q.y px py) (corner q b))
  unfolding d2
  d2-le-corner =
      let lox = b.min_x in
      let hix = b.max_x in
      let loy = b.min_y in
      let hiy = b.max_y in
      add_mono (leg q.x px) (leg q.y py) (far q.x lox hix) (far q.y loy hiy)
      (axis_nonneg q.x px lox hix i.on_x) (axis_nonneg q.y py loy hiy i.on_y)
      (far-nonneg q.x px lox hix i.on_x) (far-nonneg q.y py loy hiy i.on_y)
      (leg-le-far q.x px lox hix i.on_x) (leg-le-far q.y py loy hiy i.on_y)

  -- a box whose far corner is within r2 lies within it whole
  pub corner-within : (r2 : Float) → T (le (corner q b) r2) → T (le (d2 q.x q.y px py) r2)
  corner-within r2 h = le_chain (d2 q.x q.y px py) (corner q b) r2 d2-le-corner h
