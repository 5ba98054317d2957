-- The bound and the corner are attained: the bound is the d2 of a place of the box, and the corner that of one of its
-- corners. So the bound is the least d2 over the box and the corner the greatest, as rounded, and no better one is to
-- be had. A box with a point in it has its ends in order, and the clamped value is an end or lies between them.
-- Assumes nothing.
use mathlib.Core.Path.{◌≡◌, refl}
use mathlib.Core.Bool.{Bool, true, false, cond}
use lib.Ieee.{Float, lt}
use Rattle.distance.specs.declared.Coord.{Coord}
use Rattle.distance.specs.declared.Bounds.{Bounds}
use Rattle.distance.specs.Distance.{d2, clamp, larger, far, corner}
use Rattle.distance.proofs.Sign.{leg}
use Rattle.distance.proofs.Box.{Axis, InBox}
use Rattle.distance.proofs.Order.{le_chain, finite-no-nan}
use Rattle.distance.proofs.Prune.{le_self, le_of_not_lt}

-- the value of lo to hi that is farthest from q
record Farthest (q lo hi : Float) : Type 0 where
  value : Float
  between : Axis q value lo hi
  attains : leg q value ≡ far q lo hi

-- ---- one axis
module _ (q p lo hi : Float) (a : Axis q p lo hi) where
  at-lo : Axis q lo lo hi
  at-lo = record {
    q_finite = a.q_finite;
    p_finite = a.lo_finite;
    lo_finite = a.lo_finite;
    hi_finite = a.hi_finite;
    above_lo = le_self lo (finite-no-nan lo a.lo_finite);
    below_hi = le_chain lo p hi a.above_lo a.below_hi;
  }

  at-hi : Axis q hi lo hi
  at-hi = record {
    q_finite = a.q_finite;
    p_finite = a.hi_finite;
    lo_finite = a.lo_finite;
    hi_finite = a.hi_finite;
    above_lo = le_chain lo p hi a.above_lo a.below_hi;
    below_hi = le_self hi (finite-no-nan hi a.hi_finite);
  }

  at_q : lt q lo ≡ false → lt hi q ≡ false → Axis q q lo hi
  at_q h k =
      let Q = finite-no-nan q a.q_finite in
      record {
        q_finite = a.q_finite;
        p_finite = a.q_finite;
        lo_finite = a.lo_finite;
        hi_finite = a.hi_finite;
        above_lo = le_of_not_lt q lo Q (finite-no-nan lo a.lo_finite) h;
        below_hi = le_of_not_lt hi q (finite-no-nan hi a.hi_finite) Q k;
      }

  clamp-inside : Axis q (clamp q lo hi) lo hi
  unfolding clamp
  clamp-inside = go (lt q lo) (lt hi q) refl refl
    where
      go : (x y : Bool) → lt q lo ≡ x → lt hi q ≡ y → Axis q (cond x lo (cond y hi q)) lo hi
      go true y h k = at-lo
      go false true h k = at-hi
      go false false h k = at_q h k

  farthest : Farthest q lo hi
  unfolding larger
  farthest = go (lt (leg q lo) (leg q hi)) refl
    where
      go : (b : Bool) → lt (leg q lo) (leg q hi) ≡ b → Farthest q lo hi
      go true h = record { value = hi; between = at-hi; attains = rw h }
      go false h = record { value = lo; between = at-lo; attains = rw h }

-- ---- the box
-- the place that `bound` is the d2 of
pub bound_attained : (q : Coord) (b : Bounds) (px py : Float) → InBox q b px py
    → InBox q b (clamp q.x b.min_x b.max_x) (clamp q.y b.min_y b.max_y)
bound_attained q b px py i = record {
  on_x = clamp-inside q.x px b.min_x b.max_x i.on_x;
  on_y = clamp-inside q.y py b.min_y b.max_y i.on_y;
}

-- a place of the box that is as far as `corner` says
pub record Attained (q : Coord) (b : Bounds) : Type 0 where
  pub px : Float
  pub py : Float
  pub inside : InBox q b px py
  pub attains : d2 q.x q.y px py ≡ corner q b

pub corner_attained : (q : Coord) (b : Bounds) (px py : Float) → InBox q b px py → Attained q b
unfolding d2
corner_attained q b px py i =
    let x = farthest q.x px b.min_x b.max_x i.on_x in
    let y = farthest q.y py b.min_y b.max_y i.on_y in
    record {
      px = x.value;
      py = y.value;
      inside = record { on_x = x.between; on_y = y.between };
      attains = cc;
    }
