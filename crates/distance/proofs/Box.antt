-- The box bound: d2 from a query to the nearest place of a box, as rounded, is never above the d2 of a point in the
-- box, ends included, overflow and subnormals included, the query inside or outside (`bound-le-d2`).
-- On each axis the clamped value lies between the query and the point, so its gap is the smaller fraction of whole
-- numbers (`near`); rounding, squares and sums keep the order. Assumes nothing.
use mathlib.Core.Path.{◌≡◌, sym, ap, ◌∙◌}
use mathlib.Core.Logic.{◌⊎◌, inl, inr}
use mathlib.Core.Bool.{Bool, true, false, not, ◌&&◌, cond}
use Prim.Native.Nat.{ℕ, ◌+◌, ◌-◌, ◌*◌, ◌≤◌, ◌<◌}
use native.Mathlib.Nat.{le_trans, le_of_eq, le_of_lt, mul_comm, mul-pos, mul-le-mul_right, add-mul, mul-sub}
use native.Mathlib.Omega.{arith}
use lib.Dec.{T, ltb, eqb, eqb→eq, ltb→lt, nltb→le}
use lib.Ieee.{Float, fin, binary64, up, down, le, lt, eq, nan, inf}
use lib.Ieee.Fits.{down_pos, and_l, and_r}
use lib.Ieee.Order.{round_mono}
use lib.Ieee.Scale.{finite}
use Rattle.distance.specs.declared.Coord.{Coord}
use Rattle.distance.specs.declared.Bounds.{Bounds}
use Rattle.distance.specs.Distance.{d2, clamp, bound}
use Rattle.distance.proofs.Sign.{plus, less, den, apart, gap, leg, rounded_gap, sq-sub}
use Rattle.distance.proofs.Mono.{nonneg, round-nonneg, sq_mono, add_mono, sq-sub-nonneg, or_split}

-- ---- x ≤ y of two finite values, as an order of whole numbers
abbrev pub under : Float → Float → Type 0
under x y = plus x * den y + less y * den x ≤ plus y * den x + less x * den y

abbrev pub strictly_under : Float → Float → Type 0
strictly_under x y = plus x * den y + less y * den x < plus y * den x + less x * den y

pub lt→strictly_under : (x y : Float) → T (finite x) → T (finite y) → T (lt x y) → strictly_under x y
unfolding lt
lt→strictly_under (fin true m e) (fin true n d) p q h = let k = ltb→lt (n * up d * down e) (m * up e * down d) h in omega arith
lt→strictly_under (fin true m e) (fin false n d) p q h = let k = ltb→lt 0 (m * up e * down d + n * up d * down e) h in omega arith
lt→strictly_under (fin false m e) (fin true n d) p q h = absurd h
lt→strictly_under (fin false m e) (fin false n d) p q h = let k = ltb→lt (m * up e * down d) (n * up d * down e) h in omega arith
lt→strictly_under nan y p q h = elim p [ ]
lt→strictly_under (inf _) y p q h = elim p [ ]
lt→strictly_under (fin false m e) nan p q h = elim q [ ]
lt→strictly_under (fin false m e) (inf _) p q h = elim q [ ]
lt→strictly_under (fin true m e) nan p q h = elim q [ ]
lt→strictly_under (fin true m e) (inf _) p q h = elim q [ ]

pub lt→under : (x y : Float) → T (finite x) → T (finite y) → T (lt x y) → under x y
lt→under x y p q h = le_of_lt (lt→strictly_under x y p q h)

-- what `eq` tests of two fractions, whatever else it tests
same_size : (a b : ℕ) (other : Bool) → T (eqb a b && other) → a ≡ b
same_size a b other h = eqb→eq a b (and_l (eqb a b) other h)

eq→under : (x y : Float) → T (finite x) → T (finite y) → T (eq x y) → under x y
unfolding eq
eq→under (fin true m e) (fin true n d) p q h = let k = same_size (m * up e * down d) (n * up d * down e) true h in omega arith
eq→under (fin true m e) (fin false n d) p q h = omega arith
eq→under (fin false m e) (fin true n d) p q h =
    let a = m * up e * down d in
    let b = n * up d * down e in
    let k = same_size a b (eqb a 0) h in
    let l = eqb→eq a 0 (and_r (eqb a b) (eqb a 0) h) in
    omega arith
eq→under (fin false m e) (fin false n d) p q h = let k = same_size (m * up e * down d) (n * up d * down e) true h in omega arith
eq→under nan y p q h = elim p [ ]
eq→under (inf _) y p q h = elim p [ ]
eq→under (fin false m e) nan p q h = elim q [ ]
eq→under (fin false m e) (inf _) p q h = elim q [ ]
eq→under (fin true m e) nan p q h = elim q [ ]
eq→under (fin true m e) (inf _) p q h = elim q [ ]

pub le→under : (x y : Float) → T (finite x) → T (finite y) → T (le x y) → under x y
unfolding le
le→under x y p q h = elim (or_split (lt x y) (eq x y) h) [ inl u ↦ lt→under x y p q u | inr u ↦ eq→under x y p q u ]

under_refl : (x : Float) → under x x
under_refl x = omega arith

pub under-total : (x y : Float) → under x y ⊎ under y x
under-total x y = le_or_ge (plus x * den y + less y * den x) (plus y * den x + less x * den y)
  where
    le_or_ge : (a b : ℕ) → (a ≤ b) ⊎ (b ≤ a)
    le_or_ge a b = go (ltb a b) (ltb→lt a b) (nltb→le a b)
      where
        go : (z : Bool) → (T z → a < b) → (T (not z) → b ≤ a) → (a ≤ b) ⊎ (b ≤ a)
        go true h k = inl (le_of_lt (h tt))
        go false h k = inr (k tt)

pub den_pos : (x : Float) → T (finite x) → 0 < den x
den_pos (fin s m e) p = down_pos e
den_pos nan p = elim p [ ]
den_pos (inf _) p = elim p [ ]

-- ---- a value between q and p is no further from q than p is
-- `c` is between `q` and `p`, or is `q`
pub data Between (q c p : Float) : Type 0 where
  rising : under q c → under c p → Between q c p
  falling : under c q → under p c → Between q c p

apart-mul : (u v k : ℕ) → apart u v * k ≡ apart (u * k) (v * k)
apart-mul u v k = add-mul (u - v) (v - u) k ∙ ap (λ (z : ℕ). z + (v - u) * k) (sub-mul u v) ∙ ap (λ (z : ℕ). (u * k - v * k) + z) (sub-mul v u)
  where
    sub-mul : (a b : ℕ) → (a - b) * k ≡ a * k - b * k
    sub-mul a b = mul_comm (a - b) k ∙ mul-sub k a b ∙ ap (λ (z : ℕ). z - k * b) (mul_comm k a) ∙ ap (λ (z : ℕ). a * k - z) (mul_comm k b)

-- the three values are (a - a') / d, (b - b') / e and (c - c') / g
module _ (a a' d b b' e c c' g : ℕ) where
  near_up : a * e + b' * d ≤ b * d + a' * e → b * g + c' * e ≤ c * e + b' * g
      → apart ((a * e + b' * d) * (d * g)) ((b * d + a' * e) * (d * g)) ≤ apart ((a * g + c' * d) * (d * e)) ((c * d + a' * g) * (d * e))
  near_up h k =
      let x : (a * e + b' * d) * (d * g) ≤ (b * d + a' * e) * (d * g) = mul-le-mul_right (d * g) h in
      let y : (b * g + c' * e) * (d * d) ≤ (c * e + b' * g) * (d * d) = mul-le-mul_right (d * d) k in
      omega arith

  near_down : b * d + a' * e ≤ a * e + b' * d → c * e + b' * g ≤ b * g + c' * e
      → apart ((a * e + b' * d) * (d * g)) ((b * d + a' * e) * (d * g)) ≤ apart ((a * g + c' * d) * (d * e)) ((c * d + a' * g) * (d * e))
  near_down h k =
      let x : (b * d + a' * e) * (d * g) ≤ (a * e + b' * d) * (d * g) = mul-le-mul_right (d * g) h in
      let y : (c * e + b' * g) * (d * d) ≤ (b * g + c' * e) * (d * d) = mul-le-mul_right (d * d) k in
      omega arith

near : (q c p : Float) → Between q c p → gap q c * (den q * den p) ≤ gap q p * (den q * den c)
near q c p b =
    le_trans (le_of_eq (apart-mul (plus q * den c + less c * den q) (plus c * den q + less q * den c) (den q * den p)))
    (le_trans (scaled b)
    (le_of_eq (sym (apart-mul (plus q * den p + less p * den q) (plus p * den q + less q * den p) (den q * den c)))))
  where
    scaled : Between q c p
        → apart ((plus q * den c + less c * den q) * (den q * den p)) ((plus c * den q + less q * den c) * (den q * den p))
        ≤ apart ((plus q * den p + less p * den q) * (den q * den c)) ((plus p * den q + less q * den p) * (den q * den c))
    scaled (rising h k) = near_up (plus q) (less q) (den q) (plus c) (less c) (den c) (plus p) (less p) (den p) h k
    scaled (falling h k) = near_down (plus q) (less q) (den q) (plus c) (less c) (den c) (plus p) (less p) (den p) h k

pub sq-near : (q c p : Float) → T (finite q) → T (finite c) → T (finite p) → Between q c p → T (le (leg q c) (leg q p))
sq-near q c p Q C P b =
    rw (sq-sub q c Q C, sq-sub q p Q P)
    (sq_mono (rounded_gap q c) (rounded_gap q p)
    (round-nonneg binary64 (gap q c) (den q * den c)) (round-nonneg binary64 (gap q p) (den q * den p))
    (round_mono binary64 (gap q c) (den q * den c) (gap q p) (den q * den p)
    (mul-pos (den_pos q Q) (den_pos c C)) (mul-pos (den_pos q Q) (den_pos p P)) (near q c p b)))

-- ---- one axis
-- a finite query, and a finite value between two finite ends
pub record Axis (q p lo hi : Float) : Type 0 where
  pub q_finite : T (finite q)
  pub p_finite : T (finite p)
  pub lo_finite : T (finite lo)
  pub hi_finite : T (finite hi)
  pub above_lo : T (le lo p)
  pub below_hi : T (le p hi)

module _ (q p lo hi : Float) (a : Axis q p lo hi) where
  inside : Between q q p
  inside = elim (under-total q p) [ inl h ↦ rising (under_refl q) h | inr h ↦ falling (under_refl q) h ]

  clamp-between : Between q (clamp q lo hi) p
  unfolding clamp
  clamp-between = go (lt q lo) (lt hi q) (lt→under q lo a.q_finite a.lo_finite) (lt→under hi q a.hi_finite a.q_finite)
    where
      go : (x y : Bool) → (T x → under q lo) → (T y → under hi q) → Between q (cond x lo (cond y hi q)) p
      go true y h k = rising (h tt) (le→under lo p a.lo_finite a.p_finite a.above_lo)
      go false true h k = falling (k tt) (le→under p hi a.p_finite a.hi_finite a.below_hi)
      go false false h k = inside

  clamp-finite : T (finite (clamp q lo hi))
  unfolding clamp
  clamp-finite = go (lt q lo) (lt hi q)
    where
      go : (x y : Bool) → T (finite (cond x lo (cond y hi q)))
      go true y = a.lo_finite
      go false true = a.hi_finite
      go false false = a.q_finite

  clamp-nonneg : T (nonneg (leg q (clamp q lo hi)))
  clamp-nonneg = sq-sub-nonneg q (clamp q lo hi) a.q_finite clamp-finite

  clamp-near : T (le (leg q (clamp q lo hi)) (leg q p))
  clamp-near = sq-near q (clamp q lo hi) p a.q_finite clamp-finite a.p_finite clamp-between

  pub axis_nonneg : T (nonneg (leg q p))
  axis_nonneg = sq-sub-nonneg q p a.q_finite a.p_finite

-- ---- the bound
pub box-bound : (qx qy px py lox loy hix hiy : Float) → Axis qx px lox hix → Axis qy py loy hiy
    → T (le (d2 qx qy (clamp qx lox hix) (clamp qy loy hiy)) (d2 qx qy px py))
unfolding d2
box-bound qx qy px py lox loy hix hiy x y =
    add_mono (leg qx (clamp qx lox hix)) (leg qy (clamp qy loy hiy)) (leg qx px) (leg qy py)
    (clamp-nonneg qx px lox hix x) (clamp-nonneg qy py loy hiy y)
    (axis_nonneg qx px lox hix x) (axis_nonneg qy py loy hiy y)
    (clamp-near qx px lox hix x) (clamp-near qy py loy hiy y)

-- a finite query, and a finite place in a box of finite ends
pub record InBox (q : Coord) (b : Bounds) (px py : Float) : Type 0 where
  pub on_x : Axis q.x px b.min_x b.max_x
  pub on_y : Axis q.y py b.min_y b.max_y

pub bound-le-d2 : (q : Coord) (b : Bounds) (px py : Float) → InBox q b px py → T (le (bound q b) (d2 q.x q.y px py))
bound-le-d2 q b px py i =
    box-bound q.x q.y px py b.min_x b.min_y b.max_x b.max_y i.on_x i.on_y
