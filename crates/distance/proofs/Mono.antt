-- The values that are not negative (a NaN and -0 are left out, +infinity is in): a rounded size is one, and squares
-- and sums of them are such values too and keep their order, as rounded, overflow included; so d2 is not negative.
-- Two that are finite are in the order of their fractions, and `round_mono` says that rounding keeps the order of
-- fractions; infinity is above all (`le-top`). Assumes nothing.
use mathlib.Core.Path.{sym, subst}
use mathlib.Core.Logic.{◌⊎◌, inl, inr}
use mathlib.Core.Bool.{Bool, true, false, not, ◌&&◌, ◌||◌, cond}
use Prim.Native.Nat.{ℕ, zero, suc, ◌+◌, ◌*◌, ◌^◌, ◌≤◌}
use native.Mathlib.Nat.{le_trans, le_of_eq, le_of_lt, mul-pos, mul-le-mul, mul-le-mul_right, mul-mul-mul_comm}
use native.Mathlib.Omega.{arith}
use lib.Dec.{T, ltb, eqb, eqb→eq, ltb→lt}
use lib.Ieee.{Float, nan, inf, fin, Format, binary64, prec, emax, low, up, down, odd, units, round, add, mul, le}
use lib.Ieee.Fits.{round_is, down_pos, and_l}
use lib.Ieee.Order.{round_mono, kept, drop}
use lib.Ieee.Scale.{finite}
use Rattle.distance.specs.Distance.{sq, d2}
use Rattle.distance.proofs.Sign.{gap, den, leg, rounded_gap, sq-sub}

abbrev pub nonneg : Float → Bool
nonneg nan = false
nonneg (inf s) = not s
nonneg (fin s m e) = not s

-- ---- a rounded size is not negative
odd-nonneg : (d q k l : ℕ) → T (nonneg (odd d false q k l))
unfolding odd
odd-nonneg d zero k l = tt
odd-nonneg d (suc q) k l = tt

cond_nonneg : (b : Bool) (x y : Float) → T (nonneg x) → T (nonneg y) → T (nonneg (cond b x y))
cond_nonneg true x y p q = p
cond_nonneg false x y p q = q

units-nonneg : (f : Format) (q k : ℕ) → T (nonneg (units f false q k))
unfolding units
units-nonneg f q k =
    let x = odd (suc (prec f)) false q k (low f) in
    cond_nonneg (ltb (q * 2 ^ k) (2 ^ (low f + suc (emax f)))) x (inf false) (odd-nonneg (suc (prec f)) q k (low f)) tt

pub round-nonneg : (f : Format) (a c : ℕ) → T (nonneg (round f false a c))
round-nonneg f a c =
    let w = a * 2 ^ low f in
    subst (λ (z : Float). T (nonneg z)) (sym (round_is f false a c)) (units-nonneg f (kept (prec f) w c) (drop (prec f) w c))

-- ---- `||`
pub or_split : (a b : Bool) → T (a || b) → T a ⊎ T b
or_split true b t = inl tt
or_split false b t = inr t

pub or_l : (a b : Bool) → T a → T (a || b)
or_l true b t = tt
or_l false b t = elim t [ ]

pub or_r : (a b : Bool) → T b → T (a || b)
or_r true b t = tt
or_r false b t = t

-- ---- the order
-- what `le` tests of two fractions that are not negative
pub to_le : (a b : ℕ) → T (ltb a b || (eqb a b && true)) → a ≤ b
to_le a b t = elim (or_split (ltb a b) (eqb a b && true) t) [
  | inl u ↦ le_of_lt (ltb→lt a b u)
  | inr u ↦ le_of_eq (eqb→eq a b (and_l (eqb a b) true u))
]

pub le-top : (x : Float) → T (nonneg x) → T (le x (inf false))
unfolding le
le-top (inf false) p = tt
le-top (fin false m e) p = tt
le-top nan p = elim p [ ]
le-top (inf true) p = elim p [ ]
le-top (fin true m e) p = elim p [ ]

-- ---- squares
pub sq-nonneg : (x : Float) → T (nonneg x) → T (nonneg (sq x))
unfolding sq mul
sq-nonneg (inf false) p = tt
sq-nonneg (fin false m e) p = round-nonneg binary64 (m * up e * (m * up e)) (down e * down e)
sq-nonneg nan p = elim p [ ]
sq-nonneg (inf true) p = elim p [ ]
sq-nonneg (fin true m e) p = elim p [ ]

-- a / b ≤ c / d, so their squares
squares : (a b c d : ℕ) → a * d ≤ c * b → a * a * (d * d) ≤ c * c * (b * b)
squares a b c d h =
    le_trans (le_of_eq (mul-mul-mul_comm a a d d)) (le_trans (mul-le-mul h h) (le_of_eq (mul-mul-mul_comm c b c b)))

pub sq_mono : (x y : Float) → T (nonneg x) → T (nonneg y) → T (le x y) → T (le (sq x) (sq y))
unfolding sq mul le
sq_mono (inf false) (inf false) p q h = tt
sq_mono (inf false) (fin false n d) p q h = absurd h
sq_mono (fin false m e) (inf false) p q h =
    let a = m * up e in
    le-top (round binary64 false (a * a) (down e * down e)) (round-nonneg binary64 (a * a) (down e * down e))
sq_mono (fin false m e) (fin false n d) p q h =
    let a = m * up e in
    let b = n * up d in
    round_mono binary64 (a * a) (down e * down e) (b * b) (down d * down d)
    (mul-pos (down_pos e) (down_pos e)) (mul-pos (down_pos d) (down_pos d))
    (squares a (down e) b (down d) (to_le (a * down d) (b * down e) h))
sq_mono nan y p q h = elim p [ ]
sq_mono (inf false) nan p q h = elim q [ ]
sq_mono (inf false) (inf true) p q h = elim q [ ]
sq_mono (inf false) (fin true n d) p q h = elim q [ ]
sq_mono (inf true) y p q h = elim p [ ]
sq_mono (fin false m e) nan p q h = elim q [ ]
sq_mono (fin false m e) (inf true) p q h = elim q [ ]
sq_mono (fin false m e) (fin true n d) p q h = elim q [ ]
sq_mono (fin true m e) y p q h = elim p [ ]

-- ---- sums
pub add-nonneg : (x y : Float) → T (nonneg x) → T (nonneg y) → T (nonneg (add binary64 x y))
unfolding add
add-nonneg (inf false) (inf false) p q = tt
add-nonneg (inf false) (fin false n d) p q = tt
add-nonneg (fin false m e) (inf false) p q = tt
add-nonneg (fin false m e) (fin false n d) p q = round-nonneg binary64 (m * up e * down d + n * up d * down e) (down e * down d)
add-nonneg nan y p q = elim p [ ]
add-nonneg (inf false) nan p q = elim q [ ]
add-nonneg (inf false) (inf true) p q = elim q [ ]
add-nonneg (inf false) (fin true n d) p q = elim q [ ]
add-nonneg (inf true) y p q = elim p [ ]
add-nonneg (fin false m e) nan p q = elim q [ ]
add-nonneg (fin false m e) (inf true) p q = elim q [ ]
add-nonneg (fin false m e) (fin true n d) p q = elim q [ ]
add-nonneg (fin true m e) y p q = elim p [ ]

-- a / b ≤ c / d and p / q ≤ r / s, so their sums
sums : (a b c d p q r s : ℕ) → a * d ≤ c * b → p * s ≤ r * q → (a * q + p * b) * (d * s) ≤ (c * s + r * d) * (b * q)
sums a b c d p q r s h k =
    let x : a * d * (q * s) ≤ c * b * (q * s) = mul-le-mul_right (q * s) h in
    let y : p * s * (b * d) ≤ r * q * (b * d) = mul-le-mul_right (b * d) k in
    omega arith

add-top : (x y : Float) → T (nonneg x) → T (nonneg y) → T (le (add binary64 x y) (inf false))
add-top x y p q = le-top (add binary64 x y) (add-nonneg x y p q)

pub add_mono : (x y x' y' : Float) → T (nonneg x) → T (nonneg y) → T (nonneg x') → T (nonneg y') → T (le x x') → T (le y y')
    → T (le (add binary64 x y) (add binary64 x' y'))
unfolding add le
add_mono (inf false) y (inf false) (inf false) p q p' q' h k = add-top (inf false) y p q
add_mono (inf false) y (inf false) (fin false n' d') p q p' q' h k = add-top (inf false) y p q
add_mono (inf false) y (fin false m' e') y' p q p' q' h k = absurd h
add_mono (fin false m e) y (inf false) (inf false) p q p' q' h k = add-top (fin false m e) y p q
add_mono (fin false m e) y (inf false) (fin false n' d') p q p' q' h k = add-top (fin false m e) y p q
add_mono (fin false m e) y (fin false m' e') (inf false) p q p' q' h k = add-top (fin false m e) y p q
add_mono (fin false m e) (inf false) (fin false m' e') (fin false n' d') p q p' q' h k = absurd k
add_mono (fin false m e) (fin false n d) (fin false m' e') (fin false n' d') p q p' q' h k =
    let a = m * up e in
    let b = n * up d in
    let a' = m' * up e' in
    let b' = n' * up d' in
    round_mono binary64 (a * down d + b * down e) (down e * down d) (a' * down d' + b' * down e') (down e' * down d')
    (mul-pos (down_pos e) (down_pos d)) (mul-pos (down_pos e') (down_pos d'))
    (sums a (down e) a' (down e') b (down d) b' (down d')
    (to_le (a * down e') (a' * down e) h) (to_le (b * down d') (b' * down d) k))
add_mono nan y _ y' p q p' q' h k = elim p [ ]
add_mono (inf false) y nan y' p q p' q' h k = elim p' [ ]
add_mono (inf false) y (inf false) nan p q p' q' h k = elim q' [ ]
add_mono (inf false) y (inf false) (inf true) p q p' q' h k = elim q' [ ]
add_mono (inf false) y (inf false) (fin true n' d') p q p' q' h k = elim q' [ ]
add_mono (inf false) y (inf true) y' p q p' q' h k = elim p' [ ]
add_mono (inf false) y (fin true m' e') y' p q p' q' h k = elim p' [ ]
add_mono (inf true) y _ y' p q p' q' h k = elim p [ ]
add_mono (fin false m e) y nan y' p q p' q' h k = elim p' [ ]
add_mono (fin false m e) y (inf false) nan p q p' q' h k = elim q' [ ]
add_mono (fin false m e) y (inf false) (inf true) p q p' q' h k = elim q' [ ]
add_mono (fin false m e) y (inf false) (fin true n' d') p q p' q' h k = elim q' [ ]
add_mono (fin false m e) y (inf true) y' p q p' q' h k = elim p' [ ]
add_mono (fin false m e) y (fin false m' e') nan p q p' q' h k = elim q' [ ]
add_mono (fin false m e) y (fin false m' e') (inf true) p q p' q' h k = elim q' [ ]
add_mono (fin false m e) nan (fin false m' e') (fin _ n' d') p q p' q' h k = elim q [ ]
add_mono (fin false m e) (inf false) (fin false m' e') (fin true n' d') p q p' q' h k = elim q' [ ]
add_mono (fin false m e) (inf true) (fin false m' e') (fin _ n' d') p q p' q' h k = elim q [ ]
add_mono (fin false m e) (fin false n d) (fin false m' e') (fin true n' d') p q p' q' h k = elim q' [ ]
add_mono (fin false m e) (fin true n d) (fin false m' e') (fin _ n' d') p q p' q' h k = elim q [ ]
add_mono (fin false m e) y (fin true m' e') y' p q p' q' h k = elim p' [ ]
add_mono (fin true m e) y _ y' p q p' q' h k = elim p [ ]

-- ---- the squared distance is not negative
pub sq-sub-nonneg : (x y : Float) → T (finite x) → T (finite y) → T (nonneg (leg x y))
sq-sub-nonneg x y p q = rw (sq-sub x y p q) (sq-nonneg (rounded_gap x y) (round-nonneg binary64 (gap x y) (den x * den y)))

pub d2-nonneg : (ax ay bx by : Float) → T (finite ax) → T (finite ay) → T (finite bx) → T (finite by) → T (nonneg (d2 ax ay bx by))
unfolding d2
d2-nonneg ax ay bx by p q r s = add-nonneg (leg ax bx) (leg ay by) (sq-sub-nonneg ax bx p r) (sq-sub-nonneg ay by q s)
