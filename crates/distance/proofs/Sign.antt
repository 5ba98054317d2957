-- The square of a rounded difference depends on the size of the difference alone: sq (x - y), as rounded, is the
-- square of |x - y| rounded (`sq-sub`). Rounding is symmetric about zero (`round-neg`) and a square forgets the sign,
-- so each of the sign cases of a difference comes to one fraction of whole numbers, `gap x y / (den x * den y)`,
-- about which the later files argue with no sign left. Assumes nothing.
use mathlib.Core.Path.{◌≡◌, refl, ap, ◌∙◌}
use mathlib.Core.Bool.{Bool, true, false, not, ◌&&◌, beq, cond}
use Prim.Native.Nat.{ℕ, zero, suc, ◌+◌, ◌-◌, ◌*◌, ◌^◌, ◌≤◌, ◌<◌}
use native.Mathlib.Omega.{arith}
use lib.Dec.{T, ltb, ltb→lt, nltb→le}
use lib.IntN.{ℤ}
use lib.Ieee.{Float, nan, inf, fin, Format, binary64, prec, emax, low, up, down, odd, units, round, neg, sum, sub, mul}
use lib.Ieee.Scale.{finite}
use Rattle.distance.specs.Distance.{sq}

-- ---- rounding is symmetric about zero
odd-neg : (d : ℕ) (q k l : ℕ) → odd d true q k l ≡ neg (odd d false q k l)
unfolding odd neg
odd-neg d zero k l = refl
odd-neg d (suc q) k l = refl

cond_neg : (b : Bool) (x : Float) → cond b (neg x) (inf true) ≡ neg (cond b x (inf false))
unfolding neg
cond_neg true x = refl
cond_neg false x = refl

units-neg : (f : Format) (q k : ℕ) → units f true q k ≡ neg (units f false q k)
unfolding units
units-neg f q k = rw odd-neg (cond_neg (ltb (q * 2 ^ k) (2 ^ (low f + suc (emax f)))) (odd (suc (prec f)) false q k (low f)))

pub round-neg : (f : Format) (a c : ℕ) → round f true a c ≡ neg (round f false a c)
unfolding round
round-neg f a c = units-neg f _ _

-- ---- a square forgets the sign
sq-neg : (x : Float) → sq (neg x) ≡ sq x
unfolding sq mul neg
sq-neg nan = refl
sq-neg (inf true) = refl
sq-neg (inf false) = refl
sq-neg (fin true m e) = refl
sq-neg (fin false m e) = refl

pub sq-round : (s : Bool) (a c : ℕ) → sq (round binary64 s a c) ≡ sq (round binary64 false a c)
sq-round true a c = ap sq (round-neg binary64 a c) ∙ sq-neg (round binary64 false a c)
sq-round false a c = refl

-- |a - b|
abbrev pub apart : ℕ → ℕ → ℕ
apart a b = (a - b) + (b - a)

-- the size of ±a + ±b
abbrev pub size_of_sum : Bool → ℕ → Bool → ℕ → ℕ
size_of_sum s a t b = cond (beq s t) (a + b) (apart a b)

-- the square of a / c, rounded
abbrev sq_of : ℕ → ℕ → Float
sq_of a c = sq (round binary64 false a c)

unlike-sum : (s t : Bool) (a b c : ℕ)
    → sq (cond (ltb a b) (round binary64 t (b - a) c) (round binary64 (s && ltb b a) (a - b) c)) ≡ sq_of (apart a b) c
unlike-sum s t a b c = go (ltb a b) (ltb→lt a b) (nltb→le a b)
  where
    from-above : b ≤ a → a - b ≡ apart a b
    from-above h = omega arith

    from-below : a < b → b - a ≡ apart a b
    from-below h = omega arith

    go : (z : Bool) → (T z → a < b) → (T (not z) → b ≤ a)
        → sq (cond z (round binary64 t (b - a) c) (round binary64 (s && ltb b a) (a - b) c)) ≡ sq_of (apart a b) c
    go true h k = sq-round t (b - a) c ∙ ap (λ (x : ℕ). sq_of x c) (from-below (h tt))
    go false h k = sq-round (s && ltb b a) (a - b) c ∙ ap (λ (x : ℕ). sq_of x c) (from-above (k tt))

pub sq-sum : (s : Bool) (a : ℕ) (t : Bool) (b c : ℕ) → sq (sum binary64 s a t b c) ≡ sq_of (size_of_sum s a t b) c
unfolding sum
sq-sum true a true b c = sq-round true (a + b) c
sq-sum false a false b c = refl
sq-sum true a false b c = unlike-sum true false a b c
sq-sum false a true b c = unlike-sum false true a b c

-- ---- a finite value is (plus x - less x) / den x, of whole numbers
abbrev pub plus : Float → ℕ
plus nan = 0
plus (inf s) = 0
plus (fin s m e) = cond s 0 (m * up e)

abbrev pub less : Float → ℕ
less nan = 0
less (inf s) = 0
less (fin s m e) = cond s (m * up e) 0

abbrev pub den : Float → ℕ
den nan = 1
den (inf s) = 1
den (fin s m e) = down e

-- |x - y| is gap x y / (den x * den y)
abbrev pub gap : Float → Float → ℕ
gap x y = apart (plus x * den y + less y * den x) (plus y * den x + less x * den y)

-- |x - y|, rounded once
abbrev pub rounded_gap : Float → Float → Float
rounded_gap x y = round binary64 false (gap x y) (den x * den y)

-- what d2 adds up, one for each axis
abbrev pub leg : Float → Float → Float
leg x y = sq (sub binary64 x y)

gap_is : (s t : Bool) (m n : ℕ) (e d : ℤ)
    → size_of_sum s (m * up e * down d) (not t) (n * up d * down e) ≡ gap (fin s m e) (fin t n d)
gap_is true true m n e d = omega arith
gap_is true false m n e d = omega arith
gap_is false true m n e d = omega arith
gap_is false false m n e d = omega arith

pub sq-sub : (x y : Float) → T (finite x) → T (finite y) → leg x y ≡ sq (rounded_gap x y)
unfolding sub
sq-sub (fin s m e) (fin t n d) p q =
    sq-sum s (m * up e * down d) (not t) (n * up d * down e) (down e * down d)
    ∙ ap (λ (z : ℕ). sq_of z (down e * down d)) (gap_is s t m n e d)
sq-sub nan y p q = elim p [ ]
sq-sub (inf _) y p q = elim p [ ]
sq-sub (fin s m e) nan p q = elim q [ ]
sq-sub (fin s m e) (inf _) p q = elim q [ ]
