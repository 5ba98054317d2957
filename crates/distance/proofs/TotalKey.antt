-- The order of the keys is IEEE 754's totalOrder, of all numbers that are no NaN, infinities and both zeros included
-- (`key-total`); and equal keys are equal numbers (`key_inj`).
-- A bit pattern without its sign rises with the size (`mag_mono`), and differs where the value does (`bits_inj`). The
-- key turns the order of the negative numbers about and puts them below the others, so -0 is just below +0.
-- Assumes nothing.
use mathlib.Core.Path.{◌≡◌, refl, sym, ap, ◌∙◌, subst}
use mathlib.Core.Logic.{inl, inr}
use mathlib.Core.Bool.{Bool, true, false, not, ◌&&◌, ◌||◌, cond}
use Prim.Native.Nat.{ℕ, zero, suc, ◌+◌, ◌-◌, ◌*◌, ◌/◌, ◌%◌, ◌^◌, ◌≤◌, ◌<◌}
use native.Mathlib.Nat.{le_trans, le_of_eq, le_of_lt, lt_of_le_of_lt, eq-or-lt_of_le, lt_irrefl, not-le_of_lt}
use native.Mathlib.Nat.{mul-le-mul_right, mul_right_comm, pow-suc, le-div_iff_mul-le, div-one}
use native.Mathlib.Omega.{arith}
use lib.IntN.{ℤ, pos}
use lib.Dec.{T, leb, ltb, eqb, eqb→eq, leb→le, le→leb, nleb→lt, ltb→lt, lt→ltb, not_T, lit<}
use lib.Arith.{lt_of_le-ne}
use lib.Pow.{pow-add, pow_pos, shr_mono}
use lib.Ieee.{Float, nan, inf, fin, Format, binary64, prec, emax, low, hid, top, up, down, size, le, lt, eq, is_nan, fits, to_bits, neg}
use lib.Ieee.Digits.{size-lt, size-le, size_reaches}
use lib.Ieee.Fits.{two, two-le_pos, kept-lt, down_pos, neg-fits, inf-fits, and_l, and_r}
use lib.Ieee.Nearest.{div_mono}
use lib.Ieee.Positive.{num, den}
use lib.Ieee.Bits.{to_bits-lt, is_true, is_false}
use lib.Ieee.Scale.{finite}
use Rattle.distance.specs.TotalOrder.{key_bits, key, negative, total_lt}
use Rattle.distance.proofs.Order.{bits_inj, same_bits, lt-is_not_le}
use Rattle.distance.proofs.Prune.{le_of_not_lt}

-- ---- the two halves of the key
abbrev sign_bit : ℕ
sign_bit = 0x8000_0000_0000_0000

abbrev all_bits : ℕ
all_bits = 0xffff_ffff_ffff_ffff

pub key-high : (b : ℕ) → 0x8000_0000_0000_0000 ≤ b → key_bits b ≡ 0xffff_ffff_ffff_ffff - b
unfolding key_bits
key-high b h = ap (λ (t : Bool). cond t (all_bits - b) (b + sign_bit)) (is_true (leb sign_bit b) (le→leb sign_bit b h))

pub key-low : (b : ℕ) → b < 0x8000_0000_0000_0000 → key_bits b ≡ b + 0x8000_0000_0000_0000
unfolding key_bits
key-low b h =
    ap (λ (t : Bool). cond t (all_bits - b) (b + sign_bit))
    (is_false (leb sign_bit b) (not_T (leb sign_bit b) (λ t. not-le_of_lt h (leb→le sign_bit b t))))

-- ---- the pattern of a size, without the sign: it rises with the size
-- of n units of the smallest value above zero
abbrev mag : Format → ℕ → ℕ
mag f n = (size n - prec f) * hid f + n / 2 ^ (size n - prec f)

fewer : (x y p : ℕ) → x ≤ y → x - p ≤ y - p
fewer x y p h = omega arith

halves : (p : ℕ) → 0 < p → 2 ^ p ≡ 2 ^ (p - 1) * 2
halves zero h = absurd (lt_irrefl 0 h)
halves (suc p) h = pow-suc 2 p ∙ ap (λ (z : ℕ). 2 ^ z * 2) (back p)
  where
    back : (p : ℕ) → p ≡ suc p - 1
    back p = omega arith

in_use : (z p : ℕ) → 0 < p → 0 < z - p → p - 1 + (z - p) < z
in_use z p P h = omega arith

-- a greater exponent outdoes every fraction
step : (H u v j k P : ℕ) → u < P → P ≡ H * 2 → H ≤ v → suc j * H ≤ k * H → j * H + u ≤ k * H + v
step H u v j k P a b c d = omega arith

mag_mono : (f : Format) (a b : ℕ) → a ≤ b → mag f a ≤ mag f b
mag_mono f a b h =
    let p = prec f in
    let P = two-le_pos p (two f) in
    let j = size a - p in
    let k = size b - p in
    elim (eq-or-lt_of_le (fewer (size a) (size b) p (size-le a (size b) (lt_of_le_of_lt h (size-lt b))))) [
      | inl e ↦ subst (λ (z : ℕ). z * hid f + a / 2 ^ z ≤ mag f b) (sym e) (level (k * hid f) (a / 2 ^ k) (b / 2 ^ k) (shr_mono k h))
      | inr l ↦
          let full = size_reaches b (p - 1 + k) (in_use (size b) p P (pos_of j k l)) in
          step (hid f) (a / 2 ^ j) (b / 2 ^ k) j k (2 ^ p) (kept-lt p a) (halves p P)
          ((le-div_iff_mul-le (pow_pos k)).1 (le_trans (le_of_eq (sym (pow-add 2 (p - 1) k))) full))
          (mul-le-mul_right (hid f) l)
    ]
  where
    level : (c x y : ℕ) → x ≤ y → c + x ≤ c + y
    level c x y h = omega arith

    pos_of : (j k : ℕ) → j < k → 0 < k
    pos_of j k h = omega arith

-- ---- the pattern of a finite value
-- m * 2^e in units of the smallest value above zero
abbrev unit_count : Format → ℕ → ℤ → ℕ
unit_count f m e = m * up e * 2 ^ low f / down e

-- its pattern
abbrev size_bits : Format → ℕ → ℤ → ℕ
size_bits f m e = mag f (unit_count f m e)

bits_pos : (f : Format) (m : ℕ) (e : ℤ) → to_bits f (fin false m e) ≡ size_bits f m e
unfolding to_bits
bits_pos f m e = zero-front ((size (unit_count f m e) - prec f) * hid f) (unit_count f m e / 2 ^ (size (unit_count f m e) - prec f))
  where
    zero-front : (a b : ℕ) → 0 + a + b ≡ a + b
    zero-front a b = omega arith

bits_neg : (f : Format) (m : ℕ) (e : ℤ) → to_bits f (fin true m e) ≡ top f + size_bits f m e
unfolding to_bits
bits_neg f m e = regroup (top f) ((size (unit_count f m e) - prec f) * hid f) (unit_count f m e / 2 ^ (size (unit_count f m e) - prec f))
  where
    regroup : (t a b : ℕ) → t + a + b ≡ t + (a + b)
    regroup t a b = omega arith

flip_fits : (f : Format) (s : Bool) (m : ℕ) (e : ℤ) → T (fits f (fin s m e)) → T (fits f (fin (not s) m e))
unfolding neg
flip_fits f s m e h = unfold neg in neg-fits f (fin s m e) h

-- below the sign's place
size_bits-lt : (f : Format) (m : ℕ) (e : ℤ) → T (fits f (fin true m e)) → size_bits f m e < top f
size_bits-lt f m e h = drop-top (top f) (size_bits f m e) (to_bits f (fin true m e)) (to_bits-lt f (fin true m e) h) (bits_neg f m e)
  where
    drop-top : (t m n : ℕ) → n < 2 * t → n ≡ t + m → m < t
    drop-top t m n h k = omega arith

unit_count-le : (f : Format) (m n : ℕ) (e d : ℤ) → m * up e * down d ≤ n * up d * down e → unit_count f m e ≤ unit_count f n d
unit_count-le f m n e d h =
    div_mono (m * up e * 2 ^ low f) (down e) (n * up d * 2 ^ low f) (down d) (down_pos e) (down_pos d)
    (le_trans (le_of_eq (mul_right_comm (m * up e) (2 ^ low f) (down d)))
    (le_trans (mul-le-mul_right (2 ^ low f) h) (le_of_eq (mul_right_comm (n * up d) (down e) (2 ^ low f)))))

same_fraction : (x y : Float) → x ≡ y → num x * den y ≡ num y * den x
same_fraction x y h = subst (λ (z : Float). num x * den z ≡ num z * den x) h refl

-- the sizes are in order and the values differ: so do the patterns
size_bits_mono : (f : Format) (m n : ℕ) (e d : ℤ) → T (fits f (fin false m e)) → T (fits f (fin false n d))
    → m * up e * down d < n * up d * down e → size_bits f m e < size_bits f n d
size_bits_mono f m n e d p q h = lt_of_le-ne (mag_mono f (unit_count f m e) (unit_count f n d) (unit_count-le f m n e d (le_of_lt h))) differ
  where
    differ : size_bits f m e ≡ size_bits f n d → ⊥
    differ k =
        let same = bits_inj f (fin false m e) (fin false n d) p q (bits_pos f m e ∙ k ∙ sym (bits_pos f n d)) in
        let c = same_fraction (fin false m e) (fin false n d) same in
        lt_irrefl (n * up d * down e) (subst (λ (z : ℕ). z < n * up d * down e) c h)

-- ---- the keys of the two signs; of infinity too
abbrev low_key : ℕ → ℕ
low_key a = 0xffff_ffff_ffff_ffff - (0x8000_0000_0000_0000 + a)

abbrev high_key : ℕ → ℕ
high_key a = a + 0x8000_0000_0000_0000

key-pos : (m : ℕ) (e : ℤ) → T (fits binary64 (fin false m e)) → key (fin false m e) ≡ high_key (size_bits binary64 m e)
key-pos m e p =
    ap key_bits (bits_pos binary64 m e) ∙ key-low (size_bits binary64 m e) (size_bits-lt binary64 m e (flip_fits binary64 false m e p))

key-neg : (m : ℕ) (e : ℤ) → key (fin true m e) ≡ low_key (size_bits binary64 m e)
key-neg m e =
    ap key_bits (bits_neg binary64 m e) ∙ key-high (sign_bit + size_bits binary64 m e) (front sign_bit (size_bits binary64 m e))
  where
    front : (a b : ℕ) → a ≤ a + b
    front a b = omega arith

abbrev inf_bits : ℕ
inf_bits = 0x7ff0_0000_0000_0000

key-inf : (s : Bool) → key (inf s) ≡ cond s (low_key inf_bits) (high_key inf_bits)
unfolding key_bits to_bits
key-inf true = refl
key-inf false = refl

-- x and y are two keys
module _ (a b x y : ℕ) where
  pos-pos : a < b → x ≡ high_key a → y ≡ high_key b → x < y
  pos-pos h p q = omega arith

  neg-pos : x ≡ low_key a → y ≡ high_key b → x < y
  neg-pos p q = omega arith

  neg-neg : a < 0x8000_0000_0000_0000 → b < a → x ≡ low_key a → y ≡ low_key b → x < y
  neg-neg t h p q = omega arith

-- ---- a number below another has the lower key
-- below zero, or -0, is below what is not
pub key_signs : (m n : ℕ) (e d : ℤ) → T (fits binary64 (fin false n d)) → key (fin true m e) < key (fin false n d)
key_signs m n e d q =
    neg-pos (size_bits binary64 m e) (size_bits binary64 n d) (key (fin true m e)) (key (fin false n d)) (key-neg m e) (key-pos n d q)

pub key-lt : (x y : Float) → T (finite x) → T (finite y) → T (fits binary64 x) → T (fits binary64 y) → T (lt x y) → key x < key y
unfolding lt
key-lt (fin true m e) (fin true n d) X Y p q h =
    let larger = ltb→lt (n * up d * down e) (m * up e * down d) h in
    neg-neg (size_bits binary64 m e) (size_bits binary64 n d) (key (fin true m e)) (key (fin true n d)) (size_bits-lt binary64 m e p)
    (size_bits_mono binary64 n m d e (flip_fits binary64 true n d q) (flip_fits binary64 true m e p) larger) (key-neg m e) (key-neg n d)
key-lt (fin true m e) (fin false n d) X Y p q h = key_signs m n e d q
key-lt (fin false m e) (fin true n d) X Y p q h = absurd h
key-lt (fin false m e) (fin false n d) X Y p q h =
    let smaller = ltb→lt (m * up e * down d) (n * up d * down e) h in
    pos-pos (size_bits binary64 m e) (size_bits binary64 n d) (key (fin false m e)) (key (fin false n d))
    (size_bits_mono binary64 m n e d p q smaller) (key-pos m e p) (key-pos n d q)
key-lt nan y X Y p q h = elim X [ ]
key-lt (inf _) y X Y p q h = elim X [ ]
key-lt (fin false m e) nan X Y p q h = elim Y [ ]
key-lt (fin false m e) (inf _) X Y p q h = elim Y [ ]
key-lt (fin true m e) nan X Y p q h = elim Y [ ]
key-lt (fin true m e) (inf _) X Y p q h = elim Y [ ]

-- what is finite has a pattern below that of infinity
num-le : (f : Format) (s : Bool) (m : ℕ) (e : ℤ) → T (fits f (fin s m e)) → m * up e ≤ 2 ^ suc (emax f) * down e
unfolding fits
num-le f s zero e h = omega arith
num-le f s (suc m) e h =
    let shape = eqb (suc m % 2) 1 && ltb (suc m) (2 ^ prec f) && leb (down e) (2 ^ low f) in
    let range = ltb (suc m * up e) (2 ^ suc (emax f) * down e) in
    le_of_lt (ltb→lt (suc m * up e) (2 ^ suc (emax f) * down e) (and_r shape range h))

unit_count-top : (f : Format) (s : Bool) (m : ℕ) (e : ℤ) → T (fits f (fin s m e)) → unit_count f m e ≤ 2 ^ suc (emax f) * 2 ^ low f
unit_count-top f s m e h =
    let t = 2 ^ suc (emax f) * 2 ^ low f in
    let x : m * up e * 2 ^ low f ≤ 2 ^ suc (emax f) * down e * 2 ^ low f = mul-le-mul_right (2 ^ low f) (num-le f s m e h) in
    le_trans (div_mono (m * up e * 2 ^ low f) (down e) t 1 (down_pos e) (pow_pos 0) (omega arith)) (le_of_eq (div-one t))

mag-top : mag binary64 (2 ^ suc (emax binary64) * 2 ^ low binary64) ≡ inf_bits
unfolding size
mag-top = refl

finite-below : (m : ℕ) (e : ℤ) → T (fits binary64 (fin false m e)) → size_bits binary64 m e < inf_bits
finite-below m e h =
    let t = 2 ^ suc (emax binary64) * 2 ^ low binary64 in
    lt_of_le-ne (le_trans (mag_mono binary64 (unit_count binary64 m e) t (unit_count-top binary64 false m e h)) (le_of_eq mag-top)) differ
  where
    bits_inf : to_bits binary64 (inf false) ≡ inf_bits
    bits_inf = unfold to_bits in refl

    differ : size_bits binary64 m e ≡ inf_bits → ⊥
    differ k =
        let same = bits_inj binary64 (fin false m e) (inf false) h (inf-fits binary64 false) (bits_pos binary64 m e ∙ k ∙ sym bits_inf) in
        subst (λ (z : Float). T (finite z)) same tt

pub key-lt-all : (x y : Float) → T (fits binary64 x) → T (fits binary64 y) → T (lt x y) → key x < key y
key-lt-all nan y p q h = absurd (unfold lt in h)
key-lt-all (inf s) nan p q h = absurd (unfold lt in h)
key-lt-all (inf true) (inf true) p q h = absurd (unfold lt in h)
key-lt-all (inf true) (inf false) p q h = neg-pos inf_bits inf_bits (key (inf true)) (key (inf false)) (key-inf true) (key-inf false)
key-lt-all (inf false) (inf t) p q h = absurd (unfold lt in h)
key-lt-all (inf true) (fin true n d) p q h =
    neg-neg inf_bits (size_bits binary64 n d) (key (inf true)) (key (fin true n d))
    (lit< tt) (finite-below n d (flip_fits binary64 true n d q)) (key-inf true) (key-neg n d)
key-lt-all (inf true) (fin false n d) p q h =
    neg-pos inf_bits (size_bits binary64 n d) (key (inf true)) (key (fin false n d)) (key-inf true) (key-pos n d q)
key-lt-all (inf false) (fin t n d) p q h = absurd (unfold lt in h)
key-lt-all (fin s m e) nan p q h = absurd (unfold lt in h)
key-lt-all (fin s m e) (inf true) p q h = absurd (unfold lt in h)
key-lt-all (fin true m e) (inf false) p q h =
    neg-pos (size_bits binary64 m e) inf_bits (key (fin true m e)) (key (inf false)) (key-neg m e) (key-inf false)
key-lt-all (fin false m e) (inf false) p q h =
    pos-pos (size_bits binary64 m e) inf_bits (key (fin false m e)) (key (inf false)) (finite-below m e p) (key-pos m e p) (key-inf false)
key-lt-all (fin s m e) (fin t n d) p q h = key-lt (fin s m e) (fin t n d) tt tt p q h

-- ---- equal numbers: the sign decides, and -0 is below +0
is_lt : (a b : ℕ) → a < b → ltb a b ≡ true
is_lt a b h = is_true (ltb a b) (lt→ltb a b h)

is_not_lt : (a b : ℕ) → b ≤ a → ltb a b ≡ false
is_not_lt a b h = is_false (ltb a b) (not_T (ltb a b) (λ (t : T (ltb a b)). not-le_of_lt (ltb→lt a b t) h))

pub key-zeros : key (fin true 0 (pos 0)) < key (fin false 0 (pos 0))
unfolding key_bits to_bits
key-zeros = lit< tt

same_key : (s : Bool) (m n : ℕ) (e d : ℤ) → T (eqb (m * up e * down d) (n * up d * down e) && true) → key (fin s n d) ≤ key (fin s m e)
same_key s m n e d h =
    let a = m * up e * down d in
    let b = n * up d * down e in
    le_of_eq (ap key_bits (sym (same_bits binary64 s m n e d (eqb→eq a b (and_l (eqb a b) true h)))))

key-eq : (x y : Float) → T (fits binary64 x) → T (fits binary64 y) → T (eq x y) → ltb (key x) (key y) ≡ (negative x && not (negative y))
unfolding eq
key-eq nan y p q h = absurd h
key-eq (inf s) nan p q h = absurd h
key-eq (inf true) (inf true) p q h = is_not_lt (key (inf true)) (key (inf true)) (le_of_eq refl)
key-eq (inf true) (inf false) p q h = absurd h
key-eq (inf false) (inf true) p q h = absurd h
key-eq (inf false) (inf false) p q h = is_not_lt (key (inf false)) (key (inf false)) (le_of_eq refl)
key-eq (inf s) (fin t n d) p q h = absurd h
key-eq (fin s m e) nan p q h = absurd h
key-eq (fin s m e) (inf t) p q h = absurd h
key-eq (fin true m e) (fin true n d) p q h = is_not_lt (key (fin true m e)) (key (fin true n d)) (same_key true m n e d h)
key-eq (fin true m e) (fin false n d) p q h = is_lt (key (fin true m e)) (key (fin false n d)) (key_signs m n e d q)
key-eq (fin false m e) (fin true n d) p q h = is_not_lt (key (fin false m e)) (key (fin true n d)) (le_of_lt (key_signs n m d e p))
key-eq (fin false m e) (fin false n d) p q h = is_not_lt (key (fin false m e)) (key (fin false n d)) (same_key false m n e d h)

-- ---- the order of the keys is totalOrder's
module _ (x y : Float) (X : T (not (is_nan x))) (Y : T (not (is_nan y))) (p : T (fits binary64 x)) (q : T (fits binary64 y)) where
  neither : lt x y ≡ false → eq x y ≡ false → lt y x ≡ true
  unfolding le
  neither a b = lt-is_not_le y x Y X ∙ ap not (ap (λ (z : Bool). z || eq x y) a ∙ b)

  pub key-total : ltb (key x) (key y) ≡ total_lt x y
  unfolding total_lt
  key-total = go (lt x y) (eq x y) refl refl
    where
      go : (a b : Bool) → lt x y ≡ a → eq x y ≡ b → ltb (key x) (key y) ≡ (a || (b && (negative x && not (negative y))))
      go true b g h = is_lt (key x) (key y) (key-lt-all x y p q (rw g tt))
      go false true g h = key-eq x y p q (rw h tt)
      go false false g h = is_not_lt (key x) (key y) (le_of_lt (key-lt-all y x q p (rw (neither g h) tt)))

  -- keys in order are numbers in order
  pub le_of_key-le : key x ≤ key y → T (le x y)
  le_of_key-le h =
      let not-above = not_T (lt y x) (λ (l : T (lt y x)). not-le_of_lt (key-lt-all y x q p l) h) in
      le_of_not_lt y x Y X (is_false (lt y x) not-above)

-- ---- the key tells numbers apart
bits_of_key : (b c : ℕ) → b < 2 * 0x8000_0000_0000_0000 → c < 2 * 0x8000_0000_0000_0000 → key_bits b ≡ key_bits c → b ≡ c
bits_of_key b c B C h =
    go (leb sign_bit b) (leb sign_bit c) (leb→le sign_bit b) (nleb→lt sign_bit b) (leb→le sign_bit c) (nleb→lt sign_bit c)
  where
    go : (x y : Bool) → (T x → sign_bit ≤ b) → (T (not x) → b < sign_bit) → (T y → sign_bit ≤ c) → (T (not y) → c < sign_bit) → b ≡ c
    go true true p q r s = let u = key-high b (p tt) in let v = key-high c (r tt) in omega arith
    go true false p q r s = let u = key-high b (p tt) in let v = key-low c (s tt) in let x = p tt in omega arith
    go false true p q r s = let u = key-low b (q tt) in let v = key-high c (r tt) in let x = r tt in omega arith
    go false false p q r s = let u = key-low b (q tt) in let v = key-low c (s tt) in omega arith

pub key_inj : (x y : Float) → T (fits binary64 x) → T (fits binary64 y) → key x ≡ key y → x ≡ y
key_inj x y p q h =
    bits_inj binary64 x y p q (bits_of_key (to_bits binary64 x) (to_bits binary64 y) (to_bits-lt binary64 x p) (to_bits-lt binary64 y q) h)
