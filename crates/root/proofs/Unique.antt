-- Two floats that are the root of one float are equal: `root_unique`. A larger pattern has a larger float, so of two
-- roots the point halfway up from the lower is at most the point halfway down from the higher, and the input would lie
-- on both sides of it. Assumes nothing.
use mathlib.Core.Path.{◌≡◌, refl, sym, ap, ◌∙◌, subst}
use mathlib.Core.Logic.{◌⊎◌, inl, inr}
use mathlib.Core.Bool.{Bool, true, false, cond, true≢false}
use Prim.Native.Nat.{ℕ, zero, suc, ◌+◌, ◌-◌, ◌*◌, ◌/◌, ◌%◌, ◌^◌, ◌≤◌, ◌<◌}
use native.Mathlib.Nat.{le_refl, le_trans, eq-or-lt_of_le, le_of_eq, mul-le-mul, mul-le-mul_right, lt_irrefl, lt_of_lt_of_le, lt_of_le_of_lt, lt_of_not-le, lt_trans, add-le-add}
use native.Mathlib.Decide.{dec_le}
use native.Mathlib.Omega.{arith}
use lib.Dec.{T, eqb}
use lib.Ieee.{Float, nan, inf, fin, binary64, of_fields, of_bits, to_bits, fits}
use lib.Ieee.Bits.{of_bits-to_bits, to_bits-lt}
use lib.Ieee.Exact.{HasValue}
use lib.Ieee.Positive.{positive}
use Rattle.root.specs.Root.{Root, Nearest, units, next, previous}
use Rattle.root.specs.Steps.{lead, infinity, sign, val}
use Rattle.root.proofs.Patterns.{fieldVal, val-low, val_at}
use Rattle.root.proofs.Halfway.{val-next}
use Rattle.root.proofs.Floats.{of_bits_signed, of_bits_unsigned, fields_top, fields_value, units_bits, units-next, units-previous}

-- ---- a larger pattern is a larger float
val-low-to : (b : ℕ) → b ≤ lead → val b ≡ b
val-low-to b h = go (eq-or-lt_of_le h)
  where
    go : (b ≡ lead) ⊎ (b < lead) → val b ≡ b
    go (inl e) = ap val e ∙ val_at 0 lead (omega arith) (omega arith) ∙ sym e
    go (inr l) = val-low b l

val_step : (b : ℕ) → val b ≤ val (b + 1)
val_step b = go (dec_le lead b)
  where
    go : Dec (lead ≤ b) → val b ≤ val (b + 1)
    go (no n) =
        let l = lt_of_not-le n in
        rw (val-low-to b (omega arith), val-low-to (b + 1) (omega arith)) (omega arith)
    go (yes l) =
        let x = b / lead - 1 in
        let d = lead + b % lead in
        let e : b ≡ x * lead + d = omega arith in
        subst (λ (y : ℕ). val y ≤ val (y + 1)) (sym e)
        (rw (val_at x d (omega arith) (omega arith), val-next x d (omega arith) (omega arith)) (mul-le-mul_right (2 ^ x) (omega arith)))

val-up : (b d : ℕ) → val b ≤ val (b + d)
val-up b zero = le_of_eq (ap val (omega arith))
val-up b (suc d) =
    let e : b + suc d ≡ b + d + 1 = omega arith in
    le_trans (val-up b d) (rw e (val_step (b + d)))

pub val_mono : (b c : ℕ) → b ≤ c → val b ≤ val c
val_mono b c h = let e : b + (c - b) ≡ c = omega arith in rw e at (val-up b (c - b))

-- ---- what is finite and above zero has a pattern below the infinity's
not_negative : (x : Float) (a c : ℕ) → HasValue x true a c → T (positive x) → ⊥
not_negative nan a c v p = absurd p
not_negative (inf s) a c v p = absurd p
not_negative (fin true m e) a c v p = absurd p
not_negative (fin false m e) a c v p = absurd (true≢false (sym v.0))

fields_not_positive : (s : Bool) (x t : ℕ) → x ≤ 2047 → (x < 2047 → s ≡ true) → T (positive (of_fields binary64 s x t)) → ⊥
fields_not_positive s x t h k p = go (eq-or-lt_of_le h)
  where
    top : (s q : Bool) → T (positive (cond q (inf s) nan)) → ⊥
    top s true p = absurd p
    top s false p = absurd p

    go : (x ≡ 2047) ⊎ (x < 2047) → ⊥
    go (inl e) = top s (eqb t 0) (subst (λ (v : Float). T (positive v)) (ap (λ (y : ℕ). of_fields binary64 s y t) e ∙ fields_top s t) p)
    go (inr l) = not_negative (of_fields binary64 s x t) (fieldVal x t) (2 ^ 1074) (subst (λ (b : Bool). HasValue (of_fields binary64 s x t) b (fieldVal x t) (2 ^ 1074)) (k l) (fields_value s x t l)) p

not_positive : (b : ℕ) → infinity ≤ b → b < 2 * sign → T (positive (of_bits binary64 b)) → ⊥
not_positive b h k p = go (dec_le sign b)
  where
    at : {v : Float} → of_bits binary64 b ≡ v → T (positive v)
    at e = subst (λ (x : Float). T (positive x)) e p

    go : Dec (sign ≤ b) → ⊥
    go (yes l) = fields_not_positive true (b % sign / lead) (b % lead) (omega arith) (λ m. refl) (at (of_bits_signed b l))
    go (no n) =
        let l = lt_of_not-le n in
        fields_not_positive false (b / lead) (b % lead) (omega arith) (λ m. absurd (never m)) (at (of_bits_unsigned b l))
      where
        never : b / lead < 2047 → ⊥
        never m = omega arith

finite_bits : (r : Float) → T (fits binary64 r) → T (positive r) → to_bits binary64 r < infinity
finite_bits r f p = lt_of_not-le (λ h. not_positive (to_bits binary64 r) h (to_bits-lt binary64 r f) (subst (λ (x : Float). T (positive x)) (sym (of_bits-to_bits binary64 r f)) p))

-- ---- the points halfway, in order
halfway : (b c : ℕ) → b < c → c < infinity
    → units (of_bits binary64 b) + units (next (of_bits binary64 b)) ≤ units (previous (of_bits binary64 c)) + units (of_bits binary64 c)
halfway b c h k =
    rw (units-next b (omega arith), units-previous c k, units_bits b (omega arith), units_bits c k)
    (add-le-add (val_mono b (c - 1) (omega arith)) (val_mono (b + 1) c (omega arith)))

apart : (x r q : Float) → T (fits binary64 r) → T (fits binary64 q) → T (positive q) → Nearest x r → Nearest x q → to_bits binary64 r < to_bits binary64 q → ⊥
apart x r q f g p n m h =
    let l = halfway (to_bits binary64 r) (to_bits binary64 q) h (finite_bits q g p) in
    let k : units r + units (next r) ≤ units (previous q) + units q = rw (of_bits-to_bits binary64 r f, of_bits-to_bits binary64 q g) at l in
    lt_irrefl _ (lt_trans (lt_of_lt_of_le n.below (mul-le-mul k k)) m.above)

nearest_unique : (x r q : Float) → T (fits binary64 r) → T (fits binary64 q) → T (positive r) → T (positive q) → Nearest x r → Nearest x q → r ≡ q
nearest_unique x r q f g p o n m =
    let e : to_bits binary64 r ≡ to_bits binary64 q = go (dec_le (to_bits binary64 r) (to_bits binary64 q)) in
    sym (of_bits-to_bits binary64 r f) ∙ ap (of_bits binary64) e ∙ of_bits-to_bits binary64 q g
  where
    go : Dec (to_bits binary64 r ≤ to_bits binary64 q) → to_bits binary64 r ≡ to_bits binary64 q
    go (no k) = absurd (apart x q r g f p m n (lt_of_not-le k))
    go (yes k) = go2 (eq-or-lt_of_le k)
      where
        go2 : (to_bits binary64 r ≡ to_bits binary64 q) ⊎ (to_bits binary64 r < to_bits binary64 q) → to_bits binary64 r ≡ to_bits binary64 q
        go2 (inl e) = e
        go2 (inr l) = absurd (apart x r q f g o n m l)

-- of the floats that binary64 holds, at most one is the root of x
pub root_unique : (x r q : Float)
    → T (fits binary64 r)
    → T (fits binary64 q)
    → Root x r
    → Root x q
    → r ≡ q
unfolding Root
root_unique nan r q f g h k = h ∙ sym k
root_unique (inf true) r q f g h k = h ∙ sym k
root_unique (inf false) r q f g h k = h ∙ sym k
root_unique (fin true zero e) r q f g h k = h ∙ sym k
root_unique (fin false zero e) r q f g h k = h ∙ sym k
root_unique (fin true (suc m) e) r q f g h k = h ∙ sym k
root_unique (fin false (suc m) e) r q f g h k = nearest_unique (fin false (suc m) e) r q f g h.0 k.0 h.1 k.1

-- No float is nearer: of any other float above zero, x lies on r's side of the point halfway to it.
pub nearer_than_below : (x r y : Float) → T (fits binary64 r) → T (fits binary64 y) → T (positive r) → Nearest x r → to_bits binary64 y < to_bits binary64 r
    → (units y + units r) * (units y + units r) < 4 * 2 ^ 1074 * units x
nearer_than_below x r y f g p n h =
    let b = to_bits binary64 r in
    let fin-r = finite_bits r f p in
    let l : units (of_bits binary64 (to_bits binary64 y)) ≤ units (previous (of_bits binary64 b)) = rw (units_bits (to_bits binary64 y) (omega arith), units-previous b fin-r) (val_mono (to_bits binary64 y) (b - 1) (omega arith)) in
    let k : units y ≤ units (previous r) = rw (of_bits-to_bits binary64 r f, of_bits-to_bits binary64 y g) at l in
    lt_of_le_of_lt (mul-le-mul (add-le-add k (le_refl (units r))) (add-le-add k (le_refl (units r)))) n.above

pub nearer_than_above : (x r y : Float) → T (fits binary64 r) → T (fits binary64 y) → T (positive y) → Nearest x r → to_bits binary64 r < to_bits binary64 y
    → 4 * 2 ^ 1074 * units x < (units r + units y) * (units r + units y)
nearer_than_above x r y f g p n h =
    let b = to_bits binary64 r in
    let fin-y = finite_bits y g p in
    let l : units (next (of_bits binary64 b)) ≤ units (of_bits binary64 (to_bits binary64 y)) = rw (units-next b (omega arith), units_bits (to_bits binary64 y) fin-y) (val_mono (b + 1) (to_bits binary64 y) (omega arith)) in
    let k : units (next r) ≤ units y = rw (of_bits-to_bits binary64 r f, of_bits-to_bits binary64 y g) at l in
    lt_of_lt_of_le n.below (mul-le-mul (add-le-add (le_refl (units r)) k) (add-le-add (le_refl (units r)) k))
