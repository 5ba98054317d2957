-- `le` is an order of the values that are no NaN: total (`le_total`), transitive (`le_chain`), and antisymmetric as
-- data for two of one format that are not -0 (`le_antisym`); `lt` is its strict part (`lt-is_not_le`).
-- Two finite values compare as whole numbers (`under`); equal fractions have equal bit patterns, and a pattern tells
-- which value of the format it is (`bits_inj`). Assumes nothing.
use mathlib.Core.Path.{◌≡◌, refl, sym, ap, ◌∙◌, subst}
use mathlib.Core.Logic.{◌⊎◌, inl, inr}
use mathlib.Core.Bool.{Bool, true, false, not, ◌&&◌, cond}
use Prim.Native.Nat.{ℕ, zero, suc, ◌+◌, ◌-◌, ◌*◌, ◌/◌, ◌^◌, ◌≤◌, ◌<◌}
use native.Mathlib.Nat.{eq-or-lt_of_le, mul-pos, mul_right_comm, mul-le-mul_right, le_of_mul-le-mul_right, lt_of_not-le, lt_irrefl, zero-lt-suc}
use native.Mathlib.Omega.{arith}
use lib.IntN.{ℤ}
use lib.Dec.{T, eqb, lt→ltb, T_not}
use lib.Ieee.{Float, nan, inf, fin, Format, prec, low, hid, top, up, down, size, le, lt, eq, is_nan, fits, to_bits, of_bits}
use lib.Ieee.Fits.{up_pos, down_pos, and_i, eq→eqb}
use lib.Ieee.Nearest.{div_same}
use lib.Ieee.Bits.{of_bits-to_bits}
use lib.Ieee.Scale.{finite}
use Rattle.distance.proofs.Sign.{plus, less, den}
use Rattle.distance.proofs.Mono.{nonneg, or_l, or_r}
use Rattle.distance.proofs.Box.{under, strictly_under, lt→strictly_under, le→under, under-total}

-- ---- what is neither a NaN nor -0
abbrev pub plain : Float → Bool
plain nan = false
plain (inf s) = true
plain (fin s m e) = not (s && eqb m 0)

pub nonneg-plain : (x : Float) → T (nonneg x) → T (plain x)
nonneg-plain (inf s) p = tt
nonneg-plain (fin false m e) p = tt
nonneg-plain nan p = elim p [ ]
nonneg-plain (fin true m e) p = elim p [ ]

pub plain-no-nan : (x : Float) → T (plain x) → T (not (is_nan x))
unfolding is_nan
plain-no-nan (inf s) p = tt
plain-no-nan (fin s m e) p = tt
plain-no-nan nan p = elim p [ ]

pub nonneg-no-nan : (x : Float) → T (nonneg x) → T (not (is_nan x))
nonneg-no-nan x p = plain-no-nan x (nonneg-plain x p)

pub finite-no-nan : (x : Float) → T (finite x) → T (not (is_nan x))
unfolding is_nan
finite-no-nan (fin s m e) p = tt
finite-no-nan nan p = elim p [ ]
finite-no-nan (inf _) p = elim p [ ]

-- ---- two finite values: from whole numbers back to `lt`, `eq` and `le`
strictly_under→lt : (x y : Float) → T (finite x) → T (finite y) → strictly_under x y → T (lt x y)
unfolding lt
strictly_under→lt (fin true m e) (fin true n d) p q h = lt→ltb (n * up d * down e) (m * up e * down d) (omega arith)
strictly_under→lt (fin true m e) (fin false n d) p q h = lt→ltb 0 (m * up e * down d + n * up d * down e) (omega arith)
strictly_under→lt (fin false m e) (fin true n d) p q h = let k : ◌≡◌ {A = ℕ} 0 1 = omega arith in omega arith
strictly_under→lt (fin false m e) (fin false n d) p q h = lt→ltb (m * up e * down d) (n * up d * down e) (omega arith)
strictly_under→lt nan y p q h = elim p [ ]
strictly_under→lt (inf _) y p q h = elim p [ ]
strictly_under→lt (fin false m e) nan p q h = elim q [ ]
strictly_under→lt (fin false m e) (inf _) p q h = elim q [ ]
strictly_under→lt (fin true m e) nan p q h = elim q [ ]
strictly_under→lt (fin true m e) (inf _) p q h = elim q [ ]

to-eqb : (a b : ℕ) → a ≡ b → T (eqb a b)
to-eqb a b p = eq→eqb p

like_signs : (a b : ℕ) → a ≡ b → T (eqb a b && true)
like_signs a b p = and_i (eqb a b) true (to-eqb a b p) tt

unlike_signs : (a b : ℕ) → a ≡ b → a ≡ 0 → T (eqb a b && eqb a 0)
unlike_signs a b p q = and_i (eqb a b) (eqb a 0) (to-eqb a b p) (to-eqb a 0 q)

same→eq : (x y : Float) → T (finite x) → T (finite y) → plus x * den y + less y * den x ≡ plus y * den x + less x * den y → T (eq x y)
unfolding eq
same→eq (fin true m e) (fin true n d) p q h = like_signs (m * up e * down d) (n * up d * down e) (omega arith)
same→eq (fin true m e) (fin false n d) p q h = unlike_signs (m * up e * down d) (n * up d * down e) (omega arith) (omega arith)
same→eq (fin false m e) (fin true n d) p q h = unlike_signs (m * up e * down d) (n * up d * down e) (omega arith) (omega arith)
same→eq (fin false m e) (fin false n d) p q h = like_signs (m * up e * down d) (n * up d * down e) (omega arith)
same→eq nan y p q h = elim p [ ]
same→eq (inf _) y p q h = elim p [ ]
same→eq (fin false m e) nan p q h = elim q [ ]
same→eq (fin false m e) (inf _) p q h = elim q [ ]
same→eq (fin true m e) nan p q h = elim q [ ]
same→eq (fin true m e) (inf _) p q h = elim q [ ]

under→le : (x y : Float) → T (finite x) → T (finite y) → under x y → T (le x y)
unfolding le
under→le x y p q h = elim (eq-or-lt_of_le h) [
  | inl e ↦ or_r (lt x y) (eq x y) (same→eq x y p q e)
  | inr l ↦ or_l (lt x y) (eq x y) (strictly_under→lt x y p q l)
]

-- ---- total
pub le_total : (x y : Float) → T (not (is_nan x)) → T (not (is_nan y)) → T (le x y) ⊎ T (le y x)
unfolding is_nan le
le_total (inf true) (inf true) p q = inl tt
le_total (inf true) (inf false) p q = inl tt
le_total (inf false) (inf true) p q = inr tt
le_total (inf false) (inf false) p q = inl tt
le_total (inf true) (fin t n d) p q = inl tt
le_total (inf false) (fin t n d) p q = inr tt
le_total (fin s m e) (inf true) p q = inr tt
le_total (fin s m e) (inf false) p q = inl tt
le_total (fin s m e) (fin t n d) p q = elim (under-total (fin s m e) (fin t n d)) [
  | inl h ↦ inl (under→le (fin s m e) (fin t n d) tt tt h)
  | inr h ↦ inr (under→le (fin t n d) (fin s m e) tt tt h)
]
le_total nan y p q = elim p [ ]
le_total (inf false) nan p q = elim q [ ]
le_total (inf true) nan p q = elim q [ ]
le_total (fin s m e) nan p q = elim q [ ]

-- ---- transitive
chain : (a a' d b b' e c c' g : ℕ) → 0 < e → a * e + b' * d ≤ b * d + a' * e → b * g + c' * e ≤ c * e + b' * g
    → a * g + c' * d ≤ c * d + a' * g
chain a a' d b b' e c c' g E h k =
    let x : (a * e + b' * d) * g ≤ (b * d + a' * e) * g = mul-le-mul_right g h in
    let y : (b * g + c' * e) * d ≤ (c * e + b' * g) * d = mul-le-mul_right d k in
    let z : (a * g + c' * d) * e ≤ (c * d + a' * g) * e = omega arith in
    le_of_mul-le-mul_right z E

-- with no NaN in it where `le` holds, it asks nothing of x, y and z
pub le_chain : (x y z : Float) → T (le x y) → T (le y z) → T (le x z)
unfolding le
le_chain nan y z h k = absurd h
le_chain (inf s) nan z h k = absurd h
le_chain (inf true) (inf t) nan h k = absurd k
le_chain (inf true) (fin t n d) nan h k = absurd k
le_chain (inf true) (inf t) (inf true) h k = tt
le_chain (inf true) (inf t) (inf false) h k = tt
le_chain (inf true) (fin t n d) (inf true) h k = tt
le_chain (inf true) (fin t n d) (inf false) h k = tt
le_chain (inf true) (inf t) (fin u o g) h k = tt
le_chain (inf true) (fin t n d) (fin u o g) h k = tt
le_chain (inf false) (inf true) z h k = absurd h
le_chain (inf false) (inf false) z h k = k
le_chain (inf false) (fin t n d) z h k = absurd h
le_chain (fin s m e) nan z h k = absurd h
le_chain (fin s m e) (inf true) z h k = absurd h
le_chain (fin s m e) (inf false) nan h k = absurd k
le_chain (fin s m e) (inf false) (inf true) h k = absurd k
le_chain (fin s m e) (inf false) (inf false) h k = tt
le_chain (fin s m e) (inf false) (fin u o g) h k = absurd k
le_chain (fin s m e) (fin t n d) nan h k = absurd k
le_chain (fin s m e) (fin t n d) (inf u) h k = k
le_chain (fin s m e) (fin t n d) (fin u o g) h k =
    let x = fin s m e in
    let y = fin t n d in
    let z = fin u o g in
    under→le x z tt tt
    (chain (plus x) (less x) (den x) (plus y) (less y) (den y) (plus z) (less z) (den z) (down_pos d) (le→under x y tt tt h) (le→under y z tt tt k))

-- ---- `lt` is `le` the other way round, negated
bool_not : (a b : Bool) → (T a → T b → ⊥) → (T (not b) → T a) → a ≡ not b
bool_not true true h k = absurd (h tt tt)
bool_not true false h k = refl
bool_not false true h k = refl
bool_not false false h k = absurd (k tt)

clash : (x y : Float) → T (finite x) → T (finite y) → T (lt x y) → T (le y x) → ⊥
clash x y p q h k = let a = lt→strictly_under x y p q h in let b = le→under y x q p k in omega arith

strict : (x y : Float) → T (finite x) → T (finite y) → T (not (le y x)) → T (lt x y)
strict x y p q h = strictly_under→lt x y p q (lt_of_not-le (λ (u : under y x). T_not (le y x) h (under→le y x q p u)))

pub lt-is_not_le : (x y : Float) → T (not (is_nan x)) → T (not (is_nan y)) → lt x y ≡ not (le y x)
unfolding is_nan le
lt-is_not_le (inf true) (inf true) p q = refl
lt-is_not_le (inf true) (inf false) p q = refl
lt-is_not_le (inf false) (inf true) p q = refl
lt-is_not_le (inf false) (inf false) p q = refl
lt-is_not_le (inf true) (fin t n d) p q = refl
lt-is_not_le (inf false) (fin t n d) p q = refl
lt-is_not_le (fin s m e) (inf true) p q = refl
lt-is_not_le (fin s m e) (inf false) p q = refl
lt-is_not_le (fin s m e) (fin t n d) p q =
    let x = fin s m e in
    let y = fin t n d in
    bool_not (lt x y) (le y x) (clash x y tt tt) (strict x y tt tt)
lt-is_not_le nan y p q = elim p [ ]
lt-is_not_le (inf false) nan p q = elim q [ ]
lt-is_not_le (inf true) nan p q = elim q [ ]
lt-is_not_le (fin s m e) nan p q = elim q [ ]

-- ---- antisymmetric: equal sizes have equal bits
pub same_bits : (f : Format) (s : Bool) (m n : ℕ) (e d : ℤ) → m * up e * down d ≡ n * up d * down e
    → to_bits f (fin s m e) ≡ to_bits f (fin s n d)
unfolding to_bits
same_bits f s m n e d h =
    ap (λ (z : ℕ). cond s (top f) 0 + (size z - prec f) * hid f + z / 2 ^ (size z - prec f))
    (div_same (m * up e * 2 ^ low f) (down e) (n * up d * 2 ^ low f) (down d) (down_pos e) (down_pos d)
    (mul_right_comm (m * up e) (2 ^ low f) (down d) ∙ ap (λ (z : ℕ). z * 2 ^ low f) h ∙ mul_right_comm (n * up d) (down e) (2 ^ low f)))

pub bits_inj : (f : Format) (x y : Float) → T (fits f x) → T (fits f y) → to_bits f x ≡ to_bits f y → x ≡ y
bits_inj f x y p q h = sym (of_bits-to_bits f x p) ∙ ap (of_bits f) h ∙ of_bits-to_bits f y q

no_zero : (m : ℕ) (e d : ℤ) → T (not (eqb m 0)) → m * up e * down d ≡ 0 → ⊥
no_zero zero e d t h = t
no_zero (suc m) e d t h = lt_irrefl 0 (subst (λ (k : ℕ). 0 < k) h (mul-pos (mul-pos (zero-lt-suc m) (up_pos e)) (down_pos d)))

pub le_antisym : (f : Format) (x y : Float) → T (fits f x) → T (fits f y) → T (plain x) → T (plain y) → T (le x y) → T (le y x) → x ≡ y
le_antisym f (inf true) (inf true) X Y p q h k = refl
le_antisym f (inf true) (inf false) X Y p q h k = absurd (unfold le in k)
le_antisym f (inf false) (inf true) X Y p q h k = absurd (unfold le in h)
le_antisym f (inf false) (inf false) X Y p q h k = refl
le_antisym f (inf true) (fin t n d) X Y p q h k = absurd (unfold le in k)
le_antisym f (inf false) (fin t n d) X Y p q h k = absurd (unfold le in h)
le_antisym f (fin s m e) (inf true) X Y p q h k = absurd (unfold le in h)
le_antisym f (fin s m e) (inf false) X Y p q h k = absurd (unfold le in k)
le_antisym f (fin true m e) (fin true n d) X Y p q h k =
    let a = le→under (fin true m e) (fin true n d) tt tt h in
    let b = le→under (fin true n d) (fin true m e) tt tt k in
    bits_inj f (fin true m e) (fin true n d) X Y (same_bits f true m n e d (omega arith))
le_antisym f (fin true m e) (fin false n d) X Y p q h k =
    let a = le→under (fin false n d) (fin true m e) tt tt k in
    absurd (no_zero m e d p (omega arith))
le_antisym f (fin false m e) (fin true n d) X Y p q h k =
    let a = le→under (fin false m e) (fin true n d) tt tt h in
    absurd (no_zero n d e q (omega arith))
le_antisym f (fin false m e) (fin false n d) X Y p q h k =
    let a = le→under (fin false m e) (fin false n d) tt tt h in
    let b = le→under (fin false n d) (fin false m e) tt tt k in
    bits_inj f (fin false m e) (fin false n d) X Y (same_bits f false m n e d (omega arith))
le_antisym f nan y X Y p q h k = elim p [ ]
le_antisym f (inf false) nan X Y p q h k = elim q [ ]
le_antisym f (inf true) nan X Y p q h k = elim q [ ]
le_antisym f (fin s m e) nan X Y p q h k = elim q [ ]
