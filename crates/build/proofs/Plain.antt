-- The box of a part by the order of numbers, one entry more at a time; the scan of a part for a zero; and why the plain box
-- with its zeros settled so is the tight one: that order and totalOrder differ in the two zeros alone (`key_of_le`).
-- Assumes nothing.
use mathlib.Core.Path.{◌≡◌, refl, sym, ap, ◌∙◌, subst}
use mathlib.Core.Logic.{◌⊎◌, inl, inr, ⊎_elim}
use mathlib.Core.Bool.{Bool, true, false, not, cond, ◌&&◌, ◌||◌}
use mathlib.Core.List.{List, [], ◌∷◌, ◌++◌}
use Prim.Native.Nat.{ℕ, ◌*◌, ◌+◌, ◌≤◌, ◌<◌}
use native.Mathlib.Nat.{le_of_eq, le_of_lt}
use native.Mathlib.Numerals.{add-one}
use native.Mathlib.Omega.{arith}
use lib.IntN.{ℤ, pos}
use lib.ListN.{get_or, length, take}
use lib.Seq.{take-suc}
use lib.Dec.{T, ltb, eqb, eqb→eq, lit<}
use lib.Ieee.{Float, nan, inf, fin, up, down, binary64, fits, lt, le, eq, to_bits}
use lib.Ieee.Fits.{and_l, and_r}
use borrow.Author.Tests.{ltb-false}
use Rattle.distance.proofs.Prune.{lt→le, le_self, le_left, le_right, le_of_not_lt, lt_not_le}
use Rattle.distance.proofs.Order.{le_chain, same_bits}
use Rattle.distance.proofs.TotalKey.{key-total}
use Rattle.distance.specs.Distance.{larger}
use Rattle.distance.specs.TotalOrder.{key, key_bits, negative, total_lt}
use Rattle.distance.specs.declared.Bounds.{Bounds}
use Rattle.select.proofs.Parting.{in_either, in_left, in_right}
use Rattle.select.proofs.Ranks.{known-number}
use Rattle.tree.proofs.Entries.{has_at, place}
use Rattle.select.specs.Order.{coord, key_at}
use Rattle.tree.specs.Entries.{◌∈◌}
use Rattle.build.proofs.Boxes.{in_one, ready_index, coord-x, first-only}
use Rattle.build.specs.Built.{Tight, Box}
use Rattle.build.specs.Steps.{Number, smaller, Plain, PlainBox, Settled, kept, turned, Ready}

-- ---- one entry more
plain-one : (points : List Float) (axis v : ℕ) → Number (coord points axis v) → Plain points axis (v ∷ []) (coord points axis v) (coord points axis v)
plain-one points axis v n = record {
  low = v;
  low_in = has_at (v ∷ []) 0 (omega arith);
  low_is = refl;
  least = λ w h. rw (in_one w v h) (le_self (coord points axis v) n);
  high = v;
  high_in = has_at (v ∷ []) 0 (omega arith);
  high_is = refl;
  greatest = λ w h. rw (in_one w v h) (le_self (coord points axis v) n);
}

-- both ends are numbers: `le` holds of no NaN
pub low-number : {points : List Float} {axis : ℕ} {xs : List ℕ} {lo hi : Float} → Plain points axis xs lo hi → Number lo
low-number {points} {axis} {lo = lo} t = le_left lo (coord points axis t.low) (t.least t.low t.low_in)

pub high-number : {points : List Float} {axis : ℕ} {xs : List ℕ} {lo hi : Float} → Plain points axis xs lo hi → Number hi
high-number {points} {axis} {hi = hi} t = le_right (coord points axis t.high) hi (t.greatest t.high t.high_in)

module _ (points : List Float) (axis : ℕ) (xs : List ℕ) (lo hi : Float) (t : Plain points axis xs lo hi) (v : ℕ) (X : Number (coord points axis v)) where
  abbrev x : Float
  x = coord points axis v

  low-more : (b : Bool) → lt x lo ≡ b → record { at : ℕ; inside : at ∈ (xs ++ (v ∷ [])); is : cond b x lo ≡ coord points axis at; least : (w : ℕ) → w ∈ (xs ++ (v ∷ [])) → T (le (cond b x lo) (coord points axis w)) }
  low-more true e = record {
    at = v;
    inside = in_right v xs (v ∷ []) (has_at (v ∷ []) 0 (omega arith));
    is = refl;
    least = λ w h. ⊎_elim (λ (g : w ∈ xs). le_chain x lo (coord points axis w) (lt→le x lo (rw e tt)) (t.least w g)) (λ (g : w ∈ (v ∷ [])). rw (in_one w v g) (le_self x X)) (in_either w xs (v ∷ []) h);
  }
  low-more false e = record {
    at = t.low;
    inside = in_left t.low xs (v ∷ []) t.low_in;
    is = t.low_is;
    least = λ w h. ⊎_elim (t.least w) (λ (g : w ∈ (v ∷ [])). rw (in_one w v g) (le_of_not_lt x lo X (low-number t) e)) (in_either w xs (v ∷ []) h);
  }

  high-more : (b : Bool) → lt hi x ≡ b → record { at : ℕ; inside : at ∈ (xs ++ (v ∷ [])); is : cond b x hi ≡ coord points axis at; most : (w : ℕ) → w ∈ (xs ++ (v ∷ [])) → T (le (coord points axis w) (cond b x hi)) }
  high-more true e = record {
    at = v;
    inside = in_right v xs (v ∷ []) (has_at (v ∷ []) 0 (omega arith));
    is = refl;
    most = λ w h. ⊎_elim (λ (g : w ∈ xs). le_chain (coord points axis w) hi x (t.greatest w g) (lt→le hi x (rw e tt))) (λ (g : w ∈ (v ∷ [])). rw (in_one w v g) (le_self x X)) (in_either w xs (v ∷ []) h);
  }
  high-more false e = record {
    at = t.high;
    inside = in_left t.high xs (v ∷ []) t.high_in;
    is = t.high_is;
    most = λ w h. ⊎_elim (t.greatest w) (λ (g : w ∈ (v ∷ [])). rw (in_one w v g) (le_of_not_lt hi x (high-number t) X e)) (in_either w xs (v ∷ []) h);
  }

  plain_snoc : Plain points axis (xs ++ (v ∷ [])) (smaller lo x) (larger hi x)
  unfolding smaller larger
  plain_snoc =
      let l = low-more (lt x lo) refl in
      let h = high-more (lt hi x) refl in
      record { low = l.at; low_in = l.inside; low_is = l.is; least = l.least; high = h.at; high_in = h.inside; high_is = h.is; greatest = h.most }

plain_more : (points : List Float) (axis : ℕ) (part : List ℕ) (lo hi lo' hi' : Float) (k : ℕ) → Ready points part → axis < 2 → Plain points axis (take k part) lo hi → k < length part
    → lo' ≡ smaller lo (coord points axis (get_or part k 0)) → hi' ≡ larger hi (coord points axis (get_or part k 0)) → Plain points axis (take (k + 1) part) lo' hi'
plain_more points axis part lo hi lo' hi' k R a t h e f =
    let X = known-number points axis (get_or part k 0) a (record { all_finite = R.all_finite; inside = ready_index points part R k h }) in
    rw (add-one, take-suc part k 0 h, e, f) (plain_snoc points axis (take k part) lo hi t (get_or part k 0) X)

-- ---- the loop over a part
pub record Looked (points : List Float) (part : List ℕ) (k : ℕ) (x0 x1 y0 y1 : Float) : Type 0 where
  pub first : 0 < k
  pub within : k ≤ length part
  pub x : Plain points 0 (take k part) x0 x1
  pub y : Plain points 1 (take k part) y0 y1

module _ (points : List Float) (part : List ℕ) (R : Ready points part) where
  pub looked_one : Looked points part 1 (get_or points (2 * get_or part 0 0) nan) (get_or points (2 * get_or part 0 0) nan) (get_or points (2 * get_or part 0 0 + 1) nan) (get_or points (2 * get_or part 0 0 + 1) nan)
  looked_one = record {
    first = omega arith;
    within = R.some;
    x = rw (first-only part R.some, coord-x points (get_or part 0 0)) (plain-one points 0 (get_or part 0 0) (number 0 (lit< tt)));
    y = rw (first-only part R.some) (plain-one points 1 (get_or part 0 0) (number 1 (lit< tt)));
  }
    where
      number : (axis : ℕ) → axis < 2 → Number (coord points axis (get_or part 0 0))
      number axis a = known-number points axis (get_or part 0 0) a (record { all_finite = R.all_finite; inside = ready_index points part R 0 R.some })

  module _ (k : ℕ) (x0 x1 y0 y1 : Float) (S : Looked points part k x0 x1 y0 y1) where
    pub looked_more : (x0' x1' y0' y1' : Float) → k < length part
        → x0' ≡ smaller x0 (get_or points (2 * get_or part k 0) nan) → x1' ≡ larger x1 (get_or points (2 * get_or part k 0) nan)
        → y0' ≡ smaller y0 (get_or points (2 * get_or part k 0 + 1) nan) → y1' ≡ larger y1 (get_or points (2 * get_or part k 0 + 1) nan)
        → Looked points part (k + 1) x0' x1' y0' y1'
    looked_more x0' x1' y0' y1' h a b c d = record {
      first = omega arith;
      within = omega arith;
      x = plain_more points 0 part x0 x1 x0' x1' k R (lit< tt) S.x h (a ∙ ap (smaller x0) (coord-x points (get_or part k 0))) (b ∙ ap (larger x1) (coord-x points (get_or part k 0)));
      y = plain_more points 1 part y0 y1 y0' y1' k R (lit< tt) S.y h c d;
    }

-- ---- the two orders
abbrev plus_zero : ℕ
plus_zero = 0

abbrev minus_zero : ℕ
minus_zero = 0x8000_0000_0000_0000

zeros_in_order : key_bits minus_zero ≤ key_bits plus_zero
unfolding key_bits
zeros_in_order = le_of_lt (lit< tt)

zero_bits : (s : Bool) (m : ℕ) (e d : ℤ) → m * up e * down d ≡ 0 → to_bits binary64 (fin s m e) ≡ to_bits binary64 (fin s 0 (pos 0))
zero_bits s m e d h = same_bits binary64 s m 0 e d (omega arith) ∙ same_bits binary64 s 0 0 d (pos 0) (omega arith)

-- numbers that compare equal and differ in sign are the two zeros
zeros : (x y : Float) → T (eq x y) → T (negative x) → T (not (negative y)) → (to_bits binary64 x ≡ minus_zero) × (to_bits binary64 y ≡ plus_zero)
unfolding eq
zeros (inf true) nan h p q = absurd h
zeros (inf true) (inf false) h p q = absurd h
zeros (inf true) (fin t n d) h p q = absurd h
zeros (fin true m e) nan h p q = absurd h
zeros (fin true m e) (inf t) h p q = absurd h
zeros (fin true m e) (fin false n d) h p q =
    let a = m * up e * down d in
    let b = n * up d * down e in
    let z = eqb→eq a 0 (and_r (eqb a b) (eqb a 0) h) in
    let w = eqb→eq a b (and_l (eqb a b) (eqb a 0) h) in
    (zero_bits true m e d z ∙ unfold to_bits in refl, zero_bits false n d e (sym w ∙ z) ∙ unfold to_bits in refl)
zeros nan y h p q = elim h [ ]
zeros (inf false) y h p q = elim p [ ]
zeros (inf true) (inf true) h p q = elim q [ ]
zeros (fin false m e) y h p q = elim p [ ]
zeros (fin true m e) (fin true n d) h p q = elim q [ ]

-- x stands before y by totalOrder and not as a number: they are -0 and +0
before-zeros : (x y : Float) → T (le y x) → T (total_lt x y) → (to_bits binary64 x ≡ minus_zero) × (to_bits binary64 y ≡ plus_zero)
unfolding total_lt
before-zeros x y h k =
    let s = negative x && not (negative y) in
    let j = or_right (lt x y) (eq x y && s) (λ (l : T (lt x y)). lt_not_le x y l h) k in
    let r = and_r (eq x y) s j in
    zeros x y (and_l (eq x y) s j) (and_l (negative x) (not (negative y)) r) (and_r (negative x) (not (negative y)) r)
  where
    or_right : (a b : Bool) → (T a → ⊥) → T (a || b) → T b
    or_right true b n t = absurd (n tt)
    or_right false b n t = t

-- in order as numbers: by totalOrder too, unless they are +0 and -0
key_of_le : (x y : Float) → T (fits binary64 x) → T (fits binary64 y) → T (le x y)
    → (key x ≤ key y) ⊎ ((to_bits binary64 x ≡ plus_zero) × (to_bits binary64 y ≡ minus_zero))
key_of_le x y p q h = go (ltb (key y) (key x)) refl
  where
    go : (b : Bool) → ltb (key y) (key x) ≡ b → (key x ≤ key y) ⊎ ((to_bits binary64 x ≡ plus_zero) × (to_bits binary64 y ≡ minus_zero))
    go true e = let z = before-zeros y x h (subst T (key-total y x (le_right x y h) (le_left x y h) q p) (rw e tt)) in inr (z.1, z.0)
    go false e = inl (ltb-false (key y) (key x) e)

-- ---- the scan for a zero
abbrev pub Missed : List Float → ℕ → List ℕ → ℕ → ℕ → Type 0
Missed points axis part sought k = (i : ℕ) → i < k → to_bits binary64 (coord points axis (get_or part i 0)) ≡ sought → ⊥

module _ (points : List Float) (axis : ℕ) (part : List ℕ) (sought k : ℕ) (M : Missed points axis part sought k) where
  pub missed_all : length part ≤ k → (v : ℕ) → v ∈ part → to_bits binary64 (coord points axis v) ≡ sought → ⊥
  missed_all h v g e = let p = place v part g in M p.at (omega (arith, p.inside)) (rw p.is e)

-- ---- with its zero settled, an end by the order of numbers is one by keys: the least where R is ≤, the greatest where it is ≥
record End (points : List Float) (axis : ℕ) (part : List ℕ) (R : ℕ → ℕ → Type 0) (r : Float) : Type 0 where
  at : ℕ
  inside : at ∈ part
  is : r ≡ coord points axis at
  bounds : (v : ℕ) → v ∈ part → R (key r) (key_at points axis v)

module _ (points : List Float) (axis : ℕ) (part : List ℕ) (R : ℕ → ℕ → Type 0) (had sought : ℕ) (same : (a b : ℕ) → a ≡ b → R a b) (turn : (k : ℕ) → R (key_bits had) k → R (key_bits sought) k) where
  module _ (end : Float) (at : ℕ) (inside : at ∈ part) (is : end ≡ coord points axis at) (by_key : (v : ℕ) → v ∈ part → R (key end) (key_at points axis v) ⊎ ((to_bits binary64 end ≡ had) × (to_bits binary64 (coord points axis v) ≡ sought))) where
    settled_end : {r : Float} → Settled points axis part end had sought r → End points axis part R r
    settled_end (kept n) = record { at = at; inside = inside; is = is; bounds = λ v g. ⊎_elim (λ k. k) (λ z. absurd (n z.0 v g z.1)) (by_key v g) }
    settled_end (turned w e g s) = record {
      at = w;
      inside = g;
      is = refl;
      bounds = λ v h.
          let at-v : ℕ → Type 0 = λ k. R k (key_at points axis v) in
          ⊎_elim (λ k. subst at-v (sym (ap key_bits s)) (turn (key_at points axis v) (subst at-v (ap key_bits e) k))) (λ z. same (key (coord points axis w)) (key_at points axis v) (ap key_bits (s ∙ sym z.1))) (by_key v h);
    }

-- ---- so the plain box is the tight one
module _ (points : List Float) (part : List ℕ) (fit : (k : ℕ) → T (fits binary64 (get_or points k nan))) where
  module _ (axis : ℕ) (lo hi : Float) (t : Plain points axis part lo hi) where
    low_end : {r : Float} → Settled points axis part lo plus_zero minus_zero r → End points axis part (λ a b. a ≤ b) r
    low_end = settled_end points axis part (λ a b. a ≤ b) plus_zero minus_zero (λ a b e. le_of_eq e) (λ k h. omega (arith, zeros_in_order)) lo t.low t.low_in t.low_is
        (λ v g. key_of_le lo (coord points axis v) (rw t.low_is (fit (2 * t.low + axis))) (fit (2 * v + axis)) (t.least v g))

    high_end : {r : Float} → Settled points axis part hi minus_zero plus_zero r → End points axis part (λ a b. b ≤ a) r
    high_end = settled_end points axis part (λ a b. b ≤ a) minus_zero plus_zero (λ a b e. le_of_eq (sym e)) (λ k h. omega (arith, zeros_in_order)) hi t.high t.high_in t.high_is
        (λ v g. ⊎_elim inl (λ z. inr (z.1, z.0)) (key_of_le (coord points axis v) hi (fit (2 * v + axis)) (rw t.high_is (fit (2 * t.high + axis))) (t.greatest v g)))

    tight_of : {p q : Float} → Settled points axis part lo plus_zero minus_zero p → Settled points axis part hi minus_zero plus_zero q → Tight points axis part p q
    tight_of s u =
        let l = low_end s in
        let h = high_end u in
        record { low = l.at; low_in = l.inside; low_is = l.is; least = l.bounds; high = h.at; high_in = h.inside; high_is = h.is; greatest = h.bounds }

  pub box_of_plain : (b : Bounds) (x0 x1 y0 y1 : Float) → PlainBox points part b
      → Settled points 0 part b.min_x plus_zero minus_zero x0 → Settled points 0 part b.max_x minus_zero plus_zero x1
      → Settled points 1 part b.min_y plus_zero minus_zero y0 → Settled points 1 part b.max_y minus_zero plus_zero y1
      → Box points part (b.cx ∷ b.cy ∷ x0 ∷ x1 ∷ y0 ∷ y1 ∷ [])
  box_of_plain b x0 x1 y0 y1 t p q r s = record {
    six = refl;
    x = tight_of 0 b.min_x b.max_x t.x p q;
    y = tight_of 1 b.min_y b.max_y t.y r s;
  }
