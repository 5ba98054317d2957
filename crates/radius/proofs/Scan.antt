-- Over an accepted tree the radius query answers as the plain scan: its walk meets no damage, and its hits are exactly the
-- indices whose point has a d2 of at most radius * radius, by rising index. By the law of all queries: a box is passed over
-- only where its bound is above radius * radius, so no point of it is a hit; and a leaf is taken whole only where its far
-- corner is within, so each of its points is one. Assumes nothing.
use mathlib.Core.Path.{◌≡◌, refl, sym, ap, ◌∙◌, subst}
use mathlib.Core.Logic.{◌⊎◌, inl, inr}
use mathlib.Core.Bool.{Bool, true, false, not, cond}
use mathlib.Core.List.{List, [], ◌∷◌, ◌++◌}
use Prim.Native.Nat.{ℕ, zero, suc, ◌+◌, ◌*◌, ◌<◌}
use native.Mathlib.Omega.{arith}
use lib.Dec.{T, ltb, eqb}
use lib.Ieee.{Float, nan, inf, fin, binary64, of_bits, up, down, mul, le, is_nan}
use lib.Ieee.Scale.{finite}
use lib.ListN.{length}
use borrow.Author.Tests.{ltb-true, ltb-false, lt-ltb, le-ltb, eqb-true, eqb-false}
use Rattle.distance.specs.Distance.{sq}
use Rattle.distance.specs.declared.Coord.{Coord}
use Rattle.distance.proofs.Order.{lt-is_not_le, nonneg-no-nan}
use Rattle.distance.proofs.Mono.{nonneg, round-nonneg, le-top, d2-nonneg}
use Rattle.distance.proofs.Corner.{corner-within}
use Rattle.tree.specs.Points.{x, y}
use Rattle.tree.specs.Accepted.{Tree, count, Grown, Accepted, times}
use Rattle.rising.specs.Sort.{insert}
use Rattle.tree.proofs.Each.{Each, each_map, each_append}
use Rattle.tree.proofs.Rising.{number}
use Rattle.rising.proofs.Sorting.{insert-is, insert-rises}
use Rattle.search.specs.Walk.{Walk, done, got, outcome, walk_all, plain, damage}
use Rattle.search.specs.Order.{point}
use Rattle.search.specs.Refusal.{refusal, Told, told}
use Rattle.std.proofs.Common.{Result}
use Rattle.refusal.specs.declared.Refusal.{Refusal}
use Rattle.search.proofs.Unrefused.{refusal-finite}
use Rattle.tree.proofs.Insert.{ins, ins_comm, Sorted}
use Rattle.search.proofs.Rank.{no_nan, point-good, far-point}
use Rattle.search.proofs.Whole.{Fair, Ends, walk-is-plain}
use Rattle.radius.specs.Within.{within, Reply, refuses, damaged, finds, reply_of, reply, says, Answered}
use Rattle.radius.proofs.Answers.{Proper, reply_proper, reply-refused, reply_five, reply-none, reply-walk}

-- ---- insertion by index, in either order
insert_comm : (i j : ℕ) (l : List ℕ) → insert i (insert j l) ≡ insert j (insert i l)
insert_comm i j l =
    ap (insert i) (insert-is j l) ∙ insert-is i (ins number j l) ∙ ins_comm number i j l (λ (e : i ≡ j). e)
    ∙ sym (ap (insert j) (insert-is i l) ∙ insert-is j (ins number i l))

is_true : (b : Bool) → T b → b ≡ true
is_true true h = refl
is_true false h = elim h [ ]

module _ (t : Tree) (q : Coord) (r2 : Float) (A : Accepted t) (QX : T (finite q.x)) (QY : T (finite q.y)) (R : T (not (is_nan r2))) where
  both : (a b : Bool) (i j : ℕ) (s : List ℕ) → cond b (insert j (cond a (insert i s) s)) (cond a (insert i s) s) ≡ cond a (insert i (cond b (insert j s) s)) (cond b (insert j s) s)
  both true true i j s = insert_comm j i s
  both true false i j s = refl
  both false true i j s = refl
  both false false i j s = refl

  pub within_fair : Fair t (within t.points q r2) (λ s. Unit)
  within_fair = record {
    stays = λ s i o h. tt;
    swaps = λ s i j o h k. both (le (point t.points q i).d2 r2) (le (point t.points q j).d2 r2) i j s;
    passes = λ s b i o h f g p.
        let e : le (point t.points q i).d2 r2 ≡ false = flip (le (point t.points q i).d2 r2)
        (sym (far-point t q A QX QY r2 b i h f g p) ∙ lt-is_not_le r2 (point t.points q i).d2 R (no_nan (point t.points q i).d2 (point-good t q A QX QY i h).plain)) in
        ap (λ (z : Bool). cond z (insert i s) s) e;
    takes = λ s b i h f g p. sym (ap (λ (z : Bool). cond z (insert i s) s) (is_true (le (point t.points q i).d2 r2)
        (corner-within q b (x t.points i) (y t.points i) (record {
          on_x = record { q_finite = QX; p_finite = A.all_finite (2 * i) (omega arith); lo_finite = f.min_x; hi_finite = f.max_x; above_lo = g.above_x; below_hi = g.below_x };
          on_y = record { q_finite = QY; p_finite = A.all_finite (2 * i + 1) (omega arith); lo_finite = f.min_y; hi_finite = f.max_y; above_lo = g.above_y; below_hi = g.below_y };
        }) r2 (subst T (sym p) tt))));
  }
    where
      flip : (b : Bool) → true ≡ not b → b ≡ false
      flip true e = e
      flip false e = refl

  -- the walk ends as the scan
  pub within-is-plain : Grown t → Ends (plain (within t.points q r2).next [] (count t)) (walk_all t (within t.points q r2) [])
  within-is-plain G = walk-is-plain t (within t.points q r2) (λ s. Unit) within_fair G [] tt

-- ---- the plain scan, as a list: of 0 to n - 1 those that p picks, in order
abbrev pub picked : (ℕ → Bool) → ℕ → List ℕ
picked p zero = []
picked p (suc i) = cond (p i) (picked p i ++ (i ∷ [])) (picked p i)

insert-last : (i : ℕ) (l : List ℕ) → Each (λ j. j < i) l → insert i l ≡ l ++ (i ∷ [])
insert-last i [] h = refl
insert-last i (j ∷ js) h = ap (λ (b : Bool). cond b (i ∷ j ∷ js) (j ∷ insert i js)) (le-ltb i j (omega (arith, h.0))) ∙ ap (λ (z : List ℕ). j ∷ z) (insert-last i js h.1)

pub picked-below : (p : ℕ → Bool) (n : ℕ) → Each (λ j. j < n) (picked p n)
picked-below p zero = tt
picked-below p (suc n) = go (p n) (each_map (picked p n) (λ j h. omega arith) (picked-below p n))
  where
    go : (b : Bool) → Each (λ j. j < suc n) (picked p n) → Each (λ j. j < suc n) (cond b (picked p n ++ (n ∷ [])) (picked p n))
    go true h = each_append (λ j. j < suc n) (picked p n) (n ∷ []) h (omega arith, tt)
    go false h = h

pub plain_picks : (points : List Float) (q : Coord) (r2 : Float) (n : ℕ) → plain (within points q r2).next [] n ≡ picked (λ i. le (point points q i).d2 r2) n
plain_picks points q r2 zero = refl
plain_picks points q r2 (suc n) =
    ap (λ (z : List ℕ). cond (le (point points q n).d2 r2) (insert n z) z) (plain_picks points q r2 n)
    ∙ ap (λ (z : List ℕ). cond (le (point points q n).d2 r2) z (picked (λ i. le (point points q i).d2 r2) n))
    (insert-last n (picked (λ i. le (point points q i).d2 r2) n) (picked-below (λ i. le (point points q i).d2 r2) n))

-- each that is picked stands there once, and no other
times_append : (v : ℕ) (l : List ℕ) (i : ℕ) → times v (l ++ (i ∷ [])) ≡ times v l + cond (eqb v i) 1 0
times_append v [] i = omega arith
times_append v (j ∷ js) i = more (cond (eqb v j) 1 0) (times v js) (cond (eqb v i) 1 0) (times v (js ++ (i ∷ []))) (times_append v js i)
  where
    more : (a b c d : ℕ) → d ≡ b + c → a + d ≡ (a + b) + c
    more a b c d e = omega arith

pub picked-times : (p : ℕ → Bool) (n v : ℕ) → times v (picked p n) ≡ cond (ltb v n) (cond (p v) 1 0) 0
picked-times p zero v = ap (λ (b : Bool). cond {A = ℕ} b (cond (p v) 1 0) 0) (sym (le-ltb v 0 (omega arith)))
picked-times p (suc n) v = go (eqb v n) refl (picked-times p n v)
  where
    -- v is n: it stands there if it is picked now
    own : (b : Bool) → times v (picked p n) ≡ 0 → eqb v n ≡ true → times v (cond b (picked p n ++ (n ∷ [])) (picked p n)) ≡ cond b 1 0
    own true z e = times_append v (picked p n) n ∙ ap (λ (k : ℕ). k + cond (eqb v n) 1 0) z ∙ ap (λ (c : Bool). 0 + cond c 1 0) e
    own false z e = z

    -- v is not n: nothing changes for it
    other : (b : Bool) → eqb v n ≡ false → times v (cond b (picked p n ++ (n ∷ [])) (picked p n)) ≡ times v (picked p n)
    other true e = times_append v (picked p n) n ∙ ap (λ (c : Bool). times v (picked p n) + cond c 1 0) e ∙ plus_zero (times v (picked p n))
      where
        plus_zero : (k : ℕ) → k + 0 ≡ k
        plus_zero k = omega arith
    other false e = refl

    further : eqb v n ≡ false → ltb v n ≡ ltb v (suc n)
    further e = same (ltb v n) refl
      where
        same : (b : Bool) → ltb v n ≡ b → b ≡ ltb v (suc n)
        same true f = let h = ltb-true v n f in sym (lt-ltb v (suc n) (omega arith))
        same false f = let h = ltb-false v n f in sym (le-ltb v (suc n) (omega (arith, eqb-false v n e)))

    go : (c : Bool) → eqb v n ≡ c → times v (picked p n) ≡ cond (ltb v n) (cond (p v) 1 0) 0 → times v (picked p (suc n)) ≡ cond (ltb v (suc n)) (cond (p v) 1 0) 0
    go true e ih =
        let f : v ≡ n = eqb-true v n e in
        own (p n) (ih ∙ ap (λ (b : Bool). cond {A = ℕ} b (cond (p v) 1 0) 0) (le-ltb v n (omega arith))) e ∙ ap (λ (k : ℕ). cond (p k) 1 0) (sym f) ∙ sym (ap (λ (b : Bool). cond {A = ℕ} b (cond (p v) 1 0) 0) (lt-ltb v (suc n) (omega arith)))
    go false e ih = other (p n) e ∙ ih ∙ ap (λ (b : Bool). cond {A = ℕ} b (cond (p v) 1 0) 0) (further e)

pub picked-rises : (p : ℕ → Bool) (n : ℕ) → Sorted number (picked p n)
picked-rises p zero = tt
picked-rises p (suc n) = go (p n) (picked-rises p n)
  where
    go : (b : Bool) → Sorted number (picked p n) → Sorted number (cond b (picked p n ++ (n ∷ [])) (picked p n))
    go true h = subst (λ (l : List ℕ). Sorted number l) (insert-last n (picked p n) (picked-below p n)) (insert-rises n (picked p n) h)
    go false h = h

-- ---- a radius that is at least 0 has a square that is no NaN
sq-nonneg : (r : Float) → T (le (of_bits binary64 0) r) → T (nonneg (sq r))
unfolding sq mul le of_bits
sq-nonneg nan h = h
sq-nonneg (inf true) h = tt
sq-nonneg (inf false) h = tt
sq-nonneg (fin true m e) h = round-nonneg binary64 (m * up e * (m * up e)) (down e * down e)
sq-nonneg (fin false m e) h = round-nonneg binary64 (m * up e * (m * up e)) (down e * down e)

-- ---- the theorem
module _ (t : Tree) (q : Coord) (radius : Float) (A : Accepted t) (e : refusal t.points q ≡ 0) (f : le (of_bits binary64 0) radius ≡ true) where
  -- the number of a point is a hit's
  abbrev pub hit : ℕ → Bool
  hit i = le (point t.points q i).d2 (sq radius)

  ended : Grown t → outcome (walk_all t (within t.points q (sq radius)) []) ≡ got (picked hit (count t))
  ended G = go (walk_all t (within t.points q (sq radius)) [])
      (within-is-plain t q (sq radius) A (refusal-finite t.points q e).0 (refusal-finite t.points q e).1 (nonneg-no-nan (sq radius) (sq-nonneg radius (subst T (sym f) tt))) G)
    where
      go : (w : Walk (List ℕ)) → Ends (plain (within t.points q (sq radius)).next [] (count t)) w → outcome w ≡ got (picked hit (count t))
      go (done s n d) h = ap got (h ∙ plain_picks t.points q (sq radius) (count t))
      go damage h = elim h [ ]

  pub radius_is-scan : reply t q radius ≡ finds (picked hit (count t))
  radius_is-scan = by (eqb (count t) 0) refl A.tree
    where
      by : (b : Bool) → eqb (count t) 0 ≡ b → (count t ≡ 0) ⊎ Grown t → reply t q radius ≡ finds (picked hit (count t))
      by true z T = reply-none t q radius e f (eqb-true (count t) 0 z) ∙ ap (λ (n : ℕ). finds (picked hit n)) (sym (eqb-true (count t) 0 z))
      by false z (inl y) = absurd (eqb-false (count t) 0 z y)
      by false z (inr G) = reply-walk t q radius e f (eqb-false (count t) 0 z) ∙ ap reply_of (ended G)

-- ---- 9 is given only over a tree that is not accepted
pub never_damaged : (t : Tree) (q : Coord) (radius : Float) → Accepted t → reply t q radius ≡ damaged → ⊥
never_damaged t q radius A h = by (eqb (refusal t.points q) 0) refl (le (of_bits binary64 0) radius) refl
  where
    off : (a : Reply) → reply t q radius ≡ a → (a ≡ damaged → ⊥) → ⊥
    off a e n = n (sym e ∙ h)

    by : (b : Bool) → eqb (refusal t.points q) 0 ≡ b → (c : Bool) → le (of_bits binary64 0) radius ≡ c → ⊥
    by true e true f = off (finds (picked (λ i. le (point t.points q i).d2 (sq radius)) (count t))) (radius_is-scan t q radius A (eqb-true (refusal t.points q) 0 e) f) (λ z. let y : ◌≡◌ {A = ℕ} 0 1 = cc in omega arith)
    by true e false f = off (refuses 5) (reply_five t q radius (eqb-true (refusal t.points q) 0 e) f) (λ z. let y : ◌≡◌ {A = ℕ} 0 1 = cc in omega arith)
    by false e c f = off (refuses (refusal t.points q)) (reply-refused t q radius (refusal t.points q) refl (eqb-false (refusal t.points q) 0 e)) (λ z. let y : ◌≡◌ {A = ℕ} 0 1 = cc in omega arith)

pub nine_not_accepted : (t : Tree) (q : Coord) (radius : Float) (room : ℕ) (is₀ is : List ℕ) (r : Result ℕ Refusal) → Answered (reply t q radius) room is₀ r is → (told r).number ≡ 9 → Accepted t → ⊥
nine_not_accepted t q radius room is₀ is r W h A = go (reply t q radius) (reply_proper t q radius) refl (sym (ap (λ (x : Told). x.number) W.told_is) ∙ h)
  where
    go : (a : Reply) → Proper a → reply t q radius ≡ a → (says a room).number ≡ 9 → ⊥
    go (refuses k) P e z = omega (arith, P.1)
    go damaged P e z = never_damaged t q radius A e
    go (finds l) P e z = pick (ltb room (length l)) z
      where
        pick : (b : Bool) → ◌≡◌ {A = ℕ} (cond b 8 0) 9 → ⊥
        pick true z = omega arith
        pick false z = omega arith

-- ---- an infinite radius takes every point
picked_same : (p : ℕ → Bool) (n : ℕ) → ((i : ℕ) → i < n → p i ≡ true) → picked p n ≡ picked (λ i. true) n
picked_same p zero h = refl
picked_same p (suc n) h =
    ap (λ (b : Bool). cond b (picked p n ++ (n ∷ [])) (picked p n)) (h n (omega arith))
    ∙ ap (λ (l : List ℕ). l ++ (n ∷ [])) (picked_same p n (λ i m. h i (omega arith)))

zero-le-top : le (of_bits binary64 0) (inf false) ≡ true
unfolding le of_bits
zero-le-top = refl

sq-top : sq (inf false) ≡ inf false
unfolding sq mul
sq-top = refl

pub infinite_takes-all : (t : Tree) (q : Coord) → Accepted t → refusal t.points q ≡ 0 → reply t q (inf false) ≡ finds (picked (λ i. true) (count t))
infinite_takes-all t q A e =
    radius_is-scan t q (inf false) A e zero-le-top
    ∙ ap finds (picked_same (λ i. le (point t.points q i).d2 (sq (inf false))) (count t)
    (λ i h. is_true (le (point t.points q i).d2 (sq (inf false))) (subst (λ (z : Float). T (le (point t.points q i).d2 z)) (sym sq-top)
    (le-top (point t.points q i).d2 (d2-nonneg q.x q.y (x t.points i) (y t.points i) F.0 F.1 (A.all_finite (2 * i) (omega arith)) (A.all_finite (2 * i + 1) (omega arith)))))))
  where
    F : T (finite q.x) × T (finite q.y)
    F = refusal-finite t.points q e
