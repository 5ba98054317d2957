-- A reply, case by case of what the code tests; that its hits are points over any tree; and what a distance slice is left
-- as, by the answer. Assumes nothing.
use mathlib.Core.Path.{◌≡◌, refl, sym, ap, ◌∙◌, subst}
use mathlib.Core.Logic.{inl, inr}
use mathlib.Core.Bool.{Bool, true, false, ◌&&◌, cond}
use mathlib.Core.List.{List, [], ◌++◌}
use Prim.Native.Nat.{ℕ, zero, suc, ◌+◌, ◌-◌, ◌%◌, ◌≤◌, ◌<◌}
use native.Mathlib.Omega.{arith}
use lib.Dec.{T, ltb, eqb}
use lib.Ieee.{Float, binary64, of_bits, le}
use lib.Ieee.Scale.{finite}
use lib.ListN.{length, get_or, take, drop, drop_of_length-le, replicate, length-append}
use lib.Seq.{take_at, take-length, length-take-le}
use borrow.Rule.Slice.PartMut.{put_mid, post_of}
use borrow.Author.Tests.{eq-eqb, ne_eqb, ltb-false, eqb-false}
use Rattle.distance.specs.Distance.{sq}
use Rattle.distance.specs.declared.Coord.{Coord}
use Rattle.tree.specs.Points.{limit, size}
use Rattle.tree.specs.Accepted.{Tree, count}
use Rattle.tree.proofs.Each.{Each, each_at}
use Rattle.rising.proofs.Sorting.{insert_all}
use Rattle.search.specs.Walk.{Walk, damage, done, Got, broken, got, outcome, walk, walk_all}
use Rattle.search.specs.Order.{point}
use Rattle.search.specs.Refusal.{refusal, Told, told}
use Rattle.search.specs.Result.{Roots, zeros, float_zeros}
use Rattle.std.proofs.Common.{Result, Ok, Err}
use Rattle.std.proofs.lemmas.List.{append_assoc, append-nil, take-append-drop, take-append-le, drop-append-le, length-drop, replicate-append-replicate}
use Rattle.refusal.specs.Numbers.{number}
use Rattle.refusal.specs.declared.Refusal.{Refusal}
use Rattle.refusal.specs.declared.Refusal.TheVariants.{OddCoordinates, TooManyPoints, PointNotFinite, PlaceNotFinite, RadiusNotValid, IndicesTooShort, NodesTooShort, NoRoom, DamagedTree, UnknownRecord}
use Rattle.refusal.proofs.Same.{number-nonzero}
use Rattle.search.proofs.Own.{After, walk_after}
use Rattle.radius.specs.Within.{within, Reply, refuses, damaged, finds, reply_of, reply, says, leaves, squares, Unless, Distances, Answered, InRoom}
use Rattle.radius.proofs.Measuring.{squares-length}

pub nonzero : (n : ℕ) → (n ≡ 0 → ⊥) → 0 < n
nonzero zero h = absurd (h refl)
nonzero (suc n) h = omega arith

-- ---- the reply, by what is tested
-- k: the refusal by 1, 2 or 4; fit: the radius is at least 0; none: there are no points
abbrev by : ℕ → Bool → Bool → Reply → Reply
by k fit none w = cond (eqb (cond (eqb k 0) (cond fit 0 5) k) 0) (cond none (finds []) w) (refuses (cond (eqb k 0) (cond fit 0 5) k))

by-refused : (k : ℕ) (fit none : Bool) (w : Reply) → (k ≡ 0 → ⊥) → by k fit none w ≡ refuses k
by-refused k fit none w h =
    ap (λ (b : Bool). cond (eqb (cond b (cond fit 0 5) k) 0) (cond none (finds []) w) (refuses (cond b (cond fit 0 5) k))) (ne_eqb k 0 h)
    ∙ ap (λ (b : Bool). cond b (cond none (finds []) w) (refuses k)) (ne_eqb k 0 h)

by-fit : (k : ℕ) (fit none : Bool) (w : Reply) → k ≡ 0 → fit ≡ true → by k fit none w ≡ cond none (finds []) w
by-fit k fit none w h f = ap (λ (j : ℕ). by j fit none w) h ∙ ap (λ (b : Bool). by 0 b none w) f

by_unfit : (k : ℕ) (fit none : Bool) (w : Reply) → k ≡ 0 → fit ≡ false → by k fit none w ≡ refuses 5
by_unfit k fit none w h f = ap (λ (j : ℕ). by j fit none w) h ∙ ap (λ (b : Bool). by 0 b none w) f

module _ (t : Tree) (q : Coord) (radius : Float) where
  fit : Bool
  fit = le (of_bits binary64 0) radius

  walked : Reply
  walked = reply_of (outcome (walk_all t (within t.points q (sq radius)) []))

  pub reply-refused : (k : ℕ) → k ≡ refusal t.points q → (k ≡ 0 → ⊥) → reply t q radius ≡ refuses k
  unfolding fit walked
  reply-refused k e h = ap (λ (j : ℕ). by j fit (eqb (count t) 0) walked) (sym e) ∙ by-refused k fit (eqb (count t) 0) walked h

  pub reply_five : refusal t.points q ≡ 0 → le (of_bits binary64 0) radius ≡ false → reply t q radius ≡ refuses 5
  unfolding fit walked
  reply_five e f = by_unfit (refusal t.points q) fit (eqb (count t) 0) walked e f

  module _ (e : refusal t.points q ≡ 0) (f : le (of_bits binary64 0) radius ≡ true) where
    pub reply-none : count t ≡ 0 → reply t q radius ≡ finds []
    unfolding fit walked
    reply-none h = by-fit (refusal t.points q) fit (eqb (count t) 0) walked e f ∙ ap (λ (b : Bool). cond b (finds []) walked) (eq-eqb (count t) 0 h)

    pub reply-walk : (count t ≡ 0 → ⊥) → reply t q radius ≡ reply_of (outcome (walk_all t (within t.points q (sq radius)) []))
    unfolding fit walked
    reply-walk h = by-fit (refusal t.points q) fit (eqb (count t) 0) walked e f ∙ ap (λ (b : Bool). cond b (finds []) walked) (ne_eqb (count t) 0 h)

-- ---- a refusal's number
refusal-low : (points : List Float) (q : Coord) → refusal points q < 5
refusal-low points q = go (eqb (length points % 2) 1) (ltb limit (size points)) (finite q.x && finite q.y)
  where
    go : (a b c : Bool) → cond a 1 (cond b 2 (cond c 0 4)) < 5
    go true b c = omega arith
    go false true c = omega arith
    go false false true = omega arith
    go false false false = omega arith

pub refusal-limit : (points : List Float) (q : Coord) → refusal points q ≡ 0 → size points ≤ limit
refusal-limit points q h = go (eqb (length points % 2) 1) (ltb limit (size points)) refl (finite q.x && finite q.y) h
  where
    go : (a b : Bool) → ltb limit (size points) ≡ b → (c : Bool) → ◌≡◌ {A = ℕ} (cond a 1 (cond b 2 (cond c 0 4))) 0 → size points ≤ limit
    go true b e c h = absurd (omega arith)
    go false true e c h = absurd (omega arith)
    go false false e c h = ltb-false limit (size points) e

abbrev pub Proper : Reply → Type 0
Proper (refuses k) = (0 < k) × (k < 9)
Proper damaged = Unit
Proper (finds l) = Unit

pub reply_proper : (t : Tree) (q : Coord) (radius : Float) → Proper (reply t q radius)
reply_proper t q radius = go (refusal t.points q) (refusal-low t.points q) (le (of_bits binary64 0) radius) (eqb (count t) 0) (outcome (walk_all t (within t.points q (sq radius)) []))
  where
    found : (g : Got (List ℕ)) → Proper (reply_of g)
    found broken = tt
    found (got l) = tt

    go : (k : ℕ) → k < 5 → (ok none : Bool) (g : Got (List ℕ)) → Proper (by k ok none (reply_of g))
    go zero h true true g = tt
    go zero h true false g = found g
    go zero h false none g = (omega arith, omega arith)
    go (suc k) h ok none g = subst Proper (sym (by-refused (suc k) ok none (reply_of g) (λ (z : suc k ≡ 0). omega arith))) (omega arith, omega arith)

-- ---- the same reply
pub answered_as : {a b : Reply} {room : ℕ} {is₀ is : List ℕ} {r : Result ℕ Refusal} → a ≡ b → Answered b room is₀ r is → Answered a room is₀ r is
answered_as {a} {b} {room} {is₀} {is} {r} e A = subst (λ (x : Reply). Answered x room is₀ r is) (sym e) A

-- ---- over any tree a hit is a point
abbrev pub Below : ℕ → List ℕ → Type 0
Below n l = Each (λ i. i < n) l

pub within-below : (t : Tree) (q : Coord) (r2 : Float) → 0 < count t → After (Below (count t)) (walk_all t (within t.points q r2) [])
within-below t q r2 some = go (ltb (length t.indices) (count t)) refl
  where
    put : (b : Bool) (s : List ℕ) (i : ℕ) → Below (count t) s → i < count t → Below (count t) (cond b (Rattle.rising.specs.Sort.insert i s) s)
    put true s i h o = insert_all (λ i. i < count t) i s o h
    put false s i h o = h

    go : (b : Bool) → ltb (length t.indices) (count t) ≡ b → After (Below (count t)) (cond b damage (walk t (within t.points q r2) (count t) 0 0 (count t) []))
    go true e = tt
    go false e = walk_after t (within t.points q r2) (λ s. ⊥) (Below (count t))
        (λ s i h o. elim h [ inl z ↦ absurd z | inr z ↦ put (le (point t.points q i).d2 r2) s i z o ])
        (λ s i h o. elim h [ inl z ↦ absurd z | inr z ↦ put true s i z o ])
        (λ s b z e. z) (ltb-false (length t.indices) (count t) e) (count t) 0 0 (count t) some (omega arith) [] (inr tt)

pub reply-below : (t : Tree) (q : Coord) (radius : Float) (l : List ℕ) → reply t q radius ≡ finds l → Below (count t) l
reply-below t q radius l h = go (refusal t.points q) (le (of_bits binary64 0) radius) (eqb (count t) 0) refl (walk_all t (within t.points q (sq radius)) []) (within-below t q (sq radius)) h
  where
    off : {k : ℕ} → refuses k ≡ finds l → ⊥
    off e = let z : ◌≡◌ {A = ℕ} 0 1 = cc in omega arith

    walked : (w : Walk (List ℕ)) → After (Below (count t)) w → reply_of (outcome w) ≡ finds l → Below (count t) l
    walked damage a e = let z : ◌≡◌ {A = ℕ} 0 1 = cc in absurd (omega arith)
    walked (done s n d) a e = let z : s ≡ l = cc in subst (Below (count t)) z a

    go : (k : ℕ) (ok none : Bool) → eqb (count t) 0 ≡ none → (w : Walk (List ℕ)) → (0 < count t → After (Below (count t)) w) → by k ok none (reply_of (outcome w)) ≡ finds l → Below (count t) l
    go zero true true e w a h = let z : [] ≡ l = cc in subst (Below (count t)) z tt
    go zero true false e w a h = walked w (a (nonzero (count t) (eqb-false (count t) 0 e))) h
    go zero false none e w a h = absurd (off h)
    go (suc k) ok none e w a h = absurd (off (sym (by-refused (suc k) ok none (reply_of (outcome w)) (λ (z : suc k ≡ 0). omega arith)) ∙ h))

-- ---- an answer, by its kind
module _ (a : Reply) (P : Proper a) (room : ℕ) (is₀ is : List ℕ) where
  -- hits: they stand in front, and there is room for them
  pub record Hits (n : ℕ) : Type 0 where
    pub hits : List ℕ
    pub asked : a ≡ finds hits
    pub fits : ltb room (length hits) ≡ false
    pub many : n ≡ length hits
    pub front : take n is ≡ hits

  pub hits-found : (n : ℕ) → Answered a room is₀ (Ok n) is → Hits n
  hits-found n A = go a P refl (ap (λ (x : Told). x.number) A.told_is) (ap (λ (x : Told). x.detail) A.told_is) A.indices_are
    where
      go : (b : Reply) → Proper b → a ≡ b → 0 ≡ (says b room).number → n ≡ (says b room).detail → is ≡ leaves b room is₀ → Hits n
      go (refuses j) P e z d i = absurd (omega (arith, P.0))
      go damaged P e z d i = absurd (omega arith)
      go (finds l) P e z d i = pick (ltb room (length l)) refl z i
        where
          pick : (b : Bool) → ltb room (length l) ≡ b → ◌≡◌ {A = ℕ} 0 (cond b 8 0) → is ≡ cond b is₀ (l ++ drop (length l) is₀) → Hits n
          pick true f z i = absurd (omega arith)
          pick false f z i = record { hits = l; asked = e; fits = f; many = d; front = ap (take n) i ∙ take_at l (drop (length l) is₀) n (sym d) }

  damage-found : Answered a room is₀ (Err DamagedTree) is → a ≡ damaged
  damage-found A = go a P (ap (λ (x : Told). x.number) A.told_is)
    where
      go : (b : Reply) → Proper b → 9 ≡ (says b room).number → b ≡ damaged
      go (refuses j) P z = absurd (omega (arith, P.1))
      go damaged P z = refl
      go (finds l) P z = pick (ltb room (length l)) z
        where
          pick : (b : Bool) → ◌≡◌ {A = ℕ} 9 (cond b 8 0) → finds l ≡ damaged
          pick true z = absurd (omega arith)
          pick false z = absurd (omega arith)

-- ---- the query asked over the first entries of a slice
module _ (a : Reply) (room : ℕ) (is₀ js : List ℕ) (inside : room ≤ length is₀) where
  front-kept : js ≡ take room is₀ → js ++ drop room is₀ ≡ is₀
  front-kept e = ap (λ (l : List ℕ). l ++ drop room is₀) e ∙ take-append-drop room is₀

  front-hits : (l : List ℕ) → length l ≤ room → js ≡ l ++ drop (length l) (take room is₀) → js ++ drop room is₀ ≡ l ++ drop (length l) is₀
  front-hits l h e =
      ap (λ (x : List ℕ). x ++ drop room is₀) e
      ∙ append_assoc l (drop (length l) (take room is₀)) (drop room is₀)
      ∙ ap (λ (x : List ℕ). l ++ x) (sym (drop-append-le (length l) (take room is₀) (drop room is₀) (omega (arith, length-take-le room is₀ inside))) ∙ ap (drop (length l)) (take-append-drop room is₀))

  pub answered_front : (r : Result ℕ Refusal) → ((told r).number ≡ 9 → ⊥) → Answered a room (take room is₀) r js → Answered a room is₀ r (js ++ drop room is₀)
  answered_front r n A = record { told_is = A.told_is; indices_are = go a (ap (λ (x : Told). x.number) A.told_is) A.indices_are }
    where
      go : (b : Reply) → (told r).number ≡ (says b room).number → js ≡ leaves b room (take room is₀) → js ++ drop room is₀ ≡ leaves b room is₀
      go (refuses k) z e = front-kept e
      go damaged z e = absurd (n z)
      go (finds l) z e = pick (ltb room (length l)) refl e
        where
          pick : (b : Bool) → ltb room (length l) ≡ b → js ≡ cond b (take room is₀) (l ++ drop (length l) (take room is₀)) → js ++ drop room is₀ ≡ cond b is₀ (l ++ drop (length l) is₀)
          pick true f e = front-kept e
          pick false f e = front-hits l (ltb-false room (length l) f) e

not_nine : (r : Refusal) → (r ≡ DamagedTree → ⊥) → number r ≡ 9 → ⊥
not_nine OddCoordinates n z = omega arith
not_nine TooManyPoints n z = omega arith
not_nine (PointNotFinite i) n z = omega arith
not_nine PlaceNotFinite n z = omega arith
not_nine RadiusNotValid n z = omega arith
not_nine (IndicesTooShort i) n z = omega arith
not_nine (NodesTooShort i) n z = omega arith
not_nine (NoRoom i) n z = omega arith
not_nine DamagedTree n z = n refl
not_nine UnknownRecord n z = omega arith

-- first entries that are zeros, and zeros put behind them
pub zeros_behind : (js rest new : List ℕ) (k : ℕ) → length js ≡ k → js ≡ zeros js → new ≡ zeros (take (length (js ++ rest) - k) (drop k (js ++ rest))) → put_mid k (length (js ++ rest) - k) (js ++ rest) new ≡ zeros (js ++ rest)
zeros_behind js rest new k e z w =
    ap (λ (l : List ℕ). l ++ (new ++ post_of k (length (js ++ rest) - k) (js ++ rest))) front
    ∙ ap (λ (l : List ℕ). js ++ (new ++ l)) none
    ∙ ap (λ (l : List ℕ). js ++ l) (append-nil new ∙ w ∙ ap (λ (n : ℕ). replicate n 0) many)
    ∙ ap (λ (l : List ℕ). l ++ zeros rest) z
    ∙ replicate-append-replicate (length js) (length rest) 0
    ∙ ap (λ (n : ℕ). replicate n 0) (sym (length-append js rest))
  where
    front : take k (js ++ rest) ≡ js
    front = take-append-le k js rest (omega arith) ∙ ap (λ (n : ℕ). take n js) (sym e) ∙ take-length js

    none : post_of k (length (js ++ rest) - k) (js ++ rest) ≡ []
    none = drop_of_length-le (drop k (js ++ rest)) {i = length (js ++ rest) - k} (omega (arith, length-drop k (js ++ rest)))

    many : length (take (length (js ++ rest) - k) (drop k (js ++ rest))) ≡ length rest
    many = length-take-le (length (js ++ rest) - k) (drop k (js ++ rest)) (omega (arith, length-drop k (js ++ rest))) ∙ omega (arith, length-append js rest)

-- ---- both slices, by what the answer r is
module _ (t : Tree) (q : Coord) (radius : Float) (room : ℕ) (is₀ js : List ℕ) (ds₀ : List Float) (inside : room ≤ length is₀) (r : Result ℕ Refusal) (A : Answered (reply t q radius) room (take room is₀) r js) where
  abbrev is : List ℕ
  is = js ++ drop room is₀

  abbrev a : Reply
  a = reply t q radius

  at : (x : Result ℕ Refusal) → r ≡ x → ((told x).number ≡ 9 → ⊥) → Answered a room is₀ x is
  at x e n = answered_front a room is₀ js inside x n (subst (λ (y : Result ℕ Refusal). Answered a room (take room is₀) y js) e A)

  module _ (n : ℕ) (e : r ≡ Ok n) where
    found : Hits a (reply_proper t q radius) room is₀ is n
    found = hits-found a (reply_proper t q radius) room is₀ is n (at (Ok n) e (λ z. omega arith))

    -- the hits that were found can be measured
    pub hits-few : n ≤ room
    hits-few = omega (arith, found.many, ltb-false room (length found.hits) found.fits)

    pub hits-points : (k d : ℕ) → k < length (take n is) → get_or (take n is) k d < count t
    hits-points k d h = each_at (λ i. i < count t) (take n is) (subst (Below (count t)) (sym found.front) (reply-below t q radius found.hits found.asked)) k d h

    pub in_room-hits : (rs : List Float) → Roots (squares t.points q (take n is)) rs → InRoom t.points q a room is₀ ds₀ (Ok n) is (rs ++ drop n ds₀)
    in_room-hits rs R = record {
      answered = at (Ok n) e (λ z. omega arith);
      distances_are = subst (λ (b : Reply). Distances t.points q b room ds₀ (rs ++ drop n ds₀)) (sym found.asked) (go (ltb room (length found.hits)) found.fits);
    }
      where
        go : (b : Bool) → b ≡ false → Unless b (squares t.points q found.hits) ds₀ (rs ++ drop n ds₀)
        go true f = absurd (subst T f tt)
        go false f = record {
          roots = rs;
          each_root = subst (λ (l : List ℕ). Roots (squares t.points q l) rs) found.front R;
          are = ap (λ (k : ℕ). rs ++ drop k ds₀) (found.many ∙ sym (squares-length t.points q found.hits));
        }

  -- what damage left of the first entries
  pub front-zeros : r ≡ Err DamagedTree → length js ≡ length (take room is₀) → js ≡ zeros js
  front-zeros e long =
      let B = subst (λ (y : Result ℕ Refusal). Answered a room (take room is₀) y js) e A in
      let d = damage-found a (reply_proper t q radius) room (take room is₀) js B in
      subst (λ (b : Reply). js ≡ leaves b room (take room is₀)) d B.indices_are ∙ ap (λ (k : ℕ). replicate k 0) (sym long)

  pub in_room-damage : r ≡ Err DamagedTree → length js ≡ length (take room is₀) → (ks : List ℕ) (ds : List Float) → ks ≡ zeros is → ds ≡ float_zeros ds₀ → InRoom t.points q a room is₀ ds₀ (Err DamagedTree) ks ds
  in_room-damage e long ks ds z f =
      let d = damage-found a (reply_proper t q radius) room (take room is₀) js (subst (λ (y : Result ℕ Refusal). Answered a room (take room is₀) y js) e A) in
      rw d (record { answered = record { told_is = refl; indices_are = z ∙ ap (λ (k : ℕ). replicate k 0) same }; distances_are = f })
    where
      same : length is ≡ length is₀
      same = length-append js (drop room is₀) ∙ ap (λ (k : ℕ). k + length (drop room is₀)) long ∙ sym (length-append (take room is₀) (drop room is₀)) ∙ ap length (take-append-drop room is₀)

  pub in_room-refused : (k : Refusal) → r ≡ Err k → (k ≡ DamagedTree → ⊥) → InRoom t.points q a room is₀ ds₀ (Err k) is ds₀
  in_room-refused k e n = record { answered = B; distances_are = go a (ap (λ (x : Told). x.number) B.told_is) }
    where
      B : Answered a room is₀ (Err k) is
      B = at (Err k) e (not_nine k n)

      go : (b : Reply) → number k ≡ (says b room).number → Distances t.points q b room ds₀ ds₀
      go (refuses j) z = refl
      go damaged z = absurd (not_nine k n z)
      go (finds l) z = pick (ltb room (length l)) z
        where
          pick : (b : Bool) → number k ≡ cond b 8 0 → Unless b (squares t.points q l) ds₀ ds₀
          pick true z = refl
          pick false z = absurd (number-nonzero k z)
