-- What a radius query prints: over an accepted tree the scan's hits, each at its own distance. Assumes nothing.
use Prim.Native.Nat.{ℕ, zero, suc, ◌≤◌, ◌<◌, min}
use mathlib.Core.Path.{◌≡◌, refl, ap, sym, subst, ◌∙◌}
use mathlib.Core.List.{List, [], ◌∷◌, ◌++◌, map, append-nil}
use mathlib.Core.Bool.{Bool, true, false, cond}
use native.Mathlib.Omega.{arith}
use lib.Dec.{T, ltb, eqb}
use lib.ListN.{length, drop, length-append, length-map}
use lib.Ieee.{Float, binary64, of_bits, le}
use lib.Ieee.Scale.{finite}
use borrow.Author.Tests.{eqb-true, eqb-false, eq-eqb, le-ltb}
use Rattle.distance.specs.Distance.{sq}
use Rattle.distance.specs.declared.Coord.{Coord}
use Rattle.tree.specs.Accepted.{Tree, count, Accepted}
use Rattle.search.specs.Order.{point}
use Rattle.search.specs.Refusal.{refusal, told, Told}
use Rattle.search.specs.Answer.{Answer, refused, hits, gives_hits, Answers}
use Rattle.search.specs.Walk.{outcome, walk_all}
use Rattle.search.specs.Result.{Roots, squares_of, indices_of}
use Rattle.search.specs.declared.Best.{Best}
use Rattle.std.proofs.Common.{Result, Ok, Err}
use Rattle.refusal.specs.declared.Refusal.{Refusal}
use Rattle.refusal.proofs.Same.{number-nonzero}
use Rattle.tree.proofs.Each.{Each}
use Rattle.labels.specs.Labels.{hits as passing}
use Rattle.radius.specs.Within as w
use Rattle.radius.specs.Within.{within, Reply, reply, reply_of, finds, refuses, squares, RootsInFront, WithDistances}
use Rattle.radius.proofs.Scan.{picked, picked-below, radius_is-scan}
use Rattle.stream.specs.Prints.{radius_scan}
use Rattle.search.proofs.Unrefused.{refusal-finite}
use Rattle.stream.proofs.Nearby.{point-unsigned}
use Rattle.stream.proofs.Listing.{Unsigned}

passing-more : (p : ℕ → Bool) (n : ℕ) (b : Bool) → passing p n ≡ picked p n → passing p n ++ cond b (n ∷ []) [] ≡ cond b (picked p n ++ (n ∷ [])) (picked p n)
passing-more p n true e = ap (λ (l : List ℕ). l ++ (n ∷ [])) e
passing-more p n false e = append-nil (passing p n) ∙ e

passing-picked : (p : ℕ → Bool) (n : ℕ) → passing p n ≡ picked p n
unfolding passing
passing-picked p zero = refl
passing-picked p (suc n) = passing-more p n (p n) (passing-picked p n)

length-picked : (p : ℕ → Bool) (n : ℕ) → length (picked p n) ≤ n
length-picked p zero = omega arith
length-picked p (suc n) = go (p n) (length-picked p n)
  where
    go : (b : Bool) → length (picked p n) ≤ n → length (cond b (picked p n ++ (n ∷ [])) (picked p n)) ≤ suc n
    go true h = omega (arith, length-append (picked p n) (n ∷ []))
    go false h = omega arith

module _ (points : List Float) (q : Coord) where
  indices-points : (l : List ℕ) → indices_of (map (point points q) l) ≡ l
  indices-points [] = refl
  indices-points (i ∷ l) = ap (λ (z : List ℕ). i ∷ z) (indices-points l)

  squares-points : (l : List ℕ) → squares_of (map (point points q) l) ≡ squares points q l
  squares-points [] = refl
  squares-points (i ∷ l) = ap (λ (z : List Float). (point points q i).d2 ∷ z) (squares-points l)

not_refused : (points : List Float) (q : Coord) (radius : Float) → w.refused points q radius ≡ 0 → (refusal points q ≡ 0) × (le (of_bits binary64 0) radius ≡ true)
not_refused points q radius e = go (eqb (refusal points q) 0) refl (le (of_bits binary64 0) radius) refl e
  where
    go : (a : Bool) → eqb (refusal points q) 0 ≡ a → (b : Bool) → le (of_bits binary64 0) radius ≡ b → cond a (cond b 0 5) (refusal points q) ≡ 0
        → (refusal points q ≡ 0) × (le (of_bits binary64 0) radius ≡ true)
    go true f true g h = (eqb-true (refusal points q) 0 f, g)
    go true f false g h = absurd (omega arith)
    go false f b g h = absurd (eqb-false (refusal points q) 0 f h)

told-ok : (r : Result ℕ Refusal) (m : ℕ) → told r ≡ record { number = 0; detail = m } → r ≡ Ok m
told-ok (Ok n) m e = ap (λ (a : Told). Ok a.detail) e
told-ok (Err r) m e = absurd (number-nonzero r (ap (λ (a : Told). a.number) e))

no-hits : (r : Result ℕ Refusal) → ((told r).number ≡ 0 → ⊥) → gives_hits r ≡ false
no-hits (Ok m) h = absurd (h refl)
no-hits (Err r) h = refl

module _ (t : Tree) (q : Coord) (radius : Float) (A : Accepted t) where
  abbrev k : ℕ
  k = w.refused t.points q radius

  abbrev hit : ℕ → Bool
  hit i = le (point t.points q i).d2 (sq radius)

  abbrev found : List Best
  found = map (point t.points q) (picked hit (count t))

  scan-finds : k ≡ 0 → radius_scan t.points q radius ≡ hits found
  scan-finds e =
      ap (λ (b : Bool). cond b (hits (map (point t.points q) (passing hit (count t)))) (refused k 0)) (eq-eqb k 0 e)
      ∙ ap (λ (l : List ℕ). hits (map (point t.points q) l)) (passing-picked hit (count t))

  reply-finds : k ≡ 0 → reply t q radius ≡ finds (picked hit (count t))
  reply-finds e = let f = not_refused t.points q radius e in radius_is-scan t q radius A f.0 f.1

  module _ {is₀ is : List ℕ} {ds₀ ds : List Float} (r : Result ℕ Refusal) (room : count t ≤ min (length is₀) (length ds₀)) where
    finds-answers : WithDistances t.points q (finds (picked hit (count t))) is₀ ds₀ r is ds → Answers (hits found) is₀ ds₀ r is ds
    finds-answers W =
        let n = length (picked hit (count t)) in
        let few : length (picked hit (count t)) ≤ min (length is₀) (length ds₀) = omega (arith, length-picked hit (count t), room) in
        let no : ltb (min (length is₀) (length ds₀)) (length (picked hit (count t))) ≡ false = le-ltb (min (length is₀) (length ds₀)) (length (picked hit (count t))) few in
        let e : r ≡ Ok (length (picked hit (count t))) = told-ok r (length (picked hit (count t))) (W.answered.told_is ∙ simp no) in
        let m : length found ≡ length (picked hit (count t)) = length-map (picked hit (count t)) (point t.points q) in
        let D : RootsInFront (squares t.points q (picked hit (count t))) ds₀ ds = rw no at W.distances_are in
        let s : length (squares t.points q (picked hit (count t))) ≡ length found = length-map (picked hit (count t)) (λ (i : ℕ). (point t.points q i).d2) ∙ sym m in
        record {
          kind = ap gives_hits e;
          tells = ap told e ∙ ap (λ (j : ℕ). record { number = 0; detail = j }) (sym m);
          leaves = record {
            roots = D.roots;
            each_root = subst (λ (l : List Float). Roots l D.roots) (sym (squares-points t.points q (picked hit (count t)))) D.each_root;
            indices_are = W.answered.indices_are ∙ simp no (cc (indices-points t.points q (picked hit (count t)), m));
            distances_are = D.are ∙ ap (λ (j : ℕ). D.roots ++ drop j ds₀) s;
          };
        }

    refuses-answers : (k ≡ 0 → ⊥) → WithDistances t.points q (refuses k) is₀ ds₀ r is ds → Answers (refused k 0) is₀ ds₀ r is ds
    refuses-answers n W = record {
      kind = no-hits r (λ z. n (sym (ap (λ (x : Told). x.number) W.answered.told_is) ∙ z));
      tells = W.answered.told_is;
      leaves = (W.answered.indices_are, W.distances_are);
    }

    pub radius_answers : WithDistances t.points q (reply t q radius) is₀ ds₀ r is ds → Answers (radius_scan t.points q radius) is₀ ds₀ r is ds
    radius_answers W = go (eqb k 0) refl
      where
        go : (b : Bool) → eqb k 0 ≡ b → Answers (radius_scan t.points q radius) is₀ ds₀ r is ds
        go true e =
            let z = eqb-true k 0 e in
            subst (λ (a : Answer). Answers a is₀ ds₀ r is ds) (sym (scan-finds z))
            (finds-answers (subst (λ (a : Reply). WithDistances t.points q a is₀ ds₀ r is ds) (reply-finds z) W))
        go false e =
            subst (λ (a : Answer). Answers a is₀ ds₀ r is ds) (sym (ap (λ (b : Bool). cond b (hits (map (point t.points q) (passing hit (count t)))) (refused k 0)) e))
            (refuses-answers (eqb-false k 0 e)
            (subst (λ (a : Reply). WithDistances t.points q a is₀ ds₀ r is ds)
            (ap (λ (b : Bool). cond b (cond (eqb (count t) 0) (finds []) (reply_of (outcome (walk_all t (within t.points q (sq radius)) [])))) (refuses k)) e) W))

  points-unsigned : T (finite q.x) × T (finite q.y) → (l : List ℕ) → Each (λ j. j < count t) l → Each Unsigned (map (point t.points q) l)
  points-unsigned f [] h = tt
  points-unsigned f (i ∷ l) h = (point-unsigned t q i A f.0 f.1 h.0, points-unsigned f l h.1)

  pub around_unsigned : (l : List Best) → radius_scan t.points q radius ≡ hits l → Each Unsigned l
  around_unsigned l e = go (eqb k 0) refl
    where
      inj : (l m : List Best) → hits l ≡ hits m → l ≡ m
      inj l m e = cc

      go : (b : Bool) → eqb k 0 ≡ b → Each Unsigned l
      go true f =
          let z = eqb-true k 0 f in
          subst (Each Unsigned) (inj found l (sym (scan-finds z) ∙ e))
          (points-unsigned (refusal-finite t.points q (not_refused t.points q radius z).0) (picked hit (count t)) (picked-below hit (count t)))
      go false f =
          let g : refused k 0 ≡ hits l = sym (ap (λ (b : Bool). cond b (hits (map (point t.points q) (passing hit (count t)))) (refused k 0)) f) ∙ e in
          let z : ◌≡◌ {A = ℕ} 0 1 = cc in absurd (omega arith)
