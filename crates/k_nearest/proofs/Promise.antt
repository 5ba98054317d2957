-- What the contract of `nearest_neighbours` comes to.
--   k_nearest_is-scan   over an accepted tree the answer is the plain scan's
--   nearest_k-length    and the scan finds min(k, n) points
--   nine_unaccepted     9 comes only over a tree that is not accepted
--   hits-own            over any tree at all each hit is a point below n, at that point's own squared distance
--   hits-length         and hits are min(k, n) in number
--   outcomes_unique     any two outcomes that the contract permits for one input are the same
-- By the law of all queries, and by the uniqueness of the root. Assumes nothing.
use mathlib.Core.Path.{◌≡◌, refl, sym, ap, ◌∙◌, subst}
use mathlib.Core.Logic.{◌⊎◌, inl, inr}
use mathlib.Core.List.{List, [], ◌∷◌}
use mathlib.Core.Bool.{Bool, true, false, ◌&&◌, cond}
use Prim.Native.Nat.{ℕ, zero, suc, ◌%◌, ◌≤◌, ◌<◌, min}
use native.Mathlib.Omega.{arith}
use lib.Dec.{T, eqb, ltb}
use lib.ListN.{length, length-take}
use lib.Seq.{take_all}
use lib.Ieee.{Float, nan, lt}
use lib.Ieee.Scale.{finite}
use borrow.Author.Tests.{eqb-true, eqb-false, ltb-true, ltb-false, lt-ltb}
use Rattle.distance.specs.Distance.{bound}
use Rattle.distance.specs.declared.Bounds.{Bounds}
use Rattle.distance.specs.declared.Coord.{Coord}
use Rattle.tree.specs.Points.{limit, size}
use Rattle.tree.specs.Accepted.{Tree, count, Accepted, Grown}
use Rattle.search.specs.Walk.{Walk, damage, done, Got, broken, got, outcome, walk, walk_all, plain}
use Rattle.search.specs.Order.{point, before}
use Rattle.search.specs.Refusal.{refusal, told}
use Rattle.search.specs.Answer.{Answer, refused, hits, telling, Answers}
use Rattle.search.specs.declared.Best.{Best}
use Rattle.std.proofs.Common.{Result}
use Rattle.refusal.specs.declared.Refusal.{Refusal}
use Rattle.search.proofs.Whole.{Fair, Ends, walk-is-plain}
use Rattle.search.proofs.Own.{After, walk_after}
use Rattle.tree.proofs.Each.{Each}
use Rattle.search.proofs.Written.{Held}
use Rattle.search.proofs.Answered.{answers_unique}
use Rattle.heap.specs.Heap.{blank}
use Rattle.heap.proofs.Each.{offer-each, heap_sort-each, heap_sort-size}
use Rattle.k_nearest.specs.Scan.{insert, keep, nearest_k}
use Rattle.k_nearest.specs.Query.{wanted, over_top, holding, probing, sorted, found, no_room, answer, scan_answer}
use Rattle.k_nearest.proofs.Full.{walk-full, after-got}
use Rattle.k_nearest.proofs.Tied.{tied_sorted, Ended, knn_ends}

-- ---- the scan keeps as many as there are, and k at most
insert-length : (p : Best) (l : List Best) → length (insert p l) ≡ suc (length l)
insert-length p [] = refl
insert-length p (s ∷ ss) = go (before p s) (insert-length p ss)
  where
    go : (b : Bool) → length (insert p ss) ≡ suc (length ss) → length (cond b (p ∷ s ∷ ss) (s ∷ insert p ss)) ≡ suc (suc (length ss))
    go true h = refl
    go false h = ap suc h

module _ (points : List Float) (q : Coord) where
  kept-length : (k m : ℕ) → length (plain (keep k points q) [] m) ≡ min k m
  kept-length k zero = omega arith
  kept-length k (suc m) =
      let s = plain (keep k points q) [] m in
      omega (arith, length-take k (insert (point points q m) s), insert-length (point points q m) s, kept-length k m)

  pub nearest_k-length : (k : ℕ) → length (nearest_k k points q) ≡ min k (size points)
  nearest_k-length k = kept-length k (size points)

  -- a bound that is not reached cuts nothing
  kept-all : (k n m : ℕ) → m ≤ k → m ≤ n → plain (keep k points q) [] m ≡ plain (keep n points q) [] m
  kept-all k n zero h g = refl
  kept-all k n (suc m) h g =
      let s = plain (keep k points q) [] m in
      let p = point points q m in
      let e : length (insert p s) ≡ suc m = omega (arith, insert-length p s, kept-length k m) in
      take_all k (insert p s) (omega arith) ∙ sym (take_all n (insert p s) (omega arith)) ∙ ap (λ (z : List Best). keep n points q z m) (kept-all k n m (omega arith) (omega arith))

  nearest_k-min : (k : ℕ) → nearest_k (min k (size points)) points q ≡ nearest_k k points q
  nearest_k-min k = go (ltb k (size points)) refl
    where
      go : (b : Bool) → ltb k (size points) ≡ b → nearest_k (min k (size points)) points q ≡ nearest_k k points q
      go true e = let h = ltb-true k (size points) e in let f : min k (size points) ≡ k = omega arith in ap (λ (j : ℕ). nearest_k j points q) f
      go false e = let h = ltb-false k (size points) e in kept-all (min k (size points)) k (size points) (omega arith) h

-- ---- over an accepted tree
probing_fair : (t : Tree) → Fair t probing (λ s. Unit)
probing_fair t = record { stays = λ s i o h. tt; swaps = λ s i j o h m. refl; passes = λ s b i o h f g p. refl; takes = λ s b i h f g p. refl }

ends-got : {S : Type 0} (g : S) (w : Walk S) → Ends g w → outcome w ≡ got g
ends-got g (done s n d) h = ap got h
ends-got {S = S} g damage h = elim h [ ]

ended_found : (k : ℕ) (g : List Best) (w : Walk (List Best)) → 0 < k → Ended k g w → found (outcome w) ≡ hits g
ended_found k g (done s n d) o I = ap hits (tied_sorted k s g o I)
ended_found k g damage o I = elim I [ ]

no-refusal : (points : List Float) (q : Coord) → ltb 0 (refusal points q) ≡ false → (size points ≤ limit) × T (finite q.x) × T (finite q.y)
no-refusal points q h = go (eqb (length points % 2) 1) (ltb limit (size points)) refl (finite q.x) (finite q.y) h
  where
    go : (a b : Bool) → ltb limit (size points) ≡ b → (c d : Bool) → ltb 0 (cond a 1 (cond b 2 (cond (c && d) 0 4))) ≡ false → (size points ≤ limit) × T c × T d
    go true b e c d h = absurd (subst T h tt)
    go false true e c d h = absurd (subst T h tt)
    go false false e true true h = (ltb-false limit (size points) e, tt, tt)
    go false false e true false h = absurd (subst T h tt)
    go false false e false d h = absurd (subst T h tt)

pub k_nearest_is-scan : (t : Tree) (q : Coord) (k room : ℕ) → Accepted t → answer t q k room ≡ scan_answer t.points q k room
k_nearest_is-scan t q k room A = go (ltb 0 (refusal t.points q)) refl (eqb (wanted k t) 0) refl (ltb room (wanted k t))
  where
    grown : 0 < wanted k t → Grown t
    grown h = elim A.tree [ inl z ↦ absurd (omega arith) | inr G ↦ G ]

    some : eqb (wanted k t) 0 ≡ false → 0 < wanted k t
    some e = let h = eqb-false (wanted k t) 0 e in omega arith

    go : (a : Bool) → ltb 0 (refusal t.points q) ≡ a → (b : Bool) → eqb (wanted k t) 0 ≡ b → (c : Bool)
        → cond a (refused (refusal t.points q) 0)
        (cond b (hits []) (cond c (no_room (wanted k t) (outcome (walk_all t probing tt))) (found (outcome (walk_all t (holding (wanted k t) t.points q) [])))))
        ≡ cond a (refused (refusal t.points q) 0) (cond b (hits []) (cond c (refused 8 (wanted k t)) (hits (nearest_k k t.points q))))
    go true e b f c = refl
    go false e true f c = refl
    go false e false f true =
        ap (no_room (wanted k t)) (ends-got tt (walk_all t probing tt) (walk-is-plain t probing (λ s. Unit) (probing_fair t) (grown (some f)) tt tt))
    go false e false f false =
        let F = no-refusal t.points q e in
        ended_found (wanted k t) (nearest_k (wanted k t) t.points q) (walk_all t (holding (wanted k t) t.points q) []) (some f) (knn_ends (wanted k t) t q A (grown (some f)) F.1 F.2 (some f))
        ∙ ap hits (nearest_k-min t.points q k)

pub nine_unaccepted : (t : Tree) (q : Coord) (k room : ℕ) (is₀ is : List ℕ) (ds₀ ds : List Float) (r : Result ℕ Refusal) → Answers (answer t q k room) is₀ ds₀ r is ds → (told r).number ≡ 9 → Accepted t → ⊥
nine_unaccepted t q k room is₀ is ds₀ ds r h e A =
    go (eqb (length t.points % 2) 1) (ltb limit (count t)) (finite q.x && finite q.y) (eqb (wanted k t) 0) (ltb room (wanted k t))
    (ap (λ (a : Answer). (telling a).number) (sym (k_nearest_is-scan t q k room A)) ∙ sym (ap (λ z. z.number) h.tells) ∙ e)
  where
    go : (a b c d f : Bool)
        → (telling (cond (ltb 0 (cond a 1 (cond b 2 (cond c 0 4)))) (refused (cond a 1 (cond b 2 (cond c 0 4))) 0) (cond d (hits []) (cond f (refused 8 (wanted k t)) (hits (nearest_k k t.points q)))))).number ≡ 9 → ⊥
    go true b c d f h = omega arith
    go false true c d f h = omega arith
    go false false false d f h = omega arith
    go false false true true f h = omega arith
    go false false true false true h = omega arith
    go false false true false false h = omega arith

-- ---- over any tree
pub record Own (t : Tree) (q : Coord) (s : Best) : Type 0 where
  pub inside : s.index < count t
  pub own : s ≡ point t.points q s.index

walk-own : (t : Tree) (q : Coord) (k : ℕ) → 0 < k → 0 < count t → After (Each (Own t q)) (walk_all t (holding k t.points q) [])
walk-own t q k o some = go (ltb (length t.indices) (count t)) refl
  where
    add : (s : List Best) (i : ℕ) → Each (Own t q) s → i < count t → Each (Own t q) ((holding k t.points q).next s i)
    add s i g h = offer-each before blank (Own t q) k s (point t.points q i) o g (record { inside = h; own = refl })

    step : (s : List Best) (i : ℕ) → (s ≡ []) ⊎ Each (Own t q) s → i < count t → Each (Own t q) ((holding k t.points q).next s i)
    step s i (inl e) h = add s i (subst (Each (Own t q)) (sym e) tt) h
    step s i (inr g) h = add s i g h

    opens : (s : List Best) (b : Bounds) → s ≡ [] → over_top k s (bound q b) ≡ true → ⊥
    opens s b e h = clash (ltb 0 k) (lt-ltb 0 k o) (ap (λ (z : List Best). over_top k z (bound q b)) (sym e) ∙ h)
      where
        clash : (c : Bool) → c ≡ true → cond c false (lt nan (bound q b)) ≡ true → ⊥
        clash true e h = subst T (sym h) tt
        clash false e h = subst T (sym e) tt

    go : (z : Bool) → ltb (length t.indices) (count t) ≡ z → After (Each (Own t q)) (cond z damage (walk t (holding k t.points q) (count t) 0 0 (count t) []))
    go true e = tt
    go false e = walk_after t (holding k t.points q) (λ s. s ≡ []) (Each (Own t q)) step step opens (ltb-false (length t.indices) (count t) e) (count t) 0 0 (count t) some (omega arith) [] (inl refl)

-- hits are none where none are wanted, or come from the walk's end
module _ (t : Tree) (q : Coord) (k room : ℕ) (l : List Best) (h : answer t q k room ≡ hits l) where
  of_hits : (P : List Best → Type 0) → (wanted k t ≡ 0 → P []) → (0 < wanted k t → (s : List Best) → outcome (walk_all t (holding (wanted k t) t.points q) []) ≡ got s → P (sorted s)) → P l
  of_hits P none some = go (ltb 0 (refusal t.points q)) (eqb (wanted k t) 0) refl (ltb room (wanted k t)) h
    where
      end : (g : Got (List Best)) → outcome (walk_all t (holding (wanted k t) t.points q) []) ≡ g → 0 < wanted k t → found g ≡ hits l → P l
      end broken x o e = let z : ◌≡◌ {A = ℕ} 0 1 = cc in absurd (omega arith)
      end (got s) x o e = let g : sorted s ≡ l = cc in subst P g (some o s x)

      no : (g : Got Unit) → no_room (wanted k t) g ≡ hits l → P l
      no broken h = let z : ◌≡◌ {A = ℕ} 0 1 = cc in absurd (omega arith)
      no (got s) h = let z : ◌≡◌ {A = ℕ} 0 1 = cc in absurd (omega arith)

      go : (a b : Bool) → eqb (wanted k t) 0 ≡ b → (c : Bool)
          → cond a (refused (refusal t.points q) 0)
          (cond b (hits []) (cond c (no_room (wanted k t) (outcome (walk_all t probing tt))) (found (outcome (walk_all t (holding (wanted k t) t.points q) []))))) ≡ hits l
          → P l
      go true b f c h = let z : ◌≡◌ {A = ℕ} 0 1 = cc in absurd (omega arith)
      go false true f c h = let g : [] ≡ l = cc in subst P g (none (eqb-true (wanted k t) 0 f))
      go false false f true h = no (outcome (walk_all t probing tt)) h
      go false false f false h = let n = eqb-false (wanted k t) 0 f in end (outcome (walk_all t (holding (wanted k t) t.points q) [])) refl (omega arith) h

  pub hits-own : Each (Own t q) l
  hits-own = of_hits (Each (Own t q)) (λ e. tt)
      (λ o s e. heap_sort-each before blank (Own t q) (length s) s (omega arith) (after-got (Each (Own t q)) (walk_all t (holding (wanted k t) t.points q) []) s (walk-own t q (wanted k t) o (omega arith)) e))

  pub hits-length : length l ≡ wanted k t
  hits-length = of_hits (λ z. length z ≡ wanted k t) (λ e. sym e)
      (λ o s e. heap_sort-size before blank (length s) s ∙ after-got (λ z. length z ≡ wanted k t) (walk_all t (holding (wanted k t) t.points q) []) s (walk-full t q (wanted k t) o (omega arith)) e)

-- ---- one outcome
pub outcomes_unique : (t : Tree) (q : Coord) (k room : ℕ) (is₀ is js : List ℕ) (ds₀ ds es : List Float) (r s : Result ℕ Refusal)
    → Answers (answer t q k room) is₀ ds₀ r is ds → Answers (answer t q k room) is₀ ds₀ s js es → Held ds → Held es → (r ≡ s) × (is ≡ js) × (ds ≡ es)
outcomes_unique t q k room is₀ is js ds₀ ds es r s A B f g = answers_unique A B f g
