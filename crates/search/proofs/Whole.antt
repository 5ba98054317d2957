-- The one law of all queries: over a sound tree, a walk that passes over only what makes no difference ends at the state of the plain scan. Assumes nothing.
use mathlib.Core.Path.{◌≡◌, refl, sym, ap, ◌∙◌, subst}
use mathlib.Core.List.{List, [], ◌∷◌, ◌++◌, foldl, foldl-append}
use mathlib.Core.Bool.{Bool, true, false, cond}
use Prim.Native.Nat.{ℕ, zero, suc, ◌+◌, ◌-◌, ◌≤◌, ◌<◌}
use native.Mathlib.Nat.{sub-zero}
use native.Mathlib.Omega.{arith}
use lib.ListN.{length, get_or, take, drop}
use lib.Seq.{take-add, drop-drop, drop-cons}
use borrow.Author.Tests.{lt-ltb, le-ltb}
use Rattle.tree.specs.Points.{x, y}
use Rattle.tree.specs.Node.{bounds, mid, part}
use Rattle.tree.specs.Accepted.{Tree, count, Finite, Holds, Boxed, Sound, leaf, branch, Grown}
use Rattle.search.specs.Walk.{Search, Walk, damage, done, more, and_then, scan, leaf_scan, walk, walk_all, plain}
use Rattle.tree.proofs.Each.{Each}
use Rattle.search.proofs.Fold.{fold_ok, fold_swap, fold_all}
use Rattle.distance.specs.declared.Bounds.{Bounds}

-- What a query has to show: any two points may be swapped, a box that is passed over has only points that change nothing,
-- and in a box that is taken whole each point makes of the state what it would if its distance were worked out.
pub record Fair {S : Type 0} (t : Tree) (Q : Search S) (Ok : S → Type 0) : Type 0 where
  pub stays : (s : S) (i : ℕ) → Ok s → i < count t → Ok (Q.next s i)
  pub swaps : (s : S) (i j : ℕ) → Ok s → i < count t → j < count t → Q.next (Q.next s i) j ≡ Q.next (Q.next s j) i
  pub passes : (s : S) (b : Bounds) (i : ℕ) → Ok s → i < count t → Finite b → Holds b (x t.points i) (y t.points i) → Q.skip s b ≡ true → Q.next s i ≡ s
  pub takes : (s : S) (b : Bounds) (i : ℕ) → i < count t → Finite b → Holds b (x t.points i) (y t.points i) → Q.whole b ≡ true → Q.add s i ≡ Q.next s i

-- the walk meets no damage, and ends at the state g
abbrev pub Ends : {S : Type 0} → S → Walk S → Type 0
Ends g damage = ⊥
Ends g (done s n d) = s ≡ g

-- ---- parts
pub part-is : (l : List ℕ) (a e : ℕ) → a ≤ e → e ≤ length l → part l a e ≡ take (e - a) (drop a l)
part-is l a e h k = simp (le-ltb e a h, le-ltb (length l) e k)

part-split : (l : List ℕ) (a m e : ℕ) → a ≤ m → m ≤ e → e ≤ length l → part l a e ≡ part l a m ++ part l m e
part-split l a m e h k g =
    part-is l a e (omega arith) g
    ∙ ap (λ (c : ℕ). take c (drop a l)) (sizes a m e h k)
    ∙ take-add (m - a) (e - m) (drop a l)
    ∙ ap (λ (z : List ℕ). take (m - a) (drop a l) ++ take (e - m) z) (drop-drop (m - a) a l)
    ∙ ap (λ (c : ℕ). take (m - a) (drop a l) ++ take (e - m) (drop c l)) (place a m h)
    ∙ sym (ap (λ (z : List ℕ). z ++ part l m e) (part-is l a m h (omega arith)) ∙ ap (λ (z : List ℕ). take (m - a) (drop a l) ++ z) (part-is l m e k g))
  where
    sizes : (a m e : ℕ) → a ≤ m → m ≤ e → e - a ≡ (m - a) + (e - m)
    sizes a m e h k = omega arith

    place : (a m : ℕ) → a ≤ m → a + (m - a) ≡ m
    place a m h = omega arith

take_all_of : (P : ℕ → Type 0) (l : List ℕ) (c a : ℕ) → a + c ≤ length l → ((k : ℕ) → a ≤ k → k < a + c → P (get_or l k 0)) → Each P (take c (drop a l))
take_all_of P l zero a h f = tt
take_all_of P l (suc c) a h f =
    subst (λ (z : List ℕ). Each P (take (suc c) z)) (sym (drop-cons l a 0 (omega arith)))
    (f a (omega arith) (omega arith), take_all_of P l c (suc a) (omega arith) (λ k g m. f k (omega arith) (omega arith)))

part-all : (P : ℕ → Type 0) (l : List ℕ) (a e : ℕ) → a ≤ e → e ≤ length l → ((k : ℕ) → a ≤ k → k < e → P (get_or l k 0)) → Each P (part l a e)
part-all P l a e h k f = subst (λ (z : List ℕ). Each P z) (sym (part-is l a e h k)) (take_all_of P l (e - a) a (omega arith) (λ j g m. f j g (omega arith)))

-- ---- walks
module _ {S : Type 0} where
  ends_more : (g : S) (a b : ℕ) (w : Walk S) → Ends g w → Ends g (more a b w)
  ends_more g a b (done s n d) h = h
  ends_more g a b damage h = elim h [ ]

  ends-then : (g m : S) (w : Walk S) (f : S → Walk S) → Ends m w → Ends g (f m) → Ends g (and_then w f)
  ends-then g m (done s n d) f e h = ends_more g n d (f s) (subst (λ (z : S). Ends g (f z)) (sym e) h)
  ends-then g m damage f e h = elim e [ ]

  scan-ends : (n : ℕ) (f : S → ℕ → S) (c : ℕ) (l : List ℕ) (s : S) → Each (λ i. i < n) l → Ends (foldl f s l) (scan n f c s l)
  scan-ends n f c [] s h = refl
  scan-ends n f c (i ∷ is) s h = rw (lt-ltb i n h.0) (ends_more (foldl f (f s i) is) 0 c (scan n f c (f s i) is) (scan-ends n f c is (f s i) h.1))

  fold_same : (f g : S → ℕ → S) (l : List ℕ) (s : S) → Each (λ i. (s : S) → f s i ≡ g s i) l → foldl f s l ≡ foldl g s l
  fold_same f g [] s h = refl
  fold_same f g (i ∷ is) s h = ap (λ (z : S). foldl f z is) (h.0 s) ∙ fold_same f g is (g s i) h.1

  no_change : (Q : Search S) (l : List ℕ) (s : S) → Each (λ i. Q.next s i ≡ s) l → foldl Q.next s l ≡ s
  no_change Q [] s h = refl
  no_change Q (i ∷ is) s h = ap (λ (z : S). foldl Q.next z is) h.0 ∙ no_change Q is s h.1

sound-some : {t : Tree} {v a e : ℕ} → Sound t v a e → a < e
sound-some (leaf b q) = b.some
sound-some (branch l r b q L R) = b.some

module _ {S : Type 0} (t : Tree) (Q : Search S) (Ok : S → Type 0) (F : Fair t Q Ok) (room : count t ≤ length t.indices) (below : (k : ℕ) → k < count t → get_or t.indices k 0 < count t) where
  -- the state after the points of a part
  abbrev after : ℕ → ℕ → S → S
  after a e s = foldl Q.next s (part t.indices a e)

  all-below : (a e : ℕ) → a ≤ e → e ≤ count t → Each (λ i. i < count t) (part t.indices a e)
  all-below a e h k = part-all (λ i. i < count t) t.indices a e h (omega arith) (λ j g m. below j (omega arith))

  after_ok : (a e : ℕ) (s : S) → a ≤ e → e ≤ count t → Ok s → Ok (after a e s)
  after_ok a e s h k o = fold_ok (count t) Q.next Ok F.stays F.swaps (part t.indices a e) s o (all-below a e h k)

  passed : (v a e : ℕ) (s : S) → e ≤ count t → Ok s → Boxed t (bounds t.boxes v) a e → Q.skip s (bounds t.boxes v) ≡ true → s ≡ after a e s
  passed v a e s k o b p = sym (no_change Q (part t.indices a e) s
      (part-all (λ i. Q.next s i ≡ s) t.indices a e (omega (arith, b.some)) (omega arith)
      (λ j g m. F.passes s (bounds t.boxes v) (get_or t.indices j 0) o (below j (omega arith)) b.closed (b.holds j g m) p)))

  in_order : (a m e : ℕ) (s : S) → a ≤ m → m ≤ e → e ≤ count t → after m e (after a m s) ≡ after a e s
  in_order a m e s h k g =
      sym (foldl-append Q.next s (part t.indices a m) (part t.indices m e))
      ∙ ap (λ (z : List ℕ). foldl Q.next s z) (sym (part-split t.indices a m e h k (omega arith)))

  swapped : (a m e : ℕ) (s : S) → a ≤ m → m ≤ e → e ≤ count t → Ok s → after a m (after m e s) ≡ after a e s
  swapped a m e s h k g o =
      fold_swap (count t) Q.next Ok F.stays F.swaps (part t.indices m e) (part t.indices a m) s o (all-below m e k g) (all-below a m h (omega arith))
      ∙ in_order a m e s h k g

  -- a leaf, point by point or taken whole
  leaf-ends : (v a e : ℕ) (s : S) → e ≤ count t → Boxed t (bounds t.boxes v) a e → Ends (after a e s) (leaf_scan (count t) Q (bounds t.boxes v) s (part t.indices a e))
  leaf-ends v a e s k b = go (Q.whole (bounds t.boxes v)) refl
    where
      l : List ℕ
      l = part t.indices a e

      low : Each (λ i. i < count t) l
      low = all-below a e (omega (arith, b.some)) k

      same : Q.whole (bounds t.boxes v) ≡ true → foldl Q.add s l ≡ after a e s
      same p = fold_same Q.add Q.next l s
          (part-all (λ i. (z : S) → Q.add z i ≡ Q.next z i) t.indices a e (omega (arith, b.some)) (omega arith)
          (λ j g m z. F.takes z (bounds t.boxes v) (get_or t.indices j 0) (below j (omega arith)) b.closed (b.holds j g m) p))

      go : (z : Bool) → Q.whole (bounds t.boxes v) ≡ z → Ends (after a e s) (cond z (scan (count t) Q.add 0 s l) (scan (count t) Q.next 1 s l))
      go true p = subst (λ (z : S). Ends z (scan (count t) Q.add 0 s l)) (same p) (scan-ends (count t) Q.add 0 l s low)
      go false p = scan-ends (count t) Q.next 1 l s low

  -- a walk of the part from a to e, from any state that is in order
  abbrev Right : (S → Walk S) → ℕ → ℕ → Type 0
  Right w a e = (s : S) → Ok s → Ends (after a e s) (w s)

  both : (wl wr : S → Walk S) (a m e : ℕ) (s : S) → a ≤ m → m ≤ e → e ≤ count t → Ok s → Right wl a m → Right wr m e
      → (z : Bool) → Ends (after a e s) (cond z (and_then (wl s) wr) (and_then (wr s) wl))
  both wl wr a m e s h k g o L R true =
      ends-then (after a e s) (after a m s) (wl s) wr (L s o)
      (subst (λ (z : S). Ends z (wr (after a m s))) (in_order a m e s h k g) (R (after a m s) (after_ok a m s h (omega arith) o)))
  both wl wr a m e s h k g o L R false =
      ends-then (after a e s) (after m e s) (wr s) wl (R s o)
      (subst (λ (z : S). Ends z (wl (after m e s))) (swapped a m e s h k g o) (L (after m e s) (after_ok m e s k g o)))

  unless : (v a e : ℕ) (s : S) (w : Walk S) → e ≤ count t → Ok s → Boxed t (bounds t.boxes v) a e → Ends (after a e s) w
      → Ends (after a e s) (cond (Q.skip s (bounds t.boxes v)) (done s 1 0) (more 1 0 w))
  unless v a e s w k o b h = go (Q.skip s (bounds t.boxes v)) refl
    where
      go : (z : Bool) → Q.skip s (bounds t.boxes v) ≡ z → Ends (after a e s) (cond z (done s 1 0) (more 1 0 w))
      go true p = passed v a e s k o b p
      go false p = ends_more (after a e s) 1 0 w h

  pub walk_ends : (depth v a e : ℕ) → e - a ≤ depth → e ≤ count t → Sound t v a e → Right (walk t Q depth v a e) a e
  unfolding walk
  walk_ends zero v a e d k h s o = absurd (no_room a e d (sound-some h))
    where
      no_room : (a e : ℕ) → e - a ≤ 0 → a < e → ⊥
      no_room a e d h = omega arith
  walk_ends (suc f) v a e d k (leaf b q) s o =
      rw q (unless v a e s (leaf_scan (count t) Q (bounds t.boxes v) s (part t.indices a e)) k o b (leaf-ends v a e s k b))
  walk_ends (suc f) v a e d k (branch l r b q L R) s o =
      let h = sound-some L in
      let g = sound-some R in
      rw q (unless v a e s
      (cond (Q.left_first (bounds t.boxes l) (bounds t.boxes r))
      (and_then (walk t Q f l a (mid a e) s) (walk t Q f r (mid a e) e))
      (and_then (walk t Q f r (mid a e) e s) (walk t Q f l a (mid a e)))) k o b
      (both (walk t Q f l a (mid a e)) (walk t Q f r (mid a e) e) a (mid a e) e s (omega arith) (omega arith) k o
      (walk_ends f l a (mid a e) (omega arith) (omega arith) L)
      (walk_ends f r (mid a e) e (omega arith) k R)
      (Q.left_first (bounds t.boxes l) (bounds t.boxes r))))

-- from the root: the state of the plain scan
pub walk-is-plain : {S : Type 0} (t : Tree) (Q : Search S) (Ok : S → Type 0) → Fair t Q Ok → Grown t → (s : S) → Ok s → Ends (plain Q.next s (count t)) (walk_all t Q s)
walk-is-plain t Q Ok F G s o =
    rw (le-ltb (length t.indices) (count t) G.room)
    (subst (λ z. Ends z (walk t Q (count t) 0 0 (count t) s))
    (ap (λ (l : List ℕ). foldl Q.next s l) (part-is t.indices 0 (count t) (omega arith) G.room ∙ ap (λ (c : ℕ). take c t.indices) (sub-zero (count t)))
    ∙ fold_all (count t) Q.next Ok F.stays F.swaps (count t) (take (count t) t.indices) s o (omega arith)
    (take_all_of (λ i. i < count t) t.indices (count t) 0 (omega (arith, G.room)) (λ k g m. G.below k (omega arith)))
    G.once)
    (walk_ends t Q Ok F G.room G.below (count t) 0 0 (count t) (omega arith) (omega arith) G.root s o))
