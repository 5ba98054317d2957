-- Two queries whose states go hand in hand walk alike, over any tree: how a code's own state (a heap, a list in the order of the walk) is tied to the definition's. Assumes nothing.
use mathlib.Core.Path.{◌≡◌, refl, sym, subst}
use mathlib.Core.List.{List, [], ◌∷◌}
use mathlib.Core.Bool.{Bool, true, false, cond}
use Prim.Native.Nat.{ℕ, zero, suc, ◌<◌}
use lib.Dec.{ltb}
use borrow.Author.Tests.{ltb-true}
use Rattle.tree.specs.Node.{bounds, kind, mid, part}
use Rattle.tree.specs.Accepted.{Tree, count}
use Rattle.search.specs.Walk.{Search, Walk, damage, done, more, and_then, scan, leaf_scan, visit, walk}
use Rattle.distance.specs.declared.Bounds.{Bounds}
use Rattle.tree.specs.declared.Kind.{Kind}
use Rattle.tree.specs.declared.Kind.TheVariants.{Leaf, Branch, Damaged}

pub record Like {S Z : Type 0} (n : ℕ) (Q : Search S) (R : Search Z) (Rel : S → Z → Type 0) : Type 0 where
  pub same_skip : (s : S) (z : Z) (b : Bounds) → Rel s z → Q.skip s b ≡ R.skip z b
  pub same_first : (l r : Bounds) → Q.left_first l r ≡ R.left_first l r
  pub both_next : (s : S) (z : Z) (i : ℕ) → Rel s z → i < n → Rel (Q.next s i) (R.next z i)
  pub same_whole : (b : Bounds) → Q.whole b ≡ R.whole b
  pub both_add : (s : S) (z : Z) (i : ℕ) → Rel s z → i < n → Rel (Q.add s i) (R.add z i)

module _ {S Z : Type 0} (Rel : S → Z → Type 0) where
  abbrev pub Alike : Walk S → Walk Z → Type 0
  Alike damage damage = Unit
  Alike damage (done z n d) = ⊥
  Alike (done s n d) damage = ⊥
  Alike (done s n d) (done z m f) = Rel s z

  more_alike : (a b : ℕ) (w : Walk S) (u : Walk Z) → Alike w u → Alike (more a b w) (more a b u)
  more_alike a b damage damage h = tt
  more_alike a b (done s n d) (done z m f) h = h
  more_alike a b damage (done z m f) h = elim h [ ]
  more_alike a b (done s n d) damage h = elim h [ ]

  then_alike : (w : Walk S) (u : Walk Z) (f : S → Walk S) (g : Z → Walk Z) → Alike w u → ((s : S) (z : Z) → Rel s z → Alike (f s) (g z)) → Alike (and_then w f) (and_then u g)
  then_alike damage damage f g h k = tt
  then_alike (done s n d) (done z m e) f g h k = weak n d m e (f s) (g z) (k s z h)
    where
      weak : (n d m e : ℕ) (w : Walk S) (u : Walk Z) → Alike w u → Alike (more n d w) (more m e u)
      weak n d m e damage damage h = tt
      weak n d m e (done s a b) (done z c f) h = h
      weak n d m e damage (done z c f) h = elim h [ ]
      weak n d m e (done s a b) damage h = elim h [ ]
  then_alike damage (done z m e) f g h k = elim h [ ]
  then_alike (done s n d) damage f g h k = elim h [ ]

  module _ (t : Tree) (Q : Search S) (R : Search Z) (L : Like (count t) Q R Rel) where
    scan_alike : (f : S → ℕ → S) (g : Z → ℕ → Z) (c : ℕ) → ((s : S) (z : Z) (i : ℕ) → Rel s z → i < count t → Rel (f s i) (g z i))
        → (l : List ℕ) (s : S) (z : Z) → Rel s z → Alike (scan (count t) f c s l) (scan (count t) g c z l)
    scan_alike f g c F [] s z h = h
    scan_alike f g c F (i ∷ is) s z h = go (ltb i (count t)) refl (λ o. scan_alike f g c F is (f s i) (g z i) (F s z i h o))
      where
        go : (b : Bool) → ltb i (count t) ≡ b → (i < count t → Alike (scan (count t) f c (f s i) is) (scan (count t) g c (g z i) is))
            → Alike (cond b (more 0 c (scan (count t) f c (f s i) is)) damage) (cond b (more 0 c (scan (count t) g c (g z i) is)) damage)
        go true e k = more_alike 0 c (scan (count t) f c (f s i) is) (scan (count t) g c (g z i) is) (k (ltb-true i (count t) e))
        go false e k = tt

    leaf_alike : (b : Bounds) (l : List ℕ) (s : S) (z : Z) → Rel s z → Alike (leaf_scan (count t) Q b s l) (leaf_scan (count t) R b z l)
    leaf_alike b l s z h = go (Q.whole b) (R.whole b) (L.same_whole b)
      where
        go : (p q : Bool) → p ≡ q → Alike (cond p (scan (count t) Q.add 0 s l) (scan (count t) Q.next 1 s l)) (cond q (scan (count t) R.add 0 z l) (scan (count t) R.next 1 z l))
        go true true e = scan_alike Q.add R.add 0 L.both_add l s z h
        go true false e = absurd (subst lib.Dec.T e tt)
        go false true e = absurd (subst lib.Dec.T (sym e) tt)
        go false false e = scan_alike Q.next R.next 1 L.both_next l s z h

    unless_alike : (b c : Bool) (s : S) (z : Z) (w : Walk S) (u : Walk Z) → b ≡ c → Rel s z → Alike w u → Alike (cond b (done s 1 0) (more 1 0 w)) (cond c (done z 1 0) (more 1 0 u))
    unless_alike true true s z w u e h k = h
    unless_alike true false s z w u e h k = absurd (subst lib.Dec.T e tt)
    unless_alike false true s z w u e h k = absurd (subst lib.Dec.T (sym e) tt)
    unless_alike false false s z w u e h k = more_alike 1 0 w u k

    visit_alike : (go : ℕ → ℕ → ℕ → S → Walk S) (og : ℕ → ℕ → ℕ → Z → Walk Z) → ((v a e : ℕ) (s : S) (z : Z) → Rel s z → Alike (go v a e s) (og v a e z))
        → (k : Kind) (v a e : ℕ) (s : S) (z : Z) → Rel s z → Alike (visit t Q go k v a e s) (visit t R og k v a e z)
    visit_alike go og h Damaged v a e s z r = tt
    visit_alike go og h Leaf v a e s z r =
        unless_alike (Q.skip s (bounds t.boxes v)) (R.skip z (bounds t.boxes v)) s z (leaf_scan (count t) Q (bounds t.boxes v) s (part t.indices a e)) (leaf_scan (count t) R (bounds t.boxes v) z (part t.indices a e))
        (L.same_skip s z (bounds t.boxes v) r) r (leaf_alike (bounds t.boxes v) (part t.indices a e) s z r)
    visit_alike go og h (Branch i j) v a e s z r =
        unless_alike (Q.skip s (bounds t.boxes v)) (R.skip z (bounds t.boxes v)) s z (two Q go (Q.left_first (bounds t.boxes i) (bounds t.boxes j)) s) (two R og (R.left_first (bounds t.boxes i) (bounds t.boxes j)) z)
        (L.same_skip s z (bounds t.boxes v) r) r
        (subst (λ (b : Bool). Alike (two Q go (Q.left_first (bounds t.boxes i) (bounds t.boxes j)) s) (two R og b z)) (L.same_first (bounds t.boxes i) (bounds t.boxes j)) (pick (Q.left_first (bounds t.boxes i) (bounds t.boxes j))))
      where
        two : {Y : Type 0} → Search Y → (ℕ → ℕ → ℕ → Y → Walk Y) → Bool → Y → Walk Y
        two Q go b s = cond b (and_then (go i a (mid a e) s) (go j (mid a e) e)) (and_then (go j (mid a e) e s) (go i a (mid a e)))

        pick : (b : Bool) → Alike (two Q go b s) (two R og b z)
        pick true = then_alike (go i a (mid a e) s) (og i a (mid a e) z) (go j (mid a e) e) (og j (mid a e) e) (h i a (mid a e) s z r) (h j (mid a e) e)
        pick false = then_alike (go j (mid a e) e s) (og j (mid a e) e z) (go i a (mid a e)) (og i a (mid a e)) (h j (mid a e) e s z r) (h i a (mid a e))

    pub walk_alike : (depth v a e : ℕ) (s : S) (z : Z) → Rel s z → Alike (walk t Q depth v a e s) (walk t R depth v a e z)
    unfolding walk
    walk_alike zero v a e s z r = tt
    walk_alike (suc f) v a e s z r = visit_alike (walk t Q f) (walk t R f) (walk_alike f) (kind t.boxes t.links v a e) v a e s z r
