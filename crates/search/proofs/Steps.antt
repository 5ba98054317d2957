-- The walk at a node and at a leaf's points, way by way, in the terms in which a function's proof meets them: what a walk's
-- code has found out so far, put together, is what the definition comes to at every depth that is enough. Assumes nothing.
use mathlib.Core.Path.{◌≡◌, refl, sym, ap, ◌∙◌, subst}
use mathlib.Core.Logic.{inl, inr}
use mathlib.Core.List.{List, [], ◌∷◌}
use mathlib.Core.Bool.{Bool, true, false, cond}
use Prim.Native.Nat.{ℕ, zero, suc, ◌+◌, ◌-◌, ◌≤◌, ◌<◌}
use native.Mathlib.Numerals.{add-one}
use native.Mathlib.Omega.{arith}
use lib.ListN.{length, get_or, drop, drop_of_length-le}
use lib.Seq.{drop-cons}
use borrow.Author.Tests.{lt-ltb, le-ltb}
use types.Run.{OneOf}
use denote.Enum.Declared.{tag_of}
use Rattle.tree.specs.contracts.Kind as K
use Rattle.tree.specs.Node.{bounds, kind, mid, part}
use Rattle.tree.specs.Accepted.{Tree, count}
use Rattle.tree.specs.declared.Kind.{Kind}
use Rattle.tree.specs.declared.Kind.TheVariants.{Leaf, Branch, Damaged}
use Rattle.search.specs.Walk.{Search, Walk, damage, done, more, and_then, scan, leaf_scan, visit, Got, broken, got, outcome, walk, walk_all, Walks}
use Rattle.tree.proofs.ChildNumbers.{branch-size}

pub outcome-more : {S : Type 0} (a b : ℕ) (w : Walk S) → outcome (more a b w) ≡ outcome w
outcome-more a b damage = refl
outcome-more a b (done s n d) = refl

-- ---- one walk, and another
then_found : {S : Type 0} (w : Walk S) (f : S → Walk S) (s : S) → got s ≡ outcome w → outcome (and_then w f) ≡ outcome (f s)
then_found {S} damage f s h = let z : ◌≡◌ {A = ℕ} 0 1 = cc in absurd (omega arith)
then_found {S} (done s' n d) f s h = let e : s' ≡ s = cc in outcome-more n d (f s') ∙ ap (λ (z : S). outcome (f z)) e

pub then-damaged : {S : Type 0} (w : Walk S) (f : S → Walk S) → broken ≡ outcome w → outcome (and_then w f) ≡ broken
then-damaged damage f h = refl
then-damaged (done s n d) f h = let z : ◌≡◌ {A = ℕ} 0 1 = cc in absurd (omega arith)

-- ---- a node
module _ {S : Type 0} (t : Tree) (Q : Search S) (v a e : ℕ) (s : S) where
  pub at-damaged : kind t.boxes t.links v a e ≡ Damaged → Walks t Q v a e s broken
  unfolding walk
  at-damaged h zero d = refl
  at-damaged h (suc f) d = subst (λ (k : Kind). broken ≡ outcome (visit t Q (walk t Q f) k v a e s)) (sym h) refl

  module _ (k : Kind) (is : k ≡ kind t.boxes t.links v a e) (some : a < e) where
    pub at-skip : OneOf (0 ∷ 1 ∷ []) (tag_of K.the_type k) → Q.skip s (bounds t.boxes v) ≡ true → Walks t Q v a e s (got s)
    unfolding walk
    at-skip o p zero d = absurd (omega arith)
    at-skip o p (suc f) d = subst (λ (k : Kind). got s ≡ outcome (visit t Q (walk t Q f) k v a e s)) is (go k o)
      where
        go : (k : Kind) → OneOf (0 ∷ 1 ∷ []) (tag_of K.the_type k) → got s ≡ outcome (visit t Q (walk t Q f) k v a e s)
        go Leaf o = rw p
        go (Branch l r) o = rw p
        go Damaged o = absurd (elim o [ inl h ↦ omega arith | inr h ↦ omega arith ])

    pub at_leaf : OneOf (0 ∷ 1 ∷ []) (tag_of K.the_type k) → OneOf (0 ∷ 2 ∷ []) (tag_of K.the_type k) → Q.skip s (bounds t.boxes v) ≡ false
        → (r : Got S) → r ≡ outcome (leaf_scan (count t) Q (bounds t.boxes v) s (part t.indices a e)) → Walks t Q v a e s r
    unfolding walk
    at_leaf o u p r h zero d = absurd (omega arith)
    at_leaf o u p r h (suc f) d = subst (λ (k : Kind). r ≡ outcome (visit t Q (walk t Q f) k v a e s)) is (go k o u)
      where
        go : (k : Kind) → OneOf (0 ∷ 1 ∷ []) (tag_of K.the_type k) → OneOf (0 ∷ 2 ∷ []) (tag_of K.the_type k) → r ≡ outcome (visit t Q (walk t Q f) k v a e s)
        go Leaf o u = rw p (h ∙ sym (outcome-more 1 0 (leaf_scan (count t) Q (bounds t.boxes v) s (part t.indices a e))))
        go (Branch l r) o u = absurd (elim u [ inl h ↦ omega arith | inr h ↦ omega arith ])
        go Damaged o u = absurd (elim o [ inl h ↦ omega arith | inr h ↦ omega arith ])

  -- a branch whose box is not passed over, and the child that is visited first
  module _ (l r : ℕ) (is : kind t.boxes t.links v a e ≡ Branch l r) (p : Q.skip s (bounds t.boxes v) ≡ false) where
    pub at-branch : (z : Bool) → Q.left_first (bounds t.boxes l) (bounds t.boxes r) ≡ z → (f : ℕ)
        → outcome (walk t Q (suc f) v a e s)
        ≡ outcome (cond z
        (and_then (walk t Q f l a (mid a e) s) (walk t Q f r (mid a e) e))
        (and_then (walk t Q f r (mid a e) e s) (walk t Q f l a (mid a e))))
    unfolding walk
    at-branch z h f =
        let w = walk t Q f in
        let x : Bool → Walk S = λ z. cond z (and_then (w l a (mid a e) s) (w r (mid a e) e)) (and_then (w r (mid a e) e s) (w l a (mid a e))) in
        subst (λ (k : Kind). outcome (visit t Q w k v a e s) ≡ outcome (x z)) (sym is)
        (rw p (outcome-more 1 0 (x (Q.left_first (bounds t.boxes l) (bounds t.boxes r))) ∙ ap (λ (z : Bool). outcome (x z)) h))

    size : 1 < e - a
    size = branch-size t.boxes t.links v a e l r is

    module _ (h : Q.left_first (bounds t.boxes l) (bounds t.boxes r) ≡ true) (x : Got S) (W : Walks t Q l a (mid a e) s x) where
      pub left-damaged : x ≡ broken → Walks t Q v a e s broken
      unfolding walk
      left-damaged g zero d = refl
      left-damaged g (suc f) d =
          sym (at-branch true h f ∙ then-damaged (walk t Q f l a (mid a e) s) (walk t Q f r (mid a e) e) (sym g ∙ W f (omega (arith, size))))

      pub left-then : (s' : S) → x ≡ got s' → (y : Got S) → Walks t Q r (mid a e) e s' y → Walks t Q v a e s y
      left-then s' g y U zero d = absurd (omega (arith, size))
      left-then s' g y U (suc f) d =
          U f (omega (arith, size))
          ∙ sym (at-branch true h f ∙ then_found (walk t Q f l a (mid a e) s) (walk t Q f r (mid a e) e) s' (sym g ∙ W f (omega (arith, size))))

    module _ (h : Q.left_first (bounds t.boxes l) (bounds t.boxes r) ≡ false) (x : Got S) (W : Walks t Q r (mid a e) e s x) where
      pub right-damaged : x ≡ broken → Walks t Q v a e s broken
      unfolding walk
      right-damaged g zero d = refl
      right-damaged g (suc f) d =
          sym (at-branch false h f ∙ then-damaged (walk t Q f r (mid a e) e s) (walk t Q f l a (mid a e)) (sym g ∙ W f (omega (arith, size))))

      pub right-then : (s' : S) → x ≡ got s' → (y : Got S) → Walks t Q l a (mid a e) s' y → Walks t Q v a e s y
      right-then s' g y U zero d = absurd (omega (arith, size))
      right-then s' g y U (suc f) d =
          U f (omega (arith, size))
          ∙ sym (at-branch false h f ∙ then_found (walk t Q f r (mid a e) e s) (walk t Q f l a (mid a e)) s' (sym g ∙ W f (omega (arith, size))))

-- ---- from node 0
module _ {S : Type 0} (t : Tree) (Q : Search S) (s : S) where
  pub from-root : (g : Got S) → count t ≤ length t.indices → Walks t Q 0 0 (count t) s g → g ≡ outcome (walk_all t Q s)
  from-root g h W = rw (le-ltb (length t.indices) (count t) h) (W (count t) (omega arith))
