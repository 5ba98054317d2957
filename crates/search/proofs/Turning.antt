-- The walk at a node that is known to be sound, in the terms in which a function's proof meets it. A branch tests both children
-- before it visits either: a child that is damage breaks the walk whichever comes first, and what a turn hands to the two visits
-- is what the definition asks of them. By cases on which child comes first. Assumes nothing.
use mathlib.Core.Path.{◌≡◌, refl, sym, ap, ◌∙◌, subst}
use mathlib.Core.Bool.{Bool, true, false}
use mathlib.Core.List.{[], ◌∷◌}
use Prim.Native.Nat.{ℕ, zero, suc, ◌-◌, ◌<◌}
use native.Mathlib.Omega.{arith}
use mathlib.Core.Logic.{inl, inr}
use types.Run.{OneOf}
use denote.Enum.Declared.{tag_of}
use Rattle.tree.specs.contracts.Kind as K
use Rattle.tree.specs.Node.{bounds, kind, mid, part}
use Rattle.tree.specs.Inner.{sound, known}
use Rattle.tree.specs.Accepted.{Tree, count}
use Rattle.tree.specs.declared.Kind.{Kind}
use Rattle.tree.specs.declared.Kind.TheVariants.{Branch, Damaged}
use Rattle.tree.proofs.ChildNumbers.{branch-size}
use Rattle.tree.proofs.Sound.{tag_sound, sound-known}
use Rattle.tree.specs.declared.Node.{Node}
use Rattle.tree.specs.Lent.{kind_of}
use Rattle.search.specs.Turn.{in_turn, first, left_of, right_of, Turned, Shares, OneDamaged}
use Rattle.distance.specs.declared.Coord.{Coord}
use Rattle.distance.specs.Distance.{bound}
use Rattle.search.specs.Rules.{Rules, searching}
use Rattle.search.specs.declared.Turn.{Turn}
use Rattle.search.specs.Walk.{Search, Walk, damage, done, and_then, leaf_scan, Got, broken, got, outcome, walk, Walks}
use Rattle.search.proofs.Steps.{outcome-more, then-damaged, at-damaged, at-skip, at_leaf, at-branch, left-damaged, left-then, right-damaged, right-then}

-- a walk whose second part is damage from wherever the first ends
then_breaks : {S : Type 0} (w : Walk S) (f : S → Walk S) → ((x : S) → broken ≡ outcome (f x)) → outcome (and_then w f) ≡ broken
then_breaks damage f h = refl
then_breaks (done x n d) f h = outcome-more n d (f x) ∙ sym (h x)

-- ---- a sound node that is passed over, and a leaf
module _ {S : Type 0} (t : Tree) (Q : Search S) (v a e : ℕ) (s : S) (h : sound (kind t.boxes t.links v a e) ≡ true) (some : a < e) where
  pub sound-skip : Q.skip s (bounds t.boxes v) ≡ true → Walks t Q v a e s (got s)
  sound-skip = at-skip t Q v a e s (kind t.boxes t.links v a e) refl some (tag_sound (kind t.boxes t.links v a e) h)

  pub sound-leaf : (k : Kind) → k ≡ known t.links v → OneOf (0 ∷ 2 ∷ []) (tag_of K.the_type k) → Q.skip s (bounds t.boxes v) ≡ false
      → (r : Got S) → r ≡ outcome (leaf_scan (count t) Q (bounds t.boxes v) s (part t.indices a e)) → Walks t Q v a e s r
  sound-leaf k g =
      let is = g ∙ sym (sound-known t.boxes t.links v a e h) in
      at_leaf t Q v a e s k is some (tag_sound k (ap sound is ∙ h))

-- ---- a branch
module _ {S : Type 0} (t : Tree) (Q : Search S) (v a e : ℕ) (s : S) (l r : ℕ) (is : kind t.boxes t.links v a e ≡ Branch l r) (p : Q.skip s (bounds t.boxes v) ≡ false) where
  size : 1 < e - a
  size = branch-size t.boxes t.links v a e l r is

  pub left-broken : kind t.boxes t.links l a (mid a e) ≡ Damaged → Walks t Q v a e s broken
  left-broken g zero d = absurd (omega (arith, size))
  left-broken g (suc f) d = sym (go (Q.left_first (bounds t.boxes l) (bounds t.boxes r)) refl)
    where
      met : (x : S) → broken ≡ outcome (walk t Q f l a (mid a e) x)
      met x = at-damaged t Q l a (mid a e) x g f (omega (arith, size))

      go : (z : Bool) → Q.left_first (bounds t.boxes l) (bounds t.boxes r) ≡ z → outcome (walk t Q (suc f) v a e s) ≡ broken
      go true h = at-branch t Q v a e s l r is p true h f ∙ then-damaged (walk t Q f l a (mid a e) s) (walk t Q f r (mid a e) e) (met s)
      go false h = at-branch t Q v a e s l r is p false h f ∙ then_breaks (walk t Q f r (mid a e) e s) (walk t Q f l a (mid a e)) met

  pub right-broken : kind t.boxes t.links r (mid a e) e ≡ Damaged → Walks t Q v a e s broken
  right-broken g zero d = absurd (omega (arith, size))
  right-broken g (suc f) d = sym (go (Q.left_first (bounds t.boxes l) (bounds t.boxes r)) refl)
    where
      met : (x : S) → broken ≡ outcome (walk t Q f r (mid a e) e x)
      met x = at-damaged t Q r (mid a e) e x g f (omega (arith, size))

      go : (z : Bool) → Q.left_first (bounds t.boxes l) (bounds t.boxes r) ≡ z → outcome (walk t Q (suc f) v a e s) ≡ broken
      go true h = at-branch t Q v a e s l r is p true h f ∙ then_breaks (walk t Q f l a (mid a e) s) (walk t Q f r (mid a e) e) met
      go false h = at-branch t Q v a e s l r is p false h f ∙ then-damaged (walk t Q f r (mid a e) e s) (walk t Q f l a (mid a e)) (met s)

-- What the two visits ask for, of two children that are no damage: both have fewer entries than the branch and neither has none.
pub shares : (t : Tree) (q : Coord) (z : Bool) (n : Node) (l r : ℕ) (T : Turn) → kind_of t n ≡ Branch l r → Turned t q z n l r T → Shares t n T
shares t q z n l r T is b = subst (Shares t n) (sym b.turned) (go (first t q z l r))
  where
    h : 1 < n.end - n.start
    h = branch-size t.boxes t.links n.number n.start n.end l r is

    go : (w : Bool) → Shares t n (in_turn w (left_of n l) (right_of n r))
    go true = record {
      near_some = omega (arith, h);
      near_less = omega (arith, h);
      near_sound = b.left_sound;
      far_some = omega (arith, h);
      far_less = omega (arith, h);
      far_sound = b.right_sound;
      no_more = omega (arith, h);
    }
    go false = record {
      near_some = omega (arith, h);
      near_less = omega (arith, h);
      near_sound = b.right_sound;
      far_some = omega (arith, h);
      far_less = omega (arith, h);
      far_sound = b.left_sound;
      no_more = omega (arith, h);
    }

-- A branch that a walk goes into, and what the visits of its children come to.
module _ {S : Type 0} (t : Tree) (q : Coord) (R : Rules S) (n : Node) (s : S) (l r : ℕ) (is : kind_of t n ≡ Branch l r)
    (entered : R.skip s (bound q (bounds t.boxes n.number)) ≡ false) where
  abbrev Q : Search S
  Q = searching R t.points q

  -- the walk from node m
  abbrev pub Comes : Node → S → Got S → Type 0
  Comes m s g = Walks t Q m.number m.start m.end s g

  pub child-broken : OneDamaged t n l r → Comes n s broken
  child-broken o = elim o [
    | inl h ↦ left-broken t Q n.number n.start n.end s l r is entered h
    | inr h ↦ right-broken t Q n.number n.start n.end s l r is entered h
  ]

  module _ (T : Turn) (b : Turned t q R.nearer_first n l r T) where
    abbrev z : Bool
    z = first t q R.nearer_first l r

    at_turn : (x : S) (g : Got S) → Comes T.near x g → Comes (in_turn z (left_of n l) (right_of n r)).near x g
    at_turn x g W = subst (λ (T : Turn). Comes T.near x g) b.turned W

    far_turn : (x : S) (g : Got S) → Comes T.far x g → Comes (in_turn z (left_of n l) (right_of n r)).far x g
    far_turn x g W = subst (λ (T : Turn). Comes T.far x g) b.turned W

    pub near-broken : Comes T.near s broken → Comes n s broken
    near-broken W = go z refl (at_turn s broken W)
      where
        go : (w : Bool) → z ≡ w → Comes (in_turn w (left_of n l) (right_of n r)).near s broken → Comes n s broken
        go true h W = left-damaged t Q n.number n.start n.end s l r is entered h broken W refl
        go false h W = right-damaged t Q n.number n.start n.end s l r is entered h broken W refl

    pub near-then : (s' : S) → Comes T.near s (got s') → (y : Got S) → Comes T.far s' y → Comes n s y
    near-then s' W y U = go z refl (at_turn s (got s') W) (far_turn s' y U)
      where
        go : (w : Bool) → z ≡ w → Comes (in_turn w (left_of n l) (right_of n r)).near s (got s') → Comes (in_turn w (left_of n l) (right_of n r)).far s' y → Comes n s y
        go true h W U = left-then t Q n.number n.start n.end s l r is entered h (got s') W s' refl y U
        go false h W U = right-then t Q n.number n.start n.end s l r is entered h (got s') W s' refl y U
