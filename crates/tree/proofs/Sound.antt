-- A node that is no damage: it is a leaf or a branch, it lies whole in both lists, and its children alone tell which. By cases
-- on the tests of `kind`. Assumes nothing.
use mathlib.Core.Path.{◌≡◌, refl}
use mathlib.Core.Logic.{inl, inr}
use mathlib.Core.List.{List, [], ◌∷◌}
use mathlib.Core.Bool.{Bool, true, false, ◌&&◌, cond}
use Prim.Native.Nat.{ℕ, zero, suc, ◌+◌, ◌-◌, ◌*◌, ◌≤◌}
use native.Mathlib.Omega.{arith}
use lib.Dec.{leb, ltb, eqb}
use lib.ListN.{length, get_or}
use lib.Ieee.{Float}
use borrow.Author.Tests.{leb-true, ne_eqb}
use types.Run.{OneOf}
use denote.Enum.Declared.{tag_of}
use Rattle.tree.specs.contracts.Kind as K
use Rattle.tree.specs.Node.{children, covers, kind}
use Rattle.tree.specs.Inner.{sound, known}
use Rattle.tree.specs.declared.Kind.{Kind}
use Rattle.tree.specs.declared.Kind.TheVariants.{Leaf, Branch, Damaged}

pub tag_sound : (k : Kind) → sound k ≡ true → OneOf (0 ∷ 1 ∷ []) (tag_of K.the_type k)
tag_sound Leaf h = inl refl
tag_sound (Branch l r) h = inr refl
tag_sound Damaged h = let z : ◌≡◌ {A = ℕ} 0 1 = cc in absurd (omega arith)

pub unbranched : (k : Kind) → ((x y : ℕ) → k ≡ Branch x y → ⊥) → OneOf (0 ∷ 2 ∷ []) (tag_of K.the_type k)
unbranched Leaf h = inl refl
unbranched (Branch l r) h = absurd (h l r refl)
unbranched Damaged h = inr refl

pub unsound : (k : Kind) → sound k ≡ false → k ≡ Damaged
unsound Leaf h = let z : ◌≡◌ {A = ℕ} 0 1 = cc in absurd (omega arith)
unsound (Branch l r) h = let z : ◌≡◌ {A = ℕ} 0 1 = cc in absurd (omega arith)
unsound Damaged h = refl

both_true : (a b : Bool) → a && b ≡ true → (a ≡ true) × (b ≡ true)
both_true true true h = (refl, refl)
both_true true false h = (refl, h)
both_true false b h = (h, absurd (let z : ◌≡◌ {A = Bool} false true = h in let w : ◌≡◌ {A = ℕ} 0 1 = cc in omega arith))

-- what the child numbers l and r of a sound node over c entries make it
children-known : (c l r : ℕ) → sound (children c l r) ≡ true → children c l r ≡ cond (eqb l 0) Leaf (Branch l r)
children-known c zero zero h = refl
children-known c zero (suc r) h = let z : ◌≡◌ {A = ℕ} 0 1 = cc in absurd (omega arith)
children-known c (suc l) zero h = let z : ◌≡◌ {A = ℕ} 0 1 = cc in absurd (omega arith)
children-known c (suc l) (suc r) h = two (ltb 1 c) h
  where
    two : (b : Bool) → sound (cond b (Branch (suc l) (suc r)) Damaged) ≡ true → cond b (Branch (suc l) (suc r)) Damaged ≡ cond (eqb (suc l) 0) Leaf (Branch (suc l) (suc r))
    two true k = rw (ne_eqb (suc l) 0 (λ (z : suc l ≡ 0). omega arith))
    two false k = let z : ◌≡◌ {A = ℕ} 0 1 = cc in absurd (omega arith)

module _ (boxes : List Float) (links : List ℕ) (v a e : ℕ) (h : sound (kind boxes links v a e) ≡ true) where
  covered : (covers boxes links v a e ≡ true) × (kind boxes links v a e ≡ known links v)
  covered = go (covers boxes links v a e) h
    where
      go : (b : Bool) → sound (cond b (children (e - a) (get_or links (v * 4 + 2) 0) (get_or links (v * 4 + 3) 0)) Damaged) ≡ true
          → (b ≡ true) × (cond b (children (e - a) (get_or links (v * 4 + 2) 0) (get_or links (v * 4 + 3) 0)) Damaged ≡ known links v)
      go true k = (refl, children-known (e - a) (get_or links (v * 4 + 2) 0) (get_or links (v * 4 + 3) 0) k)
      go false k = let z : ◌≡◌ {A = ℕ} 0 1 = cc in absurd (omega arith)

  pub sound-known : kind boxes links v a e ≡ known links v
  sound-known = covered.1

  whole : (leb (v * 6 + 6) (length boxes) ≡ true) × (leb (v * 4 + 4) (length links) ≡ true)
  whole = both_true _ _ (both_true _ _ (both_true _ _ covered.0).0).0

  pub sound-boxes : v * 6 + 6 ≤ length boxes
  sound-boxes = leb-true (v * 6 + 6) (length boxes) whole.0

  pub sound-links : v * 4 + 4 ≤ length links
  sound-links = leb-true (v * 4 + 4) (length links) whole.1
