-- What the check finds at a node, way by way: nothing where the node is damaged or a half is; else the tight box where the node's box
-- holds it. By the two forms of a sound node. Assumes nothing.
use mathlib.Core.Path.{◌≡◌, refl, subst}
use mathlib.Core.Bool.{Bool, true, false, cond}
use Prim.Native.Nat.{ℕ, ◌≤◌}
use native.Mathlib.Omega.{arith}
use lib.Dec.{T}
use Rattle.std.specs.Prelude.{◌↔◌, Option, Some, None, IsSome, IfSome}
use Rattle.tree.specs.Node.{bounds, kind, mid}
use Rattle.tree.specs.Accepted.{Tree, count, Boxed, Sound, leaf, branch}
use Rattle.tree.specs.Lent.{node, kind_of}
use Rattle.tree.specs.declared.Kind.{Kind}
use Rattle.tree.specs.declared.Kind.TheVariants.{Leaf, Branch, Damaged}
use Rattle.tree.specs.declared.Node.{Node}
use Rattle.accept.specs.declared.extent.Extent.{Extent}
use Rattle.accept.specs.Inner.{joined, fits, inside, Tight, Ready}
use Rattle.accept.proofs.Extents.{of_true, tight_join, fits_boxed, boxed_fits}

-- both clauses of what is found at a node
pub record Found (t : Tree) (n : Node) (r : Option Extent) : Type 0 where
  pub sound : IsSome r ↔ Sound t n.number n.start n.end
  pub tight : IfSome r (Tight t n.start n.end)

module _ (t : Tree) (v a e : ℕ) where
  boxed : Sound t v a e → Boxed t (bounds t.boxes v) a e
  boxed (leaf b q) = b
  boxed (branch l r b q L R) = b

  no_damage : kind t.boxes t.links v a e ≡ Damaged → Sound t v a e → ⊥
  no_damage k (leaf b q) = absurd cc
  no_damage k (branch l r b q L R) = absurd cc

  halves : (l r : ℕ) → kind t.boxes t.links v a e ≡ Branch l r → Sound t v a e → Sound t l a (mid a e) × Sound t r (mid a e) e
  halves l r k (leaf b q) = absurd cc
  halves l r k (branch l' r' b q L R) =
      let p : l' ≡ l = cc in
      let w : r' ≡ r = cc in
      (subst (λ (z : ℕ). Sound t z a (mid a e)) p L, subst (λ (z : ℕ). Sound t z (mid a e) e) w R)

module _ (t : Tree) (n : Node) where
  found_none : (Sound t n.number n.start n.end → ⊥) → Found t n None
  found_none f = record { sound = (λ h. absurd cc, λ s. absurd (f s)); tight = tt }

  found-inside : (s : Extent) → Tight t n.start n.end s → (Boxed t (bounds t.boxes n.number) n.start n.end → Sound t n.number n.start n.end) → Found t n (inside (bounds t.boxes n.number) s)
  found-inside s S f = go (fits (bounds t.boxes n.number) s) refl
    where
      go : (z : Bool) → fits (bounds t.boxes n.number) s ≡ z → Found t n (cond z (Some s) None)
      go true h = record { sound = (λ _. f (fits_boxed t (bounds t.boxes n.number) n.start n.end s S (of_true _ h)), λ _. refl); tight = S }
      go false h = found_none (λ N. subst T h (boxed_fits t (bounds t.boxes n.number) n.start n.end s S (boxed t n.number n.start n.end N)))

  pub found-damaged : kind_of t n ≡ Damaged → Found t n None
  found-damaged k = found_none (no_damage t n.number n.start n.end k)

  pub found-leaf : kind_of t n ≡ Leaf → (s : Extent) → Tight t n.start n.end s → Found t n (inside (bounds t.boxes n.number) s)
  found-leaf k s S = found-inside s S (λ b. leaf b k)

  -- a branch, what is found at its halves p and q
  module _ (l r : ℕ) (k : kind_of t n ≡ Branch l r) (p q : Option Extent) where
    pub found-left : p ≡ None → Found t (node l n.start (mid n.start n.end)) p → Found t n None
    found-left e L = found_none (λ N. let h = L.sound.1 (halves t n.number n.start n.end l r k N).0 in absurd cc)

    pub found-right : q ≡ None → Found t (node r (mid n.start n.end) n.end) q → Found t n None
    found-right e R = found_none (λ N. let h = R.sound.1 (halves t n.number n.start n.end l r k N).1 in absurd cc)

    pub found-branch : Ready t → n.end ≤ count t → (s u : Extent) → p ≡ Some s → q ≡ Some u
        → Found t (node l n.start (mid n.start n.end)) p → Found t (node r (mid n.start n.end) n.end) q → Found t n (inside (bounds t.boxes n.number) (joined s u))
    found-branch O E s u d e L R =
        let M = rw d at L in
        let N = rw e at R in
        found-inside (joined s u) (tight_join t O n.start (mid n.start n.end) n.end s u (omega (arith, N.tight.on_x.low.from, N.tight.on_x.low.to)) E M.tight N.tight) (λ b. branch l r b k (M.sound.0 refl) (N.sound.0 refl))

-- a node that is no damage and no branch is a leaf
pub kind-leaf : (k : Kind) → (k ≡ Damaged → ⊥) → ((x y : ℕ) → k ≡ Branch x y → ⊥) → k ≡ Leaf
kind-leaf Leaf o u = refl
kind-leaf (Branch l r) o u = absurd (u l r refl)
kind-leaf Damaged o u = absurd (o refl)
