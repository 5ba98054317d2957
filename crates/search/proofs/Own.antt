-- What a walk keeps over any tree at all, accepted or not: if the first point, and every later one, leaves P of the state, and
-- nothing is passed over before the first, then a walk that meets no damage ends in P. By induction on the depth. Assumes nothing.
use mathlib.Core.Path.{◌≡◌, refl}
use mathlib.Core.Logic.{◌⊎◌, inl, inr}
use mathlib.Core.List.{List, [], ◌∷◌}
use mathlib.Core.Bool.{Bool, true, false, cond}
use Prim.Native.Nat.{ℕ, zero, suc, ◌-◌, ◌≤◌, ◌<◌}
use native.Mathlib.Omega.{arith}
use lib.Dec.{ltb}
use lib.ListN.{length, length-take, length-drop}
use borrow.Author.Tests.{ltb-true}
use Rattle.tree.specs.Node.{bounds, kind, mid, part}
use Rattle.tree.specs.Accepted.{Tree, count}
use Rattle.tree.proofs.ChildNumbers.{branch-size}
use Rattle.search.specs.Walk.{Search, Walk, damage, done, more, and_then, scan, leaf_scan, visit, walk}
use Rattle.search.proofs.Whole.{part-is}
use Rattle.distance.specs.declared.Bounds.{Bounds}
use Rattle.tree.specs.declared.Kind.{Kind}
use Rattle.tree.specs.declared.Kind.TheVariants.{Leaf, Branch, Damaged}

-- ---- what holds after a point, and is kept
abbrev pub After : {S : Type 0} → (S → Type 0) → Walk S → Type 0
After P damage = Unit
After P (done s n d) = P s

module _ {S : Type 0} (P : S → Type 0) where
  after_more : (a b : ℕ) (w : Walk S) → After P w → After P (more a b w)
  after_more a b damage h = tt
  after_more a b (done s n d) h = h

  after_then : (w : Walk S) (f : S → Walk S) → After P w → ((s : S) → P s → After P (f s)) → After P (and_then w f)
  after_then damage f h k = tt
  after_then (done s n d) f h k = after_more n d (f s) (k s h)

-- Fresh: no point yet, and no box is passed over. P: after one
module _ {S : Type 0} (t : Tree) (Q : Search S) (Fresh P : S → Type 0)
    (by_next : (s : S) (i : ℕ) → Fresh s ⊎ P s → i < count t → P (Q.next s i)) (by-add : (s : S) (i : ℕ) → Fresh s ⊎ P s → i < count t → P (Q.add s i))
    (opens : (s : S) (b : Bounds) → Fresh s → Q.skip s b ≡ true → ⊥) (room : count t ≤ length t.indices) where
  module _ (f : S → ℕ → S) (c : ℕ) (F : (s : S) (i : ℕ) → Fresh s ⊎ P s → i < count t → P (f s i)) where
    scan-after : (l : List ℕ) (s : S) → P s → After P (scan (count t) f c s l)
    scan-after [] s h = h
    scan-after (i ∷ is) s h = go (ltb i (count t)) refl (λ o. scan-after is (f s i) (F s i (inr h) o))
      where
        go : (b : Bool) → ltb i (count t) ≡ b → (i < count t → After P (scan (count t) f c (f s i) is)) → After P (cond b (more 0 c (scan (count t) f c (f s i) is)) damage)
        go true e k = after_more P 0 c (scan (count t) f c (f s i) is) (k (ltb-true i (count t) e))
        go false e k = tt

    scan-some : (l : List ℕ) (s : S) → Fresh s ⊎ P s → 0 < length l → After P (scan (count t) f c s l)
    scan-some [] s h m = absurd (omega arith)
    scan-some (i ∷ is) s h m = go (ltb i (count t)) refl
      where
        go : (b : Bool) → ltb i (count t) ≡ b → After P (cond b (more 0 c (scan (count t) f c (f s i) is)) damage)
        go true e = after_more P 0 c (scan (count t) f c (f s i) is) (scan-after is (f s i) (F s i h (ltb-true i (count t) e)))
        go false e = tt

  leaf-some : (b : Bounds) (l : List ℕ) (s : S) → Fresh s ⊎ P s → 0 < length l → After P (leaf_scan (count t) Q b s l)
  leaf-some b l s h m = go (Q.whole b)
    where
      go : (z : Bool) → After P (cond z (scan (count t) Q.add 0 s l) (scan (count t) Q.next 1 s l))
      go true = scan-some Q.add 0 by-add l s h m
      go false = scan-some Q.next 1 by_next l s h m

  part-some : (a e : ℕ) → a < e → e ≤ count t → 0 < length (part t.indices a e)
  part-some a e h k = rw (part-is t.indices a e (omega arith) (omega arith)) (omega (arith, length-take (e - a) (lib.ListN.drop a t.indices), length-drop a t.indices))

  unless : (s : S) (b : Bounds) (w : Walk S) → Fresh s ⊎ P s → After P w → After P (cond (Q.skip s b) (done s 1 0) (more 1 0 w))
  unless s b w (inl h) k = go (Q.skip s b) refl
    where
      go : (z : Bool) → Q.skip s b ≡ z → After P (cond z (done s 1 0) (more 1 0 w))
      go true e = absurd (opens s b h e)
      go false e = after_more P 1 0 w k
  unless s b w (inr h) k = go (Q.skip s b)
    where
      go : (z : Bool) → After P (cond z (done s 1 0) (more 1 0 w))
      go true = h
      go false = after_more P 1 0 w k

  pub walk_after : (depth v a e : ℕ) → a < e → e ≤ count t → (s : S) → Fresh s ⊎ P s → After P (walk t Q depth v a e s)
  unfolding walk
  walk_after zero v a e h k s o = tt
  walk_after (suc f) v a e h k s o = at (kind t.boxes t.links v a e) refl (walk_after f)
    where
      at : (n : Kind) → kind t.boxes t.links v a e ≡ n → ((v a e : ℕ) → a < e → e ≤ count t → (s : S) → Fresh s ⊎ P s → After P (walk t Q f v a e s)) → After P (visit t Q (walk t Q f) n v a e s)
      at Damaged g ih = tt
      at Leaf g ih = unless s (bounds t.boxes v) (leaf_scan (count t) Q (bounds t.boxes v) s (part t.indices a e)) o (leaf-some (bounds t.boxes v) (part t.indices a e) s o (part-some a e h k))
      at (Branch l r) g ih =
          let z = branch-size t.boxes t.links v a e l r g in
          unless s (bounds t.boxes v) (two (Q.left_first (bounds t.boxes l) (bounds t.boxes r))) o
          (pick (ih l a (mid a e) (omega arith) (omega arith)) (ih r (mid a e) e (omega arith) k) (Q.left_first (bounds t.boxes l) (bounds t.boxes r)))
        where
          two : Bool → Walk S
          two b = cond b (and_then (walk t Q f l a (mid a e) s) (walk t Q f r (mid a e) e)) (and_then (walk t Q f r (mid a e) e s) (walk t Q f l a (mid a e)))

          pick : ((s : S) → Fresh s ⊎ P s → After P (walk t Q f l a (mid a e) s)) → ((s : S) → Fresh s ⊎ P s → After P (walk t Q f r (mid a e) e s)) → (b : Bool) → After P (two b)
          pick L R true = after_then P (walk t Q f l a (mid a e) s) (walk t Q f r (mid a e) e) (L s o) (λ u p. R u (inr p))
          pick L R false = after_then P (walk t Q f r (mid a e) e s) (walk t Q f l a (mid a e)) (R s o) (λ u p. L u (inr p))
