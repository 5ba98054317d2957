-- What two child numbers make of a node, where neither is zero; and a branch is over two entries or more. By cases on the
-- numbers. Assumes nothing.
use mathlib.Core.Path.{◌≡◌, refl}
use mathlib.Core.Bool.{Bool, true, false, cond}
use mathlib.Core.List.{List}
use Prim.Native.Nat.{ℕ, zero, suc, ◌+◌, ◌-◌, ◌*◌, ◌<◌}
use native.Mathlib.Omega.{arith}
use lib.Dec.{ltb}
use lib.ListN.{get_or}
use lib.Ieee.{Float}
use borrow.Author.Tests.{ltb-true}
use Rattle.tree.specs.Node.{children, covers, kind}
use Rattle.tree.specs.declared.Kind.TheVariants.{Branch, Damaged}

pub some-some : (c l r : ℕ) → (l ≡ 0 → ⊥) → (r ≡ 0 → ⊥) → children c l r ≡ cond (ltb 1 c) (Branch l r) Damaged
some-some c zero r h g = absurd (h refl)
some-some c (suc l) zero h g = absurd (g refl)
some-some c (suc l) (suc r) h g = refl

children-size : (c l r i j : ℕ) → children c l r ≡ Branch i j → 1 < c
children-size c zero zero i j h = let z : ◌≡◌ {A = ℕ} 0 1 = cc in absurd (omega arith)
children-size c zero (suc r) i j h = let z : ◌≡◌ {A = ℕ} 0 1 = cc in absurd (omega arith)
children-size c (suc l) zero i j h = let z : ◌≡◌ {A = ℕ} 0 1 = cc in absurd (omega arith)
children-size c (suc l) (suc r) i j h = go (ltb 1 c) refl h
  where
    go : (b : Bool) → ltb 1 c ≡ b → cond b (Branch (suc l) (suc r)) Damaged ≡ Branch i j → 1 < c
    go true e k = ltb-true 1 c e
    go false e k = let z : ◌≡◌ {A = ℕ} 0 1 = cc in absurd (omega arith)

pub branch-size : (boxes : List Float) (links : List ℕ) (v a e i j : ℕ) → kind boxes links v a e ≡ Branch i j → 1 < e - a
branch-size boxes links v a e i j h = go (covers boxes links v a e) h
  where
    go : (b : Bool) → cond b (children (e - a) (get_or links (v * 4 + 2) 0) (get_or links (v * 4 + 3) 0)) Damaged ≡ Branch i j → 1 < e - a
    go true k = children-size (e - a) (get_or links (v * 4 + 2) 0) (get_or links (v * 4 + 3) 0) i j k
    go false k = let z : ◌≡◌ {A = ℕ} 0 1 = cc in absurd (omega arith)
