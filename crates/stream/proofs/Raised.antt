-- A build over points that are kept is refused by no row of the table: there are at most 1,024, all finite, and a tree of c
-- points has fewer than 2 c nodes. So what it leaves is accepted. Assumes nothing.
use Prim.Native.Nat.{ℕ, zero, suc, ◌+◌, ◌*◌, ◌≤◌, ◌<◌}
use mathlib.Core.Path.{◌≡◌, refl, subst}
use mathlib.Core.Logic.{inl, inr}
use mathlib.Core.List.{List}
use mathlib.Core.Bool.{Bool, true, false, ◌&&◌}
use native.Mathlib.Omega.{arith}
use lib.Dec.{T}
use lib.ListN.{length, get_or}
use lib.Ieee.{Float, nan}
use lib.Ieee.Scale.{finite}
use Rattle.tree.specs.Points.{size, finite_at, Usable}
use Rattle.tree.specs.Accepted.{Tree, tree, Accepted}
use Rattle.tree.specs.Count.{leaf_of, nodes}
use Rattle.tree.proofs.Counting.{leaf_of-pos, nodes-bound, nodes-none}
use Rattle.build.specs.Agree.{Held}
use Rattle.build.specs.Built.{needed}
use Rattle.refusal.specs.Numbers.{Told}
use Rattle.build.specs.Outcome.{Due, odd, many, not_finite, few_indices, few_nodes, allowed, Outcome}
use Rattle.build.proofs.Accept.{accepted_of_built}
use Rattle.stream.specs.Asked.{Raising}

few-needed : (ls : ℕ) (p : List Float) → size p ≤ 1024 → needed ls p ≤ 2048
few-needed ls p h = go (size p) h
  where
    go : (n : ℕ) → n ≤ 1024 → nodes (leaf_of ls) n ≤ 2048
    go zero h = omega (arith, nodes-none (leaf_of ls))
    go (suc n) h = omega (arith, nodes-bound (leaf_of ls) (suc n) (leaf_of-pos ls) (omega arith))

module _ (ls : ℕ) (p : List Float) (indices : List ℕ) (boxes : List Float) (links : List ℕ) (R : Raising p indices boxes links) where
  usable : Usable p
  usable = record { even = R.even; in_limit = omega (arith, R.few); all_finite = R.all_finite }

  not_bad : (i : ℕ) → i < size p → finite_at p i ≡ false → ⊥
  not_bad i h e =
      go (finite (get_or p (2 * i) nan)) (finite (get_or p (2 * i + 1) nan)) (R.all_finite (2 * i) (omega arith)) (R.all_finite (2 * i + 1) (omega arith)) e
    where
      go : (a b : Bool) → T a → T b → (a && b) ≡ false → ⊥
      go true true A B e = subst T e tt
      go false b A B e = elim A [ ]
      go true false A B e = elim B [ ]

  pub built : (a : Told) → Due ls p (length indices) (length boxes) (length links) a → a.given ≡ true
  built a (odd h) = absurd (omega (arith, R.even))
  built a (many h l) = absurd (omega (arith, R.few))
  built a (not_finite {i} h l g f) = absurd (not_bad i g (f.there g))
  built a (few_indices u h) = absurd (omega (arith, R.few, R.indices_room))
  built a (few_nodes u h (inl s)) = absurd (omega (arith, few-needed ls p R.few, R.boxes_room))
  built a (few_nodes u h (inr s)) = absurd (omega (arith, few-needed ls p R.few, R.links_room))
  built a (allowed g) = refl

  pub raised : (a : Told) (t : Tree) → Held p → Outcome ls (tree p indices boxes links) a t → Accepted t
  raised a t H O = accepted_of_built ls (tree p indices boxes links) t H usable (O.built (built a O.due))
