-- The answer of the check, way by way, in the order of its tests. Assumes nothing.
use mathlib.Core.Path.{◌≡◌, refl}
use mathlib.Core.Logic.{◌⊎◌}
use Prim.Native.Nat.{◌≤◌}
use lib.ListN.{length, take}
use Rattle.std.specs.Prelude.{◌↔◌, Result, Ok, Err, IsOk}
use Rattle.std.proofs.lemmas.List.{get_or-take, length-take-le}
use Rattle.refusal.specs.declared.Refusal.{Refusal}
use Rattle.refusal.specs.declared.Refusal.TheVariants.{DamagedTree}
use Rattle.tree.specs.Points.{Usable, Checks, usable}
use Rattle.tree.specs.Points as points
use Rattle.tree.specs.Accepted.{Tree, count, Sound, Grown, Accepted}
use Rattle.accept.specs.Answer.{sound, odd, many, not_finite, not_accepted, Answers}
use Rattle.accept.specs.Inner.{EachOnce}
use Rattle.accept.proofs.Decides.{ok-accepted}

-- both clauses of the check
pub record Answered (t : Tree) (r : Result Unit Refusal) : Type 0 where
  pub lowest : Answers t r
  pub accepted : IsOk r ↔ Accepted t

module _ (t : Tree) where
  answered : (r : Result Unit Refusal) → Answers t r → Answered t r
  answered r h = record { lowest = h; accepted = ok-accepted t r h }

  -- the points are refused, or usable
  pub answered-points : (r : Refusal) → Checks t.points (Err r) → Answered t (Err r)
  answered-points r h = answered (Err r) (go h refl)
    where
      go : {a : Result Unit Refusal} → Checks t.points a → a ≡ Err r → Answers t a
      go (points.odd h) e = odd h
      go (points.many h k) e = many h k
      go (points.not_finite h k l m) e = not_finite h k l m
      go (usable u) e = absurd cc

  pub usable_points : (v : Unit) → Checks t.points (Ok v) → Usable t.points
  usable_points v h = go h refl
    where
      go : {a : Result Unit Refusal} → Checks t.points a → a ≡ Ok v → Usable t.points
      go (points.odd h) e = absurd cc
      go (points.many h k) e = absurd cc
      go (points.not_finite h k l m) e = absurd cc
      go (usable u) e = u

  module _ (u : Usable t.points) where
    pub answered-accepted : (count t ≡ 0) ⊎ Grown t → Answered t (Ok tt)
    answered-accepted g = answered (Ok tt) (sound record { even = u.even; in_limit = u.in_limit; all_finite = u.all_finite; tree = g })

    pub answered-damaged : ((count t ≡ 0) ⊎ Grown t → ⊥) → Answered t (Err DamagedTree)
    answered-damaged f = answered (Err DamagedTree) (not_accepted u.even u.in_limit u.all_finite (λ a. f a.tree))

-- a tree with indices enough
module _ (t : Tree) (room : count t ≤ length t.indices) where
  front : length (take (count t) t.indices) ≡ count t
  front = length-take-le (count t) t.indices room

  pub once-grown : EachOnce (take (count t) t.indices) → Sound t 0 0 (count t) → Grown t
  once-grown O s = record {
    room = room;
    below = λ k h. rw (get_or-take (count t) t.indices k 0 h, front) at (O.below k (rw front h));
    once = λ i h. O.once i (rw front h);
    root = s;
  }
