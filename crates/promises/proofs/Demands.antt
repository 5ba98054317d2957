-- What a tree may be trusted for. A tree may be trusted where our own build made it, or where the check accepted it, whoever made
-- it; either way it is accepted, and over it each query answers as the plain scan of the points, and never by 9.
--   Trusted t            our build answered that it built t; or the check answered that it accepts t
--   trusted_accepted     so t is accepted
--   trusted_nearest      nearest says what the scan finds
--   trusted_k-nearest    k-nearest answers as the scan's first min(k, n)
--   trusted_radius       radius finds exactly the points with d2 <= radius * radius, by rising index
-- Assumes nothing.
use mathlib.Core.Path.{◌≡◌, refl}
use mathlib.Core.Bool.{true}
use Prim.Native.Nat.{ℕ}
use lib.Ieee.{Float, binary64, of_bits, le}
use Rattle.distance.specs.Distance.{sq}
use Rattle.distance.specs.declared.Coord.{Coord}
use Rattle.tree.specs.Accepted.{Tree, count}
use Rattle.tree.specs.Accepted as tree
use Rattle.accept.specs.Answer as check
use Rattle.std.proofs.Common.{Ok}
use Rattle.refusal.specs.Numbers as code
use Rattle.accept.proofs.Decides.{accepted_of_answer}
use Rattle.build.specs.Agree.{Held}
use Rattle.build.specs.Outcome as build
use Rattle.build.proofs.Once.{outcome-accepted}
use Rattle.search.specs.Order.{point}
use Rattle.search.specs.Refusal.{refusal}
use Rattle.nearest.specs.Nearest as near
use Rattle.nearest.specs.declared.Nearest.{Nearest}
use Rattle.nearest.proofs.Promise.{answers_as_scan}
use Rattle.k_nearest.specs.Query.{answer, scan_answer}
use Rattle.k_nearest.proofs.Promise.{k_nearest_is-scan}
use Rattle.radius.specs.Within.{reply, finds}
use Rattle.radius.proofs.Scan.{picked, radius_is-scan}

pub data Trusted (t : Tree) : Type 0 where
  by_build : (leaf_size : ℕ) (t₀ : Tree) (a : code.Told) → Held t₀.points → build.Outcome leaf_size t₀ a t → a.given ≡ true → Trusted t
  by_check : check.Answers t (Ok tt) → Trusted t

pub trusted_accepted : (t : Tree) → Trusted t → tree.Accepted t
trusted_accepted t (by_build leaf_size t₀ a h o e) = outcome-accepted leaf_size t₀ a t h o e
trusted_accepted t (by_check h) = accepted_of_answer t (Ok tt) h refl

module _ (t : Tree) (T : Trusted t) (q : Coord) where
  pub trusted_nearest : (r : Nearest) → near.Answers t q (near.told r) → near.Says (near.near_scan t q) (near.told r)
  trusted_nearest r h = answers_as_scan t q r (trusted_accepted t T) h

  pub trusted_k-nearest : (k room : ℕ) → answer t q k room ≡ scan_answer t.points q k room
  trusted_k-nearest k room = k_nearest_is-scan t q k room (trusted_accepted t T)

  -- where 1, 2 and 4 do not apply, and the radius is a number not below zero
  pub trusted_radius : (radius : Float) → refusal t.points q ≡ 0 → le (of_bits binary64 0) radius ≡ true → reply t q radius ≡ finds (picked (λ i. le (point t.points q i).d2 (sq radius)) (count t))
  trusted_radius radius h k = radius_is-scan t q radius (trusted_accepted t T) h k
