-- One outcome per input: any two answers over one input tell the same; the slices after them are the same, but for the order
-- inside a leaf and the centres; where no row of the refusals applies the build finishes; and what it leaves is accepted.
-- By cases on the rows, each of which rules out the others. Assumes nothing.
use mathlib.Core.Path.{◌≡◌, refl, sym, ◌∙◌, ap}
use mathlib.Core.Logic.{◌⊎◌, inl, inr}
use mathlib.Core.Bool.{Bool, true, false, cond}
use lib.Dec.{eqb}
use mathlib.Core.List.{List}
use Prim.Native.Nat.{ℕ, ◌<◌, ◌/◌}
use native.Mathlib.Nat.{not-le_of_lt}
use native.Mathlib.Omega.{arith}
use lib.ListN.{length}
use lib.Ieee.{Float}
use Rattle.tree.specs.Points.{size, FirstBad, Usable}
use Rattle.tree.specs.Accepted.{Tree, Accepted}
use Rattle.tree.proofs.NotFinite.{first_bad_not, first_bad_unique, finite_at_of_all}
use Rattle.std.specs.Prelude.{Result, Ok, Err}
use Rattle.refusal.specs.Numbers.{Told, given, refused, told, number, detail}
use Rattle.refusal.specs.declared.Refusal.{Refusal}
use Rattle.build.specs.Built.{needed, Built}
use Rattle.build.specs.Outcome.{Given, Due, odd, many, not_finite, few_indices, few_nodes, allowed, Outcome}
use Rattle.build.specs.Agree.{Held, Agree}
use Rattle.build.proofs.Outcomes.{true_false, given_of}
use Rattle.build.proofs.Unique.{built_agree}
use Rattle.build.proofs.Accept.{accepted_of_built}

parity : (a : ℕ) → a ≡ 1 → a ≡ 0 → ⊥
parity a g h = omega arith

-- usable points have no bad one
none_bad : (points : List Float) (i : ℕ) → Usable points → i < size points → FirstBad points i → ⊥
none_bad points i u h f = first_bad_not points i (finite_at_of_all points i u.all_finite h) (f.there h)

module _ (ls : ℕ) (points : List Float) (i b k : ℕ) where
  short : Given ls points i b k → (b / 6 < needed ls points) ⊎ (k / 4 < needed ls points) → ⊥
  short g (inl s) = not-le_of_lt s g.floats
  short g (inr s) = not-le_of_lt s g.numbers

  pub due-one : {a c : Told} → Due ls points i b k a → Due ls points i b k c → a ≡ c
  due-one (odd a) (odd c) = refl
  due-one (odd a) (many c d) = absurd (parity _ a c)
  due-one (odd a) (not_finite c d e f) = absurd (parity _ a c)
  due-one (odd a) (few_indices u h) = absurd (parity _ a u.even)
  due-one (odd a) (few_nodes u h s) = absurd (parity _ a u.even)
  due-one (odd a) (allowed g) = absurd (parity _ a g.usable.even)
  due-one (many a c) (odd d) = absurd (parity _ d a)
  due-one (many a c) (many d e) = refl
  due-one (many a c) (not_finite d e f g) = absurd (not-le_of_lt c e)
  due-one (many a c) (few_indices u h) = absurd (not-le_of_lt c u.in_limit)
  due-one (many a c) (few_nodes u h s) = absurd (not-le_of_lt c u.in_limit)
  due-one (many a c) (allowed g) = absurd (not-le_of_lt c g.usable.in_limit)
  due-one (not_finite a c d e) (odd f) = absurd (parity _ f a)
  due-one (not_finite a c d e) (many f g) = absurd (not-le_of_lt g c)
  due-one (not_finite {i = p} a c d e) (not_finite {i = q} f g h m) = ap (refused 3) (first_bad_unique points p q e m)
  due-one (not_finite {i = p} a c d e) (few_indices u h) = absurd (none_bad points p u d e)
  due-one (not_finite {i = p} a c d e) (few_nodes u h s) = absurd (none_bad points p u d e)
  due-one (not_finite {i = p} a c d e) (allowed g) = absurd (none_bad points p g.usable d e)
  due-one (few_indices u h) (odd a) = absurd (parity _ a u.even)
  due-one (few_indices u h) (many a c) = absurd (not-le_of_lt c u.in_limit)
  due-one (few_indices u h) (not_finite {i = p} a c d e) = absurd (none_bad points p u d e)
  due-one (few_indices u h) (few_indices v g) = refl
  due-one (few_indices u h) (few_nodes v g s) = absurd (not-le_of_lt h g)
  due-one (few_indices u h) (allowed g) = absurd (not-le_of_lt h g.room)
  due-one (few_nodes u h s) (odd a) = absurd (parity _ a u.even)
  due-one (few_nodes u h s) (many a c) = absurd (not-le_of_lt c u.in_limit)
  due-one (few_nodes u h s) (not_finite {i = p} a c d e) = absurd (none_bad points p u d e)
  due-one (few_nodes u h s) (few_indices v g) = absurd (not-le_of_lt g h)
  due-one (few_nodes u h s) (few_nodes v g r) = refl
  due-one (few_nodes u h s) (allowed g) = absurd (short g s)
  due-one (allowed g) (odd a) = absurd (parity _ a g.usable.even)
  due-one (allowed g) (many a c) = absurd (not-le_of_lt c g.usable.in_limit)
  due-one (allowed g) (not_finite {i = p} a c d e) = absurd (none_bad points p g.usable d e)
  due-one (allowed g) (few_indices u h) = absurd (not-le_of_lt h g.room)
  due-one (allowed g) (few_nodes u h s) = absurd (short g s)
  due-one (allowed g) (allowed h) = refl

module _ (ls : ℕ) (t₀ : Tree) where
  pub outcome-one : (a c : Told) (t u : Tree) → Outcome ls t₀ a t → Outcome ls t₀ c u → a ≡ c
  outcome-one a c t u o p = due-one ls t₀.points (length t₀.indices) (length t₀.boxes) (length t₀.links) o.due p.due

  pub outcome_agree : (a c : Told) (t u : Tree) → Held t₀.points → Outcome ls t₀ a t → Outcome ls t₀ c u → (t ≡ u) ⊎ Agree ls t u
  outcome_agree a c t u H o p = go a.given refl
    where
      same : a.given ≡ c.given
      same = ap (λ (z : Told). z.given) (outcome-one a c t u o p)

      go : (b : Bool) → a.given ≡ b → (t ≡ u) ⊎ Agree ls t u
      go true e = inr (built_agree ls t₀ t u H (o.built e) (p.built (sym same ∙ e)))
      go false e = inl (o.kept e ∙ sym (p.kept (sym same ∙ e)))

  -- where nothing is refused, N(n) nodes are built
  pub outcome_finishes : (a : Told) (t : Tree) → Given ls t₀.points (length t₀.indices) (length t₀.boxes) (length t₀.links) → Outcome ls t₀ a t
      → (a ≡ given (needed ls t₀.points)) × Built ls t₀ t
  outcome_finishes a t g o =
      let e : a ≡ given (needed ls t₀.points) = due-one ls t₀.points (length t₀.indices) (length t₀.boxes) (length t₀.links) o.due (allowed g) in
      (e, o.built (ap (λ (z : Told). z.given) e))

  pub outcome-accepted : (a : Told) (t : Tree) → Held t₀.points → Outcome ls t₀ a t → a.given ≡ true → Accepted t
  outcome-accepted a t H o e =
      accepted_of_built ls t₀ t H (given_of ls t₀.points (length t₀.indices) (length t₀.boxes) (length t₀.links) a e o.due).usable (o.built e)
