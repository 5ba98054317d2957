-- The check decides: any two answers to one tree are equal, and the answer is `Ok` exactly where the tree is accepted. Two things
-- that are due to one tree are the same, since each says which of the tests is the first to fail. Assumes nothing.
use mathlib.Core.Path.{◌≡◌, refl, sym, ap, ◌∙◌}
use mathlib.Core.List.{List, [], ◌∷◌}
use mathlib.Core.Bool.{Bool, true, false}
use Prim.Native.Nat.{ℕ, ◌<◌}
use native.Mathlib.Nat.{not-le_of_lt}
use native.Mathlib.Omega.{arith}
use lib.Ieee.{Float}
use lib.ListN.{get_or}
use Rattle.std.specs.Prelude.{◌↔◌, Result, Ok, Err, IsOk}
use Rattle.refusal.specs.declared.Refusal.{Refusal}
use Rattle.refusal.proofs.Same.{done-one}
use Rattle.refusal.specs.Numbers.{Told, number, detail, refused, done}
use Rattle.tree.specs.Points.{size, AllFinite, FirstBad}
use Rattle.tree.specs.Accepted.{Tree, Accepted}
use Rattle.tree.proofs.NotFinite.{first_bad_not, first_bad_unique, finite_at_of_all}
use Rattle.accept.specs.Answer.{Due, sound, odd, many, not_finite, not_accepted, Answers}

false_not_true : ◌≡◌ {A = Bool} false true → ⊥
false_not_true e = cc

parity : (a : ℕ) → a ≡ 1 → a ≡ 0 → ⊥
parity a g h = omega arith

bad_not_all : (points : List Float) (i : ℕ) → i < size points → FirstBad points i → AllFinite points → ⊥
bad_not_all points i h F A = first_bad_not points i (finite_at_of_all points i A h) (F.there h)

module _ (t : Tree) where
  pub due_unique : {a b : Told} → Due t a → Due t b → a ≡ b
  due_unique (sound a) (sound b) = refl
  due_unique (sound a) (odd b) = absurd (parity _ b a.even)
  due_unique (sound a) (many b c) = absurd (not-le_of_lt c a.in_limit)
  due_unique (sound a) (not_finite {i} b c d e) = absurd (bad_not_all t.points i d e a.all_finite)
  due_unique (sound a) (not_accepted b c d e) = absurd (e a)
  due_unique (odd a) (sound b) = absurd (parity _ a b.even)
  due_unique (odd a) (odd b) = refl
  due_unique (odd a) (many b c) = absurd (parity _ a b)
  due_unique (odd a) (not_finite b c d e) = absurd (parity _ a b)
  due_unique (odd a) (not_accepted b c d e) = absurd (parity _ a b)
  due_unique (many a b) (sound c) = absurd (not-le_of_lt b c.in_limit)
  due_unique (many a b) (odd c) = absurd (parity _ c a)
  due_unique (many a b) (many c d) = refl
  due_unique (many a b) (not_finite c d e f) = absurd (not-le_of_lt b d)
  due_unique (many a b) (not_accepted c d e f) = absurd (not-le_of_lt b d)
  due_unique (not_finite {i} a b c d) (sound e) = absurd (bad_not_all t.points i c d e.all_finite)
  due_unique (not_finite a b c d) (odd e) = absurd (parity _ e a)
  due_unique (not_finite a b c d) (many e f) = absurd (not-le_of_lt f b)
  due_unique (not_finite {i = i} a b c d) (not_finite {i = j} e f g h) = ap (λ (z : ℕ). refused 3 z) (first_bad_unique t.points i j d h)
  due_unique (not_finite {i} a b c d) (not_accepted e f g h) = absurd (bad_not_all t.points i c d g)
  due_unique (not_accepted a b c d) (sound e) = absurd (d e)
  due_unique (not_accepted a b c d) (odd e) = absurd (parity _ e a)
  due_unique (not_accepted a b c d) (many e f) = absurd (not-le_of_lt f b)
  due_unique (not_accepted a b c d) (not_finite {i} e f g h) = absurd (bad_not_all t.points i g h c)
  due_unique (not_accepted a b c d) (not_accepted e f g h) = refl

  given-only : {a : Told} → Due t a → a.given ≡ true → Accepted t
  given-only (sound a) e = a
  given-only (odd a) e = absurd (false_not_true e)
  given-only (many a b) e = absurd (false_not_true e)
  given-only (not_finite a b c d) e = absurd (false_not_true e)
  given-only (not_accepted a b c d) e = absurd (false_not_true e)

  pub answers_unique : (r s : Result Unit Refusal) → Answers t r → Answers t s → r ≡ s
  answers_unique r s h k = done-one r s (due_unique h k)

  pub answer_of_accepted : (r : Result Unit Refusal) → Answers t r → Accepted t → r ≡ Ok tt
  answer_of_accepted r h a = answers_unique r (Ok tt) h (sound a)

  pub accepted_of_answer : (r : Result Unit Refusal) → Answers t r → r ≡ Ok tt → Accepted t
  accepted_of_answer r h e = given-only h (ap (λ (z : Result Unit Refusal). (done z).given) e)

  pub ok-accepted : (r : Result Unit Refusal) → Answers t r → IsOk r ↔ Accepted t
  ok-accepted (Ok u) h = (λ _. accepted_of_answer (Ok u) h refl, λ _. refl)
  ok-accepted (Err r) h = (λ o. absurd (false_not_true o), λ a. let e = answer_of_accepted (Err r) h a in absurd cc)
