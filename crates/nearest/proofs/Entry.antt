-- What the entry says, way by way: the query's reply under what the code found out, and an answer that says it. Assumes nothing.
use mathlib.Core.Path.{◌≡◌, refl, sym, ap, ◌∙◌, subst}
use mathlib.Core.Bool.{Bool, true, false}
use Prim.Native.Nat.{ℕ, ◌≤◌, ◌<◌}
use native.Mathlib.Omega.{arith}
use lib.ListN.{length}
use lib.Ieee.{Float}
use borrow.Author.Tests.{lt-ltb, le-ltb, eq-eqb, ne_eqb}
use Rattle.root.specs.Root.{Root}
use Rattle.distance.specs.declared.Coord.{Coord}
use Rattle.tree.specs.Accepted.{Tree, count}
use Rattle.refusal.specs.Numbers.{number, detail}
use Rattle.refusal.specs.declared.Refusal.{Refusal}
use Rattle.refusal.specs.declared.Refusal.TheVariants.{DamagedTree}
use Rattle.search.specs.Walk.{Walk, damage, done, walk_all, broken, got, outcome}
use Rattle.search.proofs.Unrefused.{Refuses}
use Rattle.search.specs.Refusal.{refusal}
use Rattle.search.specs.Result.{none, more}
use Rattle.search.specs.declared.Best.{Best}
use Rattle.nearest.specs.declared.Nearest.TheVariants.{Hit, Empty, Refused}
use Rattle.nearest.specs.Nearest as n
use Rattle.nearest.specs.Nearest.{nearest, Reply, hit, empty, refused, answer, near, told, Says, Answers}

says-refused : (r : Refusal) → detail r ≡ 0 → Says (refused (number r)) (told (Refused r))
says-refused r h = record { answered_is = refl; number_is = refl; detail_is = h; indices_are = refl; distances_are = none }

answer-damaged : (w : Walk Best) → broken ≡ outcome w → answer w ≡ refused 9
answer-damaged damage h = refl
answer-damaged (done s n d) h = let z : ◌≡◌ {A = ℕ} 0 1 = cc in absurd (omega arith)

answer-found : (w : Walk Best) (s : Best) → got s ≡ outcome w → answer w ≡ hit s
answer-found damage s h = let z : ◌≡◌ {A = ℕ} 0 1 = cc in absurd (omega arith)
answer-found (done s' n d) s h = let e : s' ≡ s = cc in ap hit e

module _ (t : Tree) (q : Coord) where
  pub answers-refused : (r : Refusal) → Refuses (refusal t.points q) r → Answers t q (told (Refused r))
  answers-refused r h =
      subst (λ (a : Reply). Says a (told (Refused r)))
      (sym (simp (ne_eqb (refusal t.points q) 0 h.some) (ap refused h.number_is)))
      (says-refused r h.detail_is)

  module _ (ok : refusal t.points q ≡ 0) where
    pub answers-empty : count t ≡ 0 → Answers t q (told Empty)
    answers-empty h =
        let e : near t q ≡ empty = simp (eq-eqb (refusal t.points q) 0 ok, eq-eqb (count t) 0 h) in
        subst (λ (a : Reply). Says a (told Empty)) (sym e)
        (record { answered_is = refl; number_is = refl; detail_is = refl; indices_are = refl; distances_are = none })

    module _ (some : count t ≡ 0 → ⊥) where
      walked : near t q ≡ answer (walk_all t (nearest t.points q) n.none)
      walked = simp (eq-eqb (refusal t.points q) 0 ok, ne_eqb (count t) 0 some)

      pub answers-damaged : broken ≡ outcome (walk_all t (nearest t.points q) n.none) → Answers t q (told (Refused DamagedTree))
      answers-damaged W =
          subst (λ (a : Reply). Says a (told (Refused DamagedTree)))
          (sym (walked ∙ answer-damaged (walk_all t (nearest t.points q) n.none) W))
          (says-refused DamagedTree refl)

      pub answers-found : (s : Best) → got s ≡ outcome (walk_all t (nearest t.points q) n.none) → (d : Float) → Root s.d2 d → Answers t q (told (Hit s.index d))
      answers-found s W d D =
          subst (λ (a : Reply). Says a (told (Hit s.index d)))
          (sym (walked ∙ answer-found (walk_all t (nearest t.points q) n.none) s W))
          (record { answered_is = refl; number_is = refl; detail_is = refl; indices_are = refl; distances_are = more D none })
