-- A point's neighbours by the radius query: over an accepted tree, at a point, with room for all points, the query refuses
-- nothing and its hits are the neighbours (`asked-hits`, `asked-filled`). By the query's own theorem, that it answers as the
-- plain scan. Assumes nothing.
use mathlib.Core.Path.{◌≡◌, refl, sym, ap, ◌∙◌, subst}
use mathlib.Core.Bool.{Bool, true, false, cond}
use mathlib.Core.List.{List, [], ◌∷◌, ◌++◌, append-nil}
use Rattle.std.proofs.Common.{Result, Ok, Err}
use Prim.Native.Nat.{ℕ, zero, suc, ◌+◌, ◌*◌, ◌%◌}
use native.Mathlib.Omega.{arith}
use lib.Dec.{T, ltb}
use lib.ListN.{length, take, drop}
use lib.Seq.{take-append_seam}
use lib.Ieee.{Float, binary64, of_bits, le}
use lib.Ieee.Scale.{finite}
use borrow.Author.Tests.{ne_eqb, le-ltb}
use Rattle.tree.specs.Points.{limit, x, y}
use Rattle.tree.specs.Accepted.{Tree, count, Accepted}
use Rattle.search.specs.Refusal.{Told, told, refusal}
use Rattle.refusal.proofs.Same.{number-nonzero}
use Rattle.search.specs.Order.{at}
use Rattle.refusal.specs.declared.Refusal.{Refusal}
use Rattle.radius.specs.Within.{Reply, finds, reply, Answered}
use Rattle.radius.proofs.Scan.{picked, radius_is-scan}
use Rattle.labels.specs.Labels.{near, hits}
use Rattle.labels.proofs.Neighbours.{hits-length}
use Rattle.dbscan.specs.Growing.{Asked, Filled}

picked-hits : (p : ℕ → Bool) (n : ℕ) → picked p n ≡ hits p n
unfolding hits
picked-hits p zero = refl
picked-hits p (suc k) = go (p k) (picked-hits p k)
  where
    go : (b : Bool) → picked p k ≡ hits p k → cond b (picked p k ++ (k ∷ [])) (picked p k) ≡ hits p k ++ cond b (k ∷ []) []
    go true e = ap (λ (l : List ℕ). l ++ (k ∷ [])) e
    go false e = e ∙ sym (append-nil (hits p k))

abbrev hits-told : ℕ → ℕ → Told
hits-told n m = record { number = n; detail = m }

told-hits : (r : Result ℕ Refusal) (m : ℕ) → told r ≡ hits-told 0 m → r ≡ Ok m
told-hits (Ok n) m h = ap (λ (a : Told). Ok a.detail) h
told-hits (Err w) m h = absurd (number-nonzero w (ap (λ (a : Told). a.number) h))

is_true : (b : Bool) → T b → b ≡ true
is_true true h = refl
is_true false h = elim h [ ]

module _ (t : Tree) (epsilon : Float) (i : ℕ) (out₀ : List ℕ) (A : Asked t epsilon i out₀) where
  accepted : Accepted t
  accepted = A.search.accepted

  -- a point of an accepted tree may be asked about
  not_refused : refusal t.points (at (x t.points i) (y t.points i)) ≡ 0
  not_refused =
      rw (
        ne_eqb (length t.points % 2) 1 (λ e. omega (arith, e, accepted.even)),
        le-ltb limit (count t) accepted.in_limit,
        is_true (finite (x t.points i)) (accepted.all_finite (2 * i) (omega (arith, A.point))),
        is_true (finite (y t.points i)) (accepted.all_finite (2 * i + 1) (omega (arith, A.point))),
      )

  found : reply t (at (x t.points i) (y t.points i)) epsilon ≡ finds (hits (near t.points epsilon i) (count t))
  unfolding near
  found =
      radius_is-scan t (at (x t.points i) (y t.points i)) epsilon accepted not_refused (is_true (le (of_bits binary64 0) epsilon) A.search.not_negative)
      ∙ ap finds (picked-hits (near t.points epsilon i) (count t))

  module _ (r : Result ℕ Refusal) (out : List ℕ) (W : Answered (reply t (at (x t.points i) (y t.points i)) epsilon) (length out₀) out₀ r out) where
    abbrev l : List ℕ
    l = hits (near t.points epsilon i) (count t)

    W' : Answered (finds l) (length out₀) out₀ r out
    W' = subst (λ (a : Reply). Answered a (length out₀) out₀ r out) found W

    fits : ltb (length out₀) (length l) ≡ false
    fits = le-ltb (length out₀) (length l) (omega (arith, A.room, hits-length (near t.points epsilon i) (count t)))

    pub asked-hits : r ≡ Ok (length l)
    asked-hits = told-hits r (length l) (W'.told_is ∙ ap (λ (b : Bool). hits-told (cond b 8 0) (length l)) fits)

    pub asked-filled : (n : ℕ) → r ≡ Ok n → Filled (near t.points epsilon) (count t) i n out
    asked-filled n e =
        let same : n ≡ length l = cc asked-hits in
        record { count = same; front = ap (λ (k : ℕ). take k out) same ∙ ap (take (length l)) (W'.indices_are ∙ ap (λ (b : Bool). cond b out₀ (l ++ drop (length l) out₀)) fits) ∙ take-append_seam l (drop (length l) out₀) }

    pub asked_never : (w : Refusal) → r ≡ Err w → ⊥
    asked_never w e = let z : ◌≡◌ {A = ℕ} 0 1 = cc asked-hits in omega arith
