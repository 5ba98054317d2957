-- What a nearest query prints: the answer over an accepted tree is the scan's, and its distance, a root of a d2 of finite
-- points, is no NaN. Assumes nothing.
use Prim.Native.Nat.{ℕ, ◌≤◌, ◌<◌, ◌*◌, ◌+◌}
use mathlib.Core.Path.{◌≡◌, refl, ap, sym, subst}
use mathlib.Core.List.{List, [], ◌∷◌}
use mathlib.Core.Bool.{Bool, true, false, not, cond}
use native.Mathlib.Omega.{arith}
use lib.Dec.{T, eqb}
use lib.ListN.{length, get_or}
use lib.Ieee.{Float, nan, inf, fin, is_nan}
use lib.Ieee.Scale.{finite}
use borrow.Author.Tests.{eqb-true}
use Rattle.distance.specs.declared.Coord.{Coord}
use Rattle.distance.proofs.Mono.{nonneg, d2-nonneg}
use Rattle.root.specs.Root.{Root}
use Rattle.root.proofs.NoNan.{unsigned, root-no-nan}
use Rattle.tree.specs.Accepted.{Tree, count, Accepted}
use Rattle.search.proofs.Unrefused.{refusal-finite}
use Rattle.search.specs.Walk.{plain}
use Rattle.search.specs.Order.{point}
use Rattle.search.specs.Refusal.{refusal}
use Rattle.search.specs.Result.{Roots, none, more}
use Rattle.refusal.specs.Numbers.{number}
use Rattle.nearest.specs.declared.Nearest.{Nearest}
use Rattle.nearest.specs.declared.Nearest.TheVariants.{Hit, Empty, Refused}
use Rattle.nearest.specs.Nearest as n
use Rattle.nearest.specs.Nearest.{Reply, near_scan, nearest, told, answered_by, Says, Answers}
use Rattle.nearest.proofs.Promise.{Fits, answers_as_scan, hits-own}
use Rattle.text.specs.Line.{nearest_line, none_line}
use Rattle.text.proofs.Laws.{short-hit, short-count}
use Rattle.stream.specs.Prints.{over, error, Near}

-- ---- distances over finite points are numbers
unsigned-nonneg : (x : Float) → T (nonneg x) → T (unsigned x)
unsigned-nonneg (inf s) h = h
unsigned-nonneg (fin s m e) h = h
unsigned-nonneg nan h = elim h [ ]

pub point-unsigned : (t : Tree) (q : Coord) (i : ℕ) → Accepted t → T (finite q.x) → T (finite q.y) → i < count t → T (unsigned (point t.points q i).d2)
point-unsigned t q i A X Y h =
    unsigned-nonneg (point t.points q i).d2
    (d2-nonneg q.x q.y (get_or t.points (2 * i) nan) (get_or t.points (2 * i + 1) nan) X Y (A.all_finite (2 * i) (omega arith)) (A.all_finite (2 * i + 1) (omega arith)))

answered-passes : (t : Tree) (q : Coord) → answered_by (near_scan t q) ≡ true → refusal t.points q ≡ 0
answered-passes t q e = go (eqb (refusal t.points q) 0) refl e
  where
    go : (b : Bool) → eqb (refusal t.points q) 0 ≡ b
        → answered_by (cond b (cond (eqb (count t) 0) n.empty (n.hit (plain (nearest t.points q).next n.none (count t)))) (n.refused (refusal t.points q))) ≡ true
        → refusal t.points q ≡ 0
    go true f e = eqb-true (refusal t.points q) 0 f
    go false f e = absurd (subst T (sym e) tt)

pub near-number : (t : Tree) (q : Coord) (i : ℕ) (d : Float) → Accepted t → Answers t q (told (Hit i d)) → T (not (is_nan d))
near-number t q i d A h =
    let S = answers_as_scan t q (Hit i d) A h in
    let f = refusal-finite t.points q (answered-passes t q (sym S.answered_is)) in
    let o = hits-own t q i d h in
    root-no-nan (point t.points q i).d2 d (point-unsigned t q i A f.0 f.1 o.0) o.1

-- ---- the lines
abbrev pub near_text : Nearest → List ℕ
near_text (Hit i d) = nearest_line i d
near_text Empty = none_line
near_text (Refused r) = error (number r)

pub near-short : (r : Nearest) → length (near_text r) ≤ 32768
near-short (Hit i d) = omega (arith, short-hit i d)
near-short Empty = omega arith
near-short (Refused r) = omega (arith, short-count 69 (number r))

first : (x y : Float) → Roots (x ∷ []) (y ∷ []) → Root x y
first x y (more r none) = r

says-near : (a : Reply) (r : Nearest) → Says a (told r) → Fits r → Near a (near_text r)
says-near (n.hit s) (Hit i d) h f =
    let e : i ≡ s.index = let g = h.indices_are in cc in
    record { distance = d; root = first s.d2 d h.distances_are; float = f; text_is = ap (λ (k : ℕ). nearest_line k d) e }
says-near (n.hit s) Empty h f = let g = h.indices_are in let z : ◌≡◌ {A = ℕ} 0 1 = cc in absurd (omega arith)
says-near (n.hit s) (Refused k) h f = absurd (subst T (sym h.answered_is) tt)
says-near n.empty (Hit i d) h f = let g = h.indices_are in let z : ◌≡◌ {A = ℕ} 0 1 = cc in absurd (omega arith)
says-near n.empty Empty h f = refl
says-near n.empty (Refused k) h f = absurd (subst T (sym h.answered_is) tt)
says-near (n.refused k) (Hit i d) h f = absurd (subst T h.answered_is tt)
says-near (n.refused k) Empty h f = absurd (subst T h.answered_is tt)
says-near (n.refused k) (Refused m) h f = ap error h.number_is

pub near-prints : (t : Tree) (q : Coord) (r : Nearest) → Accepted t → Answers t q (told r) → Fits r → Near (near_scan (over t.points) q) (near_text r)
near-prints t q r A h f = says-near (near_scan (over t.points) q) r (answers_as_scan t q r A h) f
