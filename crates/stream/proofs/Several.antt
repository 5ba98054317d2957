-- What a k-nearest query prints: over an accepted tree the scan's hits. Room for all points is room enough. Assumes nothing.
use Prim.Native.Nat.{ℕ, ◌≤◌, min}
use mathlib.Core.Path.{◌≡◌, refl, sym, subst, ◌∙◌}
use mathlib.Core.List.{List, []}
use mathlib.Core.Bool.{Bool, true, false, cond}
use native.Mathlib.Omega.{arith}
use lib.Dec.{ltb, eqb}
use lib.Ieee.{Float}
use borrow.Author.Tests.{le-ltb, ltb-false}
use Rattle.distance.specs.declared.Coord.{Coord}
use Rattle.tree.specs.Points.{size}
use Rattle.tree.specs.Accepted.{Tree, count, Accepted}
use Rattle.search.specs.Refusal.{refusal}
use Rattle.search.specs.Answer.{refused, hits}
use Rattle.search.specs.declared.Best.{Best}
use Rattle.tree.proofs.Each.{Each, each_map}
use Rattle.k_nearest.specs.Scan.{nearest_k}
use Rattle.k_nearest.specs.Query.{answer, scan_answer}
use Rattle.k_nearest.proofs.Promise.{k_nearest_is-scan, hits-own}
use Rattle.search.proofs.Unrefused.{refusal-finite}
use Rattle.stream.proofs.Nearby.{point-unsigned}
use Rattle.stream.proofs.Listing.{Unsigned}

pub scan-room : (points : List Float) (q : Coord) (k room : ℕ) → size points ≤ room → scan_answer points q k room ≡ scan_answer points q k (size points)
scan-room points q k room h =
    let a : min k (size points) ≤ room = omega arith in
    let b : min k (size points) ≤ size points = omega arith in
    simp (le-ltb room (min k (size points)) a, le-ltb (size points) (min k (size points)) b)

hits-refusal : (t : Tree) (q : Coord) (k room : ℕ) (l : List Best) → scan_answer t.points q k room ≡ hits l → refusal t.points q ≡ 0
hits-refusal t q k room l e = go (ltb 0 (refusal t.points q)) refl e
  where
    go : (b : Bool) → ltb 0 (refusal t.points q) ≡ b
        → cond b (refused (refusal t.points q) 0) (cond (eqb (min k (count t)) 0) (hits []) (cond (ltb room (min k (count t))) (refused 8 (min k (count t))) (hits (nearest_k k t.points q)))) ≡ hits l
        → refusal t.points q ≡ 0
    go true f e = let z : ◌≡◌ {A = ℕ} 0 1 = cc in absurd (omega arith)
    go false f e = omega (arith, ltb-false 0 (refusal t.points q) f)

pub several_unsigned : (t : Tree) (q : Coord) (k room : ℕ) (l : List Best) → Accepted t → answer t q k room ≡ hits l → Each Unsigned l
several_unsigned t q k room l A e =
    let f = refusal-finite t.points q (hits-refusal t q k room l (sym (k_nearest_is-scan t q k room A) ∙ e)) in
    each_map l (λ s o. subst Unsigned (sym o.own) (point-unsigned t q s.index A f.0 f.1 o.inside)) (hits-own t q k room l e)

pub several_scan : (t : Tree) (q : Coord) (k room : ℕ) → Accepted t → count t ≤ room → answer t q k room ≡ scan_answer t.points q k (count t)
several_scan t q k room A h = k_nearest_is-scan t q k room A ∙ scan-room t.points q k room h
