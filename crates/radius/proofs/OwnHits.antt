-- Over any tree, accepted or not: what is answered as a hit has an index below n, and the distance beside it is that
-- point's own, the root of its d2. Assumes nothing.
use mathlib.Core.Path.{◌≡◌, sym, ap, ◌∙◌, subst}
use mathlib.Core.Bool.{Bool, true, false}
use mathlib.Core.List.{List}
use Prim.Native.Nat.{ℕ, min}
use lib.Dec.{T, ltb}
use lib.Ieee.{Float}
use lib.ListN.{length, take, drop}
use lib.Seq.{take_at}
use Rattle.distance.specs.declared.Coord.{Coord}
use Rattle.tree.specs.Accepted.{Tree, count}
use Rattle.std.proofs.Common.{Ok}
use Rattle.search.specs.Result.{Roots}
use Rattle.search.proofs.Fronts.{roots-length}
use Rattle.radius.specs.Within.{Reply, reply, squares, Unless, Distances, WithDistances}
use Rattle.radius.proofs.Measuring.{squares-length}
use Rattle.radius.proofs.Answers.{Below, reply_proper, reply-below, Hits, hits-found}

pub record OwnHits (t : Tree) (q : Coord) (n : ℕ) (indices : List ℕ) (distances : List Float) : Type 0 where
  pub below : Below (count t) (take n indices)
  pub own : Roots (squares t.points q (take n indices)) (take n distances)

pub hits-own : (t : Tree) (q : Coord) (radius : Float) (n : ℕ) (is₀ is : List ℕ) (ds₀ ds : List Float) → WithDistances t.points q (reply t q radius) is₀ ds₀ (Ok n) is ds → OwnHits t q n is ds
hits-own t q radius n is₀ is ds₀ ds W = go (ltb (min (length is₀) (length ds₀)) (length H.hits)) H.fits (subst (λ (b : Reply). Distances t.points q b (min (length is₀) (length ds₀)) ds₀ ds) H.asked W.distances_are)
  where
    H : Hits (reply t q radius) (reply_proper t q radius) (min (length is₀) (length ds₀)) is₀ is n
    H = hits-found (reply t q radius) (reply_proper t q radius) (min (length is₀) (length ds₀)) is₀ is n W.answered

    go : (b : Bool) → b ≡ false → Unless b (squares t.points q H.hits) ds₀ ds → OwnHits t q n is ds
    go true f D = absurd (subst T f tt)
    go false f D =
        let m : length D.roots ≡ n = roots-length D.each_root ∙ squares-length t.points q H.hits ∙ sym H.many in
        let g : take n ds ≡ D.roots = ap (take n) D.are ∙ take_at D.roots (drop (length (squares t.points q H.hits)) ds₀) n m in
        record {
          below = subst (Below (count t)) (sym H.front) (reply-below t q radius H.hits H.asked);
          own = subst (λ (x : List ℕ). Roots (squares t.points q x) (take n ds)) (sym H.front) (subst (λ (x : List Float). Roots (squares t.points q H.hits) x) (sym g) D.each_root);
        }
