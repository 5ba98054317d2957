-- The k nearest points, with no tree: what the query answers over every accepted tree.
--   insert p l            p goes into the list l in front of the first that it stands before
--   keep k points q s i   point i is inserted into s, and s is cut at k
--   nearest_k k points q  of all points, the first min(k, n) by (d2, index)
use Rattle.std.specs.Prelude.{List, [], ◌∷◌, cond, ℕ, take, Float}
use Rattle.distance.specs.declared.Coord.{Coord}
use Rattle.tree.specs.Points.{size}
use Rattle.search.specs.Order.{point, before}
use Rattle.search.specs.Walk.{plain}
use Rattle.search.specs.declared.Best.{Best}

abbrev pub insert : Best → List Best → List Best
insert p [] = p ∷ []
insert p (s ∷ ss) = cond (before p s) (p ∷ s ∷ ss) (s ∷ insert p ss)

abbrev pub keep : ℕ → List Float → Coord → List Best → ℕ → List Best
keep k points q s i = take k (insert (point points q i) s)

abbrev pub nearest_k : ℕ → List Float → Coord → List Best
nearest_k k points q = plain (keep k points q) [] (size points)
