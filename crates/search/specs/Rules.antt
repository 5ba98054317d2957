-- A query as the walk sees it: what it holds, and what bounds, points and whole leaves are to it, by squared distances alone.
--   Rules S               of a query whose state is an S: whether the child with the nearer centre comes first; when a node is
--                         passed over, by its bound; what a point makes of the state; which leaves are taken whole, by their
--                         farthest corner, and what a point of such a leaf makes of the state
--   searching r points q  the query of the walk's definition, as seen from q
--   came_to r s           what code that answers r and holds s by then comes to
use Rattle.std.specs.Prelude.{Bool, true, cond, List, Float, Result, Ok, Err}
use Rattle.distance.specs.Distance.{bound, corner}
use Rattle.distance.specs.declared.Coord.{Coord}
use Rattle.search.specs.declared.Best.{Best}
use Rattle.search.specs.declared.Damage.{Damage}
use Rattle.search.specs.Order.{point, left_nearer}
use Rattle.search.specs.Walk.{Search, Got, broken, got}

pub record Rules (S : Type 0) : Type 0 where
  pub nearer_first : Bool
  pub skip : S → Float → Bool
  pub next : S → Best → S
  pub whole : Float → Bool
  pub add : S → Best → S

abbrev pub searching : {S : Type 0} → Rules S → List Float → Coord → Search S
searching r points q = record {
  skip = λ s b. r.skip s (bound q b);
  left_first = λ l k. cond r.nearer_first (left_nearer q l k) true;
  next = λ s i. r.next s (point points q i);
  whole = λ b. r.whole (corner q b);
  add = λ s i. r.add s (point points q i);
}

abbrev pub came_to : {S : Type 0} → Result Unit Damage → S → Got S
came_to (Ok u) s = got s
came_to (Err d) s = broken
