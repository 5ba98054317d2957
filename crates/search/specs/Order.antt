-- The order in which points are the nearer ones: by squared distance, and where it is the same by index.
--   at x y             a place
--   best d i           a point held: its squared distance d and its index i
--   point points q i   point i as seen from q
--   before s p         s stands before p
--   left_nearer q l r  of two children with the boxes l and r, the left one's centre is no farther from q
use Rattle.std.specs.Prelude.{Bool, ◌&&◌, ◌||◌, List, ℕ, ltb, Float}
use Rattle.std.specs.Float.Ieee.{lt, le, eq}
use Rattle.distance.specs.Distance.{d2, centre}
use Rattle.distance.specs.declared.Bounds.{Bounds}
use Rattle.distance.specs.declared.Coord.{Coord}
use Rattle.tree.specs.Points.{x, y}
use Rattle.search.specs.declared.Best.{Best}

abbrev pub at : Float → Float → Coord
at x y = record { x = x; y = y }

abbrev pub best : Float → ℕ → Best
best d i = record { d2 = d; index = i }

abbrev pub point : List Float → Coord → ℕ → Best
point points q i = best (d2 q.x q.y (x points i) (y points i)) i

abbrev pub before : Best → Best → Bool
before s p = lt s.d2 p.d2 || (eq s.d2 p.d2 && ltb s.index p.index)

abbrev pub left_nearer : Coord → Bounds → Bounds → Bool
left_nearer q l r = le (centre q l) (centre q r)
