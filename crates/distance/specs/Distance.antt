-- Squared distances of the plane, in binary64, each operation rounded once.
--   sq x            x * x
--   d2 ax ay bx by  the squared distance of the places (ax, ay) and (bx, by)
--   clamp q lo hi   the number of lo to hi that is nearest to q
--   bound q b       d2 from q to the nearest place of the box b: what a walk skips by
--   larger x y      the greater of x and y
--   far q lo hi     the square of q's distance to the farther of lo and hi
--   corner q b      d2 from q to the farthest corner of the box b: where it is within a radius, so is the box
--   centre q b      d2 from q to the centre of b: what orders two children
use Rattle.std.specs.Prelude.{cond, Float}
use Rattle.std.specs.Float.{binary64}
use Rattle.std.specs.Float.Ieee.{add, sub, mul, lt}
use Rattle.distance.specs.declared.Coord.{Coord}
use Rattle.distance.specs.declared.Bounds.{Bounds}

unfoldable pub sq : Float → Float
sq x = mul binary64 x x

unfoldable pub d2 : Float → Float → Float → Float → Float
d2 ax ay bx by = add binary64 (sq (sub binary64 ax bx)) (sq (sub binary64 ay by))

unfoldable pub clamp : Float → Float → Float → Float
clamp q lo hi = cond (lt q lo) lo (cond (lt hi q) hi q)

abbrev pub bound : Coord → Bounds → Float
bound q b = d2 q.x q.y (clamp q.x b.min_x b.max_x) (clamp q.y b.min_y b.max_y)

unfoldable pub larger : Float → Float → Float
larger x y = cond (lt x y) y x

abbrev pub far : Float → Float → Float → Float
far q lo hi = larger (sq (sub binary64 q lo)) (sq (sub binary64 q hi))

abbrev pub corner : Coord → Bounds → Float
corner q b = add binary64 (far q.x b.min_x b.max_x) (far q.y b.min_y b.max_y)

abbrev pub centre : Coord → Bounds → Float
centre q b = d2 q.x q.y b.cx b.cy
