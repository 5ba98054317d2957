-- What a query that lists hits lists: by a scan, each hit at a distance of no minus sign, and so it is printed. Assumes nothing.
use Prim.Native.Nat.{ℕ}
use mathlib.Core.Path.{◌≡◌, ◌∙◌}
use mathlib.Core.List.{List}
use native.Mathlib.Omega.{arith}
use lib.Ieee.{Float}
use Rattle.distance.specs.declared.Coord.{Coord}
use Rattle.tree.specs.Accepted.{Tree, count, Accepted}
use Rattle.tree.proofs.Each.{Each}
use Rattle.search.specs.Answer.{hits}
use Rattle.search.specs.declared.Best.{Best}
use Rattle.stream.specs.declared.Wanted.{Wanted}
use Rattle.stream.specs.declared.Wanted.TheVariants.{Nearest, Within}
use Rattle.stream.specs.Prints.{Replied, Prints}
use Rattle.stream.specs.Asked.{asked, letter_of, listed}
use Rattle.stream.proofs.Listing.{Unsigned}
use Rattle.stream.proofs.Several.{several_unsigned, several_scan}
use Rattle.stream.proofs.Around.{around_unsigned}

pub listed-unsigned : (w : Wanted) (t : Tree) (q : Coord) (l : List Best) → Accepted t → listed w t.points q ≡ hits l → Each Unsigned l
listed-unsigned (Nearest k) t q l A e = several_unsigned t q k (count t) l A (several_scan t q k (count t) A (omega arith) ∙ e)
listed-unsigned (Within radius) t q l A e = around_unsigned t q radius A l e

pub listed-prints : (w : Wanted) (p : List Float) (q : Coord) (text : List ℕ) → Replied (letter_of w) (listed w p q) text → Prints p (asked w q) text
listed-prints (Nearest k) p q text R = R
listed-prints (Within radius) p q text R = R
