-- What the inner functions of the check promise one another. A reader of the check's own promise needs none of it.
--   low_of a b, high_of a b   the lower and the higher of two numbers, a where neither is
--   dot p                     the span of the one number p
--   around s u                the span around two spans
--   within min max s          min and max are finite, and the span s lies between them
--   of_entry t k              the box of the one point whose index stands at k
--   joined s u                the box around two boxes
--   fits b s                  the node's box b is finite and holds the box s
--   inside b s                s where it fits b, else nothing
--   above p q                 p is q or more
--   Extreme R f a e m         m is f at some k from a to e, and R to f at each of them
--   Spans f a e s             s is the tight span of f from a to e
--   Tight t a e s             s is the tight box of the points whose indices stand from a to e
--   Ready t                   what is tested before the nodes: room, indices below n, finite points
--   EachOnce l                l is of n numbers, and has each of 0 to n - 1 once
use Rattle.std.specs.Prelude.{◌≡◌, List, Bool, ◌&&◌, cond, ℕ, ◌≤◌, ◌<◌, T, length, get_or, Float, Option, Some, None}
use Rattle.std.specs.Float.Ieee.{le, lt}
use Rattle.std.specs.Float.Ieee.Scale.{finite}
use Rattle.distance.specs.declared.Bounds.{Bounds}
use Rattle.tree.specs.Points.{x, y, AllFinite}
use Rattle.tree.specs.Accepted.{Tree, count, times}
use Rattle.accept.specs.declared.extent.Span.{Span}
use Rattle.accept.specs.declared.extent.Extent.{Extent}

abbrev pub low_of : Float → Float → Float
low_of a b = cond (lt b a) b a

abbrev pub high_of : Float → Float → Float
high_of a b = cond (lt a b) b a

abbrev pub dot : Float → Span
dot p = record { low = p; high = p }

abbrev pub around : Span → Span → Span
around s u = record { low = low_of s.low u.low; high = high_of s.high u.high }

abbrev pub within : Float → Float → Span → Bool
within min max s = finite min && finite max && le min s.low && le s.high max

abbrev pub of_entry : Tree → ℕ → Extent
of_entry t k = record { x = dot (x t.points (get_or t.indices k 0)); y = dot (y t.points (get_or t.indices k 0)) }

abbrev pub joined : Extent → Extent → Extent
joined s u = record { x = around s.x u.x; y = around s.y u.y }

abbrev pub fits : Bounds → Extent → Bool
fits b s = within b.min_x b.max_x s.x && within b.min_y b.max_y s.y

abbrev pub inside : Bounds → Extent → Option Extent
inside b s = cond (fits b s) (Some s) None

pub record Extreme (R : Float → Float → Bool) (f : ℕ → Float) (a e : ℕ) (m : Float) : Type 0 where
  pub all : (k : ℕ) → a ≤ k → k < e → T (R m (f k))
  pub at : ℕ
  pub from : a ≤ at
  pub to : at < e
  pub is : m ≡ f at

abbrev pub above : Float → Float → Bool
above p q = le q p

pub record Spans (f : ℕ → Float) (a e : ℕ) (s : Span) : Type 0 where
  pub low : Extreme le f a e s.low
  pub high : Extreme above f a e s.high

pub record Tight (t : Tree) (a e : ℕ) (s : Extent) : Type 0 where
  pub on_x : Spans (λ k. x t.points (get_or t.indices k 0)) a e s.x
  pub on_y : Spans (λ k. y t.points (get_or t.indices k 0)) a e s.y

pub record Ready (t : Tree) : Type 0 where
  pub room : count t ≤ length t.indices
  pub below : (k : ℕ) → k < count t → get_or t.indices k 0 < count t
  pub all_finite : AllFinite t.points

pub record EachOnce (l : List ℕ) : Type 0 where
  pub below : (k : ℕ) → k < length l → get_or l k 0 < length l
  pub once : (i : ℕ) → i < length l → times i l ≡ 1
