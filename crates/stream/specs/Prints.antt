-- What each record of a stream prints, over the points so far. A query is answered by a plain scan of them.
--   over points              the points so far, as a tree of no nodes: a scan reads the points alone
--   error n                  `E` and a refusal's number
--   Floats l                 each of them is a value of an f64
--   Near r text              what nearest prints: the hit, `N none`, or the refusal
--   Listed letter hits text  a letter and how many hits there are, then a line for each: its index and its distance
--   Replied letter a text    what a query that lists hits prints
--   radius_scan points q radius  what a radius query answers by a scan: the refusal, or every point within, by rising index
--   LabelList points e m text  `C` and how many points there are, then the label of each
--   Labels ok points e m text  what a label query prints: the refusal 5 unless epsilon is at least 0
--   limit_points             the most points that are kept
--   keep_number n x y        after n points: 2 where there is no more room, 3 where the point is not finite, else 0
--   Prints points what text  the record `what` prints text
use Rattle.std.specs.Prelude.{◌≡◌, List, [], ◌++◌, map, Bool, true, false, ◌&&◌, cond, ℕ, ◌<◌, T, leb, eqb, length, get_or, Float}
use Rattle.std.specs.Float.{nan, binary64}
use Rattle.std.specs.Float.Ieee.{of_bits, fits, le}
use Rattle.std.specs.Float.Ieee.Scale.{finite}
use Rattle.distance.specs.Distance.{sq}
use Rattle.distance.specs.declared.Coord.{Coord}
use Rattle.tree.specs.Points.{size}
use Rattle.tree.specs.Accepted.{Tree, tree}
use Rattle.root.specs.Root.{Root}
use Rattle.search.specs.Answer.{Answer, refused, damaged, hits}
use Rattle.search.specs.Order.{point, at}
use Rattle.search.specs.Result.{Roots, indices_of, squares_of}
use Rattle.search.specs.declared.Best.{Best}
use Rattle.nearest.specs.Nearest as n
use Rattle.nearest.specs.Nearest.{Reply, near_scan}
use Rattle.k_nearest.specs.Query.{scan_answer}
use Rattle.radius.specs.Within as w
use Rattle.labels.specs.Labels.{near, Labelled, hits as passing}
use Rattle.records.specs.declared.Record.{Record}
use Rattle.records.specs.declared.Record.TheVariants.{Point, Nearest, KNearest, Radius, Label, Unknown}
use Rattle.text.specs.Line.{count_line, nearest_line, none_line, hit_lines, label_lines}

abbrev pub over : List Float → Tree
over points = tree points [] [] []

abbrev pub error : ℕ → List ℕ
error n = count_line 69 n

abbrev pub Floats : List Float → Type 0
Floats l = (i : ℕ) → i < length l → T (fits binary64 (get_or l i nan))

pub record NearHit (s : Best) (text : List ℕ) : Type 0 where
  pub distance : Float
  pub root : Root s.d2 distance
  pub float : T (fits binary64 distance)
  pub text_is : text ≡ nearest_line s.index distance

abbrev pub Near : Reply → List ℕ → Type 0
Near (n.hit s) text = NearHit s text
Near n.empty text = text ≡ none_line
Near (n.refused number) text = text ≡ error number

pub record Listed (letter : ℕ) (found : List Best) (text : List ℕ) : Type 0 where
  pub roots : List Float
  pub each_root : Roots (squares_of found) roots
  pub floats : Floats roots
  pub text_is : text ≡ count_line letter (length found) ++ hit_lines (length found) (indices_of found) roots

abbrev pub Replied : ℕ → Answer → List ℕ → Type 0
Replied letter (refused number detail) text = text ≡ error number
Replied letter damaged text = text ≡ error 9
Replied letter (hits found) text = Listed letter found text

abbrev pub radius_scan : List Float → Coord → Float → Answer
radius_scan points q radius =
    cond (eqb (w.refused points q radius) 0)
    (hits (map (point points q) (passing (λ (i : ℕ). le (point points q i).d2 (sq radius)) (size points))))
    (refused (w.refused points q radius) 0)

pub record LabelList (points : List Float) (epsilon : Float) (samples : ℕ) (text : List ℕ) : Type 0 where
  pub labels : List ℕ
  pub labelled : Labelled (near points epsilon) (size points) samples labels
  pub text_is : text ≡ count_line 67 (size points) ++ label_lines (size points) labels

abbrev pub Labels : Bool → List Float → Float → ℕ → List ℕ → Type 0
Labels true points epsilon samples text = LabelList points epsilon samples text
Labels false points epsilon samples text = text ≡ error 5

abbrev pub limit_points : ℕ
limit_points = 1024

abbrev pub keep_number : ℕ → Float → Float → ℕ
keep_number n x y = cond (leb limit_points n) 2 (cond (finite x && finite y) 0 3)

abbrev pub Prints : List Float → Record → List ℕ → Type 0
Prints points (Point x y) text = text ≡ cond (eqb (keep_number (size points) x y) 0) [] (error (keep_number (size points) x y))
Prints points (Nearest x y) text = Near (near_scan (over points) (at x y)) text
Prints points (KNearest x y k) text = Replied 75 (scan_answer points (at x y) k (size points)) text
Prints points (Radius x y radius) text = Replied 82 (radius_scan points (at x y) radius) text
Prints points (Label epsilon samples) text = Labels (le (of_bits binary64 0) epsilon) points epsilon samples text
Prints points Unknown text = text ≡ error 10
