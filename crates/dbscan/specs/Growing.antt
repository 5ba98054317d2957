-- What the inner functions of `dbscan` ask of each other and leave, for n points, any mutual relation `near` of their
-- indices, and m samples. The promise of `dbscan` itself needs none of this. The work slice w has 2 n entries: a query's
-- hits in the first n, behind them the points that wait to be looked at, from h to t. The labels so far are l.
--   free l               how many labels are still noise
--   Waits w h t j        point j waits
--   State near n m i c w h t l   the cores below i have labels, c labels are in use, and what they are so far
--   Sizes n w l          the lengths
--   Between near n m i c w l     before point i is looked at: nothing waits
--   Growing near n m seed c w h t l   the cluster c of the core seed grows
--   Held, held w t l     the work slice, the end of what waits, the labels
--   claim seed c s k     point k takes the label c if it has none, and then waits; not where it is below the seed: it is
--                        no core, as all cores below the seed have labels
--   claim_all seed c s ks  so does each of ks
--   Filled near n i r out  the r neighbours of i, rising, stand in front of out
--   Claimable k w t l    k is a point, and can wait at t if it has no label
--   Searchable t e       a query may be asked over the tree t, with radius e
--   Asked, Visitable, Startable, Turnable, Runnable   what `neighbours`, `visit`, `expand`, `label` and `label_all` ask
--   Ran near n m w l     what `label_all` leaves: the labels, and the work slice all 0
--   Planted t₀ t         what `plant` leaves: the built tree, which is accepted
--   Roomy r c w t l      the first r of w are points, each that has no label can wait behind them, and c is a label
use Rattle.std.specs.Prelude.{◌≡◌, ◌⊎◌, Bool, cond, List, [], ◌∷◌, ℕ, suc, ◌+◌, ◌*◌, ◌≤◌, ◌<◌, T, eqb, ltb, length, get_or, set, take, replicate, Float}
use Rattle.std.specs.Float.{binary64}
use Rattle.std.specs.Float.Ieee.{of_bits, le}
use Rattle.tree.specs.Points.{limit}
use Rattle.tree.specs.Accepted.{Tree, count, Accepted}
use Rattle.build.specs.Built.{Built}
use Rattle.labels.specs.Labels.{noise, near, hits, Core, Chain, Labelled}

unfoldable pub free : List ℕ → ℕ
free [] = 0
free (x ∷ l) = cond (eqb x noise) 1 0 + free l

abbrev pub Waits : List ℕ → ℕ → ℕ → ℕ → Type 0
Waits w h t j = (x : ℕ) × (h ≤ x) × (x < t) × (get_or w x 0 ≡ j)

pub record State (near : ℕ → ℕ → Bool) (n m i c : ℕ) (w : List ℕ) (h t : ℕ) (l : List ℕ) : Type 0 where
  pub size : length l ≡ n
  pub few : c ≤ i
  pub top : (j : ℕ) → get_or l j noise ≤ noise
  pub low : (j : ℕ) → get_or l j noise < noise → get_or l j noise < c
  pub done : (j : ℕ) → Core near n m j → j < i → get_or l j noise < noise
  -- a core that has a label waits, or no neighbour of it has a higher label
  pub closed : (j k : ℕ) → Core near n m j → get_or l j noise < noise → k < n → T (near j k) → Waits w h t j ⊎ (get_or l k noise ≤ get_or l j noise)
  pub joined : (j k : ℕ) → Core near n m j → Core near n m k → get_or l j noise < noise → get_or l j noise ≡ get_or l k noise → Chain near n m j k
  pub rising : (j d : ℕ) → Core near n m j → get_or l j noise < noise → d < get_or l j noise → (k : ℕ) × Core near n m k × (k < j) × (get_or l k noise ≡ d)
  pub each : (d : ℕ) → d < c → (k : ℕ) × Core near n m k × (k < i) × (get_or l k noise ≡ d)
  pub border : (j : ℕ) → get_or l j noise < noise → (Core near n m j → ⊥) → (k : ℕ) × Core near n m k × T (near k j) × (get_or l k noise ≡ get_or l j noise)

pub record Sizes (n : ℕ) (w l : List ℕ) : Type 0 where
  pub labels : length l ≡ n
  pub work : length w ≡ 2 * n
  pub in_limit : n ≤ limit

pub record Between (near : ℕ → ℕ → Bool) (n m i c : ℕ) (w l : List ℕ) : Type 0 where
  pub sizes : Sizes n w l
  pub state : State near n m i c w n n l

pub record Growing (near : ℕ → ℕ → Bool) (n m seed c : ℕ) (w : List ℕ) (h t : ℕ) (l : List ℕ) : Type 0 where
  pub sizes : Sizes n w l
  pub seeded : seed < n
  pub inside : (x : ℕ) → h ≤ x → x < t → get_or w x 0 < n
  pub label : (x : ℕ) → h ≤ x → x < t → get_or l (get_or w x 0) noise ≡ c
  pub behind : n ≤ h
  pub order : h ≤ t
  pub room : t + free l ≤ 2 * n
  pub state : State near n m (suc seed) (suc c) w h t l

pub record Held : Type 0 where
  pub work : List ℕ
  pub tail : ℕ
  pub labels : List ℕ

abbrev pub held : List ℕ → ℕ → List ℕ → Held
held w t l = record { work = w; tail = t; labels = l }

unfoldable pub claim : ℕ → ℕ → Held → ℕ → Held
claim seed c s k =
    cond (eqb (get_or s.labels k noise) noise)
    (cond (ltb k seed)
    (held s.work s.tail (set s.labels k c))
    (held (set s.work s.tail k) (suc s.tail) (set s.labels k c)))
    s

unfoldable pub claim_all : ℕ → ℕ → Held → List ℕ → Held
claim_all seed c s [] = s
claim_all seed c s (k ∷ ks) = claim_all seed c (claim seed c s k) ks

pub record Filled (near : ℕ → ℕ → Bool) (n i r : ℕ) (out : List ℕ) : Type 0 where
  pub count : r ≡ length (hits (near i) n)
  pub front : take r out ≡ hits (near i) n

pub record Claimable (k : ℕ) (w : List ℕ) (t : ℕ) (l : List ℕ) : Type 0 where
  pub point : k < length l
  pub in_limit : length l ≤ limit
  pub room : get_or l k noise ≡ noise → t < length w

pub record Roomy (r c : ℕ) (w : List ℕ) (t : ℕ) (l : List ℕ) : Type 0 where
  pub front : r ≤ t
  pub points : (x : ℕ) → x < r → get_or w x 0 < length l
  pub in_limit : length l ≤ limit
  pub room : t + free l ≤ length w
  pub label : c < noise

pub record Searchable (t : Tree) (epsilon : Float) : Type 0 where
  pub accepted : Accepted t
  pub not_negative : T (le (of_bits binary64 0) epsilon)

pub record Asked (t : Tree) (epsilon : Float) (i : ℕ) (out : List ℕ) : Type 0 where
  pub search : Searchable t epsilon
  pub point : i < count t
  pub room : length out ≡ count t

pub record Visitable (t : Tree) (epsilon : Float) (m seed c : ℕ) (w : List ℕ) (h tail : ℕ) (l : List ℕ) : Type 0 where
  pub search : Searchable t epsilon
  pub growing : Growing (near t.points epsilon) (count t) m seed c w h tail l
  pub some : h < tail
  pub asked : 1 ≤ m

pub record Startable (t : Tree) (epsilon : Float) (m i c r : ℕ) (w l : List ℕ) : Type 0 where
  pub search : Searchable t epsilon
  pub between : Between (near t.points epsilon) (count t) m i c w l
  pub core : Core (near t.points epsilon) (count t) m i
  pub bare : get_or l i noise ≡ noise
  pub filled : Filled (near t.points epsilon) (count t) i r w

pub record Turnable (t : Tree) (epsilon : Float) (m i c : ℕ) (w l : List ℕ) : Type 0 where
  pub search : Searchable t epsilon
  pub between : Between (near t.points epsilon) (count t) m i c w l
  pub point : i < count t
  pub asked : 1 ≤ m

pub record Runnable (t : Tree) (epsilon : Float) (m : ℕ) (w l : List ℕ) : Type 0 where
  pub search : Searchable t epsilon
  pub sizes : Sizes (count t) w l
  pub asked : 1 ≤ m

pub record Ran (near : ℕ → ℕ → Bool) (n m : ℕ) (w l : List ℕ) : Type 0 where
  pub labels : Labelled near n m l
  pub cleared : w ≡ replicate (2 * n) 0

-- what the tree's slices hold once it is built
pub record Planted (t₀ t : Tree) : Type 0 where
  pub built : Built 16 t₀ t
  pub accepted : Accepted t
