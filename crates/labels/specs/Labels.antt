-- Labels by density, after Ester, Kriegel, Sander and Xu. Points are records: two at one place count twice.
--   noise                the label of a point in no cluster
--   near points e i j    point j is a neighbour of point i: d2 <= e * e, rounded once
--   hits pass k          the numbers below k that pass, rising
-- and for n points, any relation `near` of their indices, and m samples:
--   Core near n m i      point i is a core: it has at least m neighbours, itself among them, and m is not 0
--   Chain near n m i j   cores from i to j, each a neighbour of the one before
--   Border near n m l i  what a point that is no core has in l: the least label among its core neighbours; with none, noise
--   Labelled near n m l  l is the list of labels
-- Where m is 0 or above n there is no core, and so all is noise.
use Rattle.std.specs.Prelude.{◌≡◌, Bool, cond, List, [], ◌∷◌, ◌++◌, ℕ, zero, suc, ◌≤◌, ◌<◌, T, length, get_or, Float}
use Rattle.std.specs.Float.Ieee.{le}
use Rattle.distance.specs.Distance.{sq, d2}
use Rattle.tree.specs.Points.{x, y}

abbrev pub noise : ℕ
noise = 4_294_967_295

unfoldable pub near : List Float → Float → ℕ → ℕ → Bool
near points epsilon i j = le (d2 (x points i) (y points i) (x points j) (y points j)) (sq epsilon)

unfoldable pub hits : (ℕ → Bool) → ℕ → List ℕ
hits pass zero = []
hits pass (suc k) = hits pass k ++ cond (pass k) (k ∷ []) []

module _ (near : ℕ → ℕ → Bool) (n m : ℕ) where
  pub record Core (i : ℕ) : Type 0 where
    pub inside : i < n
    pub asked : 1 ≤ m
    pub many : m ≤ length (hits (near i) n)

  pub data Chain : ℕ → ℕ → Type 0 where
    here : {i : ℕ} → Core i → Chain i i
    on : {i j k : ℕ} → Chain i j → T (near j k) → Core k → Chain i k

  pub data Border (labels : List ℕ) (i : ℕ) : Type 0 where
    claimed : (j : ℕ) → Core j → T (near i j) → get_or labels i noise ≡ get_or labels j noise
        → ((k : ℕ) → Core k → T (near i k) → get_or labels i noise ≤ get_or labels k noise)
        → Border labels i
    alone : ((k : ℕ) → Core k → T (near i k) → ⊥) → get_or labels i noise ≡ noise → Border labels i

  pub record Labelled (labels : List ℕ) : Type 0 where
    pub count : length labels ≡ n
    -- cores share a label exactly when a chain joins them
    pub shared : (i j : ℕ) → Core i → Core j → Chain i j → get_or labels i noise ≡ get_or labels j noise
    pub joined : (i j : ℕ) → Core i → Core j → get_or labels i noise ≡ get_or labels j noise → Chain i j
    -- they run 0, 1, 2 .. by rising least core: each label below a core's own has a core before that core
    pub rising : (i c : ℕ) → Core i → c < get_or labels i noise → (j : ℕ) × Core j × (j < i) × (get_or labels j noise ≡ c)
    pub border : (i : ℕ) → i < n → (Core i → ⊥) → Border labels i
