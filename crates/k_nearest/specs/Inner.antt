-- What the contracts of the inner functions cite: the heap of a walk, read from the two slices that it is in.
--   heap_of held is ds   the points held: the first entries of an index slice and of a slice of squared distances
--   Lent                 what a walk leaves as it is: how many the slices have room for, and which slices they are
use Rattle.std.specs.Prelude.{List, ℕ, take, Float}
use Rattle.search.specs.declared.Best.{Best}
use Rattle.heap.specs.Heap.{pairs}

abbrev pub heap_of : ℕ → List ℕ → List Float → List Best
heap_of held is ds = take held (pairs is ds)

pub record Lent : Type 0 where
  pub k : ℕ
  pub indices : ℕ
  pub d2s : ℕ
