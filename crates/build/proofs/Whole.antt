-- The whole build: from the numbering on, the recursion leaves the built tree, and there is room for it. Assumes nothing.
use mathlib.Core.Path.{◌≡◌, refl, ap, ◌∙◌}
use mathlib.Core.List.{List, ◌++◌}
use Prim.Native.Nat.{ℕ, ◌<◌}
use native.Mathlib.Nat.{lt_irrefl}
use native.Mathlib.Omega.{arith}
use lib.ListN.{length, take, drop}
use lib.Seq.{take_at, drop_at}
use lib.Ieee.{Float}
use Rattle.tree.proofs.Counting.{leaf_of-pos, nodes-bound}
use Rattle.tree.specs.Accepted.{Tree, tree, count, times}
use Rattle.tree.specs.Count.{leaf_of, nodes}
use Rattle.tree.specs.Points.{size}
use Rattle.build.proofs.Numbering.{each_none, each_within, each-once}
use Rattle.build.specs.Built.{Each, needed, Built}
use Rattle.build.specs.Outcome.{Given}
use Rattle.build.specs.Steps.{Ready, Room, Raised}

module _ (points : List Float) (ls i b k : ℕ) (L : Given ls points i b k) where
  pub whole_ready : (xs : List ℕ) → Each (size points) xs → length xs ≡ size points → 0 < size points → Ready points xs
  whole_ready xs p e h = record {
    all_finite = L.usable.all_finite;
    limit = omega (arith, L.usable.in_limit);
    within = each_within (size points) xs p;
    once = each-once (size points) xs p;
    some = omega arith;
  }

  pub whole_room : (n : ℕ) → n ≡ size points → 0 < size points → Room (leaf_of ls) 0 0 n b k
  whole_room n e h =
      let q : nodes (leaf_of ls) n ≡ needed ls points = ap (nodes (leaf_of ls)) e in
      let z = nodes-bound (leaf_of ls) (size points) (leaf_of-pos ls) h in
      record {
        one = leaf_of-pos ls;
        floats = omega (arith, L.floats);
        numbers = omega (arith, L.numbers);
        node_fits = omega (arith, L.usable.in_limit);
        place_fits = omega (arith, L.usable.in_limit);
      }

-- from numbered indices xs, and what the recursion leaves of them
module _ (points : List Float) (ls : ℕ) (indices₀ xs part links₀ links : List ℕ) (boxes₀ boxes : List Float) (r : ℕ)
    (p : Each (size points) xs) (e : length xs ≡ size points) (f : length part ≡ size points)
    (G : Raised points (leaf_of ls) 0 0 xs boxes₀ links₀ part boxes links r) where
  made : r ≡ needed ls points
  made = G.number ∙ ap (nodes (leaf_of ls)) e

  front : take (size points) (part ++ drop (size points) indices₀) ≡ part
  front = take_at part (drop (size points) indices₀) (size points) f

  pub whole-done : Built ls (tree points indices₀ boxes₀ links₀) (tree points (part ++ drop (size points) indices₀) boxes links)
  whole-done = record {
    points = refl;
    each = λ v. ap (times v) front ∙ G.same.as_often v ∙ p v;
    root = λ h. rw (front, ← made) G.tree;
    indices_past = drop_at part (drop (size points) indices₀) (size points) f;
    boxes_past = rw (← made) G.boxes_rest;
    links_past = rw (← made) G.links_rest;
  }
