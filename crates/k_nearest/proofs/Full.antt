-- How many a walk holds, over any tree at all: as many as it held and the part has entries, k at most. It passes over a node
-- only once k are held. By induction on the depth. Assumes nothing.
use mathlib.Core.Path.{◌≡◌, refl, subst, ap, ◌∙◌}
use mathlib.Core.List.{List, [], ◌∷◌, ◌++◌}
use mathlib.Core.Bool.{Bool, true, false, cond}
use Prim.Native.Nat.{ℕ, zero, suc, ◌+◌, ◌-◌, ◌/◌, ◌≤◌, ◌<◌, min}
use native.Mathlib.Omega.{arith}
use lib.Dec.{ltb}
use lib.ListN.{length, get_or, drop, length-append, length-take, length-drop}
use lib.Ieee.{lt}
use borrow.Author.Tests.{ltb-true, ltb-false}
use Rattle.distance.specs.Distance.{bound}
use Rattle.distance.specs.declared.Bounds.{Bounds}
use Rattle.distance.specs.declared.Coord.{Coord}
use Rattle.tree.specs.Node.{bounds, kind, mid, part}
use Rattle.tree.specs.Accepted.{Tree, count}
use Rattle.tree.specs.declared.Kind.{Kind}
use Rattle.tree.specs.declared.Kind.TheVariants.{Leaf, Branch, Damaged}
use Rattle.search.specs.Walk.{Search, Walk, damage, done, more, and_then, scan, visit, walk, walk_all, got, outcome}
use Rattle.search.specs.Order.{before, point}
use Rattle.search.specs.declared.Best.{Best}
use Rattle.search.proofs.Own.{After}
use Rattle.search.proofs.Whole.{part-is}
use Rattle.heap.specs.Heap.{heapify, settle, offer, blank}
use Rattle.heap.proofs.Each.{settle-size, heapify-size}
use Rattle.k_nearest.specs.Query.{over_top, holding}

pub offer-length : (k : ℕ) (s : List Best) (p : Best) → length s ≤ k → 0 < k → length (offer before blank k s p) ≡ min k (length s + 1)
offer-length k s p h o = go (ltb (length s) k) refl (ltb (length s + 1) k) refl (before p (get_or s 0 blank))
  where
    go : (a : Bool) → ltb (length s) k ≡ a → (b : Bool) → ltb (length s + 1) k ≡ b → (c : Bool)
        → length (cond a (cond b (s ++ p ∷ []) (heapify before blank k (k / 2) (s ++ p ∷ []))) (cond c (settle before blank k k s 0 p) s)) ≡ min k (length s + 1)
    go true e true f c = omega (arith, length-append s (p ∷ []), ltb-true (length s + 1) k f)
    go true e false f c = omega (arith, length-append s (p ∷ []), heapify-size before blank k (k / 2) (s ++ p ∷ []), ltb-true (length s) k e, ltb-false (length s + 1) k f)
    go false e b f true = omega (arith, settle-size before blank k k s 0 p, ltb-false (length s) k e)
    go false e b f false = omega (arith, ltb-false (length s) k e)

-- so many are held after c more entries, of which s were held before
abbrev Holds : ℕ → ℕ → ℕ → List Best → Type 0
Holds k s c z = length z ≡ min k (s + c)

holds_more : (k s c a b : ℕ) (w : Walk (List Best)) → After (Holds k s c) w → After (Holds k s c) (more a b w)
holds_more k s c a b damage h = tt
holds_more k s c a b (done z n d) h = h

holds_then : (k s c d : ℕ) (w : Walk (List Best)) (f : List Best → Walk (List Best)) → After (Holds k s c) w
    → ((z : List Best) → length z ≤ k → After (Holds k (length z) d) (f z)) → After (Holds k s (c + d)) (and_then w f)
holds_then k s c d damage f h g = tt
holds_then k s c d (done z n m) f h g = holds_more k s (c + d) n m (f z) (join (f z) (g z (omega arith)))
  where
    join : (w : Walk (List Best)) → After (Holds k (length z) d) w → After (Holds k s (c + d)) w
    join damage x = tt
    join (done y i j) x = omega arith

module _ (t : Tree) (q : Coord) (k : ℕ) (o : 0 < k) (room : count t ≤ length t.indices) where
  abbrev Q : Search (List Best)
  Q = holding k t.points q

  abbrev next : List Best → ℕ → List Best
  next = Q.next

  scan-holds : (l : List ℕ) (s : List Best) → length s ≤ k → After (Holds k (length s) (length l)) (scan (count t) next 1 s l)
  scan-holds [] s h = omega arith
  scan-holds (i ∷ is) s h = go (ltb i (count t)) (scan-holds is (next s i) (omega (arith, e)))
    where
      e : length (next s i) ≡ min k (length s + 1)
      e = offer-length k s (point t.points q i) h o

      go : (b : Bool) → After (Holds k (length (next s i)) (length is)) (scan (count t) next 1 (next s i) is)
          → After (Holds k (length s) (length (i ∷ is))) (cond b (more 0 1 (scan (count t) next 1 (next s i) is)) damage)
      go true h = holds_more k (length s) (length (i ∷ is)) 0 1 (scan (count t) next 1 (next s i) is) (up (scan (count t) next 1 (next s i) is) h)
        where
          up : (w : Walk (List Best)) → After (Holds k (length (next s i)) (length is)) w → After (Holds k (length s) (length (i ∷ is))) w
          up damage h = tt
          up (done z n d) h = omega (arith, e)
      go false h = tt

  part_length : (a e : ℕ) → a ≤ e → e ≤ count t → length (part t.indices a e) ≡ e - a
  part_length a e h g = ap length (part-is t.indices a e h (omega arith)) ∙ omega (arith, length-take (e - a) (drop a t.indices), length-drop a t.indices)

  unless : (s : List Best) (b : Bounds) (c : ℕ) (w : Walk (List Best)) → length s ≤ k → After (Holds k (length s) c) w → After (Holds k (length s) c) (cond (over_top k s (bound q b)) (done s 1 0) (more 1 0 w))
  unless s b c w h g = go (ltb (length s) k) refl (lt (get_or s 0 blank).d2 (bound q b))
    where
      go : (x : Bool) → ltb (length s) k ≡ x → (y : Bool) → After (Holds k (length s) c) (cond (cond x false y) (done s 1 0) (more 1 0 w))
      go true e y = holds_more k (length s) c 1 0 w g
      go false e true = omega (arith, ltb-false (length s) k e)
      go false e false = holds_more k (length s) c 1 0 w g

  pub walk-holds : (depth v a e : ℕ) → a ≤ e → e ≤ count t → (s : List Best) → length s ≤ k → After (Holds k (length s) (e - a)) (walk t (holding k t.points q) depth v a e s)
  unfolding walk
  walk-holds zero v a e h g s f = tt
  walk-holds (suc d) v a e h g s f = at (kind t.boxes t.links v a e) refl (walk-holds d)
    where
      at : (n : Kind) → kind t.boxes t.links v a e ≡ n → ((v a e : ℕ) → a ≤ e → e ≤ count t → (s : List Best) → length s ≤ k → After (Holds k (length s) (e - a)) (walk t Q d v a e s))
          → After (Holds k (length s) (e - a)) (visit t Q (walk t Q d) n v a e s)
      at Damaged x ih = tt
      at Leaf x ih =
          unless s (bounds t.boxes v) (e - a) (scan (count t) next 1 s (part t.indices a e)) f
          (subst (λ (c : ℕ). After (Holds k (length s) c) (scan (count t) next 1 s (part t.indices a e))) (part_length a e h g) (scan-holds (part t.indices a e) s f))
      at (Branch l r) x ih = unless s (bounds t.boxes v) (e - a) (two (Q.left_first (bounds t.boxes l) (bounds t.boxes r))) f (pick (Q.left_first (bounds t.boxes l) (bounds t.boxes r)))
        where
          two : Bool → Walk (List Best)
          two b = cond b (and_then (walk t Q d l a (mid a e) s) (walk t Q d r (mid a e) e)) (and_then (walk t Q d r (mid a e) e s) (walk t Q d l a (mid a e)))

          left : (z : List Best) → length z ≤ k → After (Holds k (length z) (mid a e - a)) (walk t Q d l a (mid a e) z)
          left = ih l a (mid a e) (omega arith) (omega arith)

          right : (z : List Best) → length z ≤ k → After (Holds k (length z) (e - mid a e)) (walk t Q d r (mid a e) e z)
          right = ih r (mid a e) e (omega arith) g

          sum : (a e : ℕ) → a ≤ e → (mid a e - a) + (e - mid a e) ≡ e - a
          sum a e h = omega arith

          other : (a e : ℕ) → a ≤ e → (e - mid a e) + (mid a e - a) ≡ e - a
          other a e h = omega arith

          pick : (b : Bool) → After (Holds k (length s) (e - a)) (two b)
          pick true = subst (λ (c : ℕ). After (Holds k (length s) c) (two true)) (sum a e h) (holds_then k (length s) (mid a e - a) (e - mid a e) (walk t Q d l a (mid a e) s) (walk t Q d r (mid a e) e) (left s f) right)
          pick false = subst (λ (c : ℕ). After (Holds k (length s) c) (two false)) (other a e h) (holds_then k (length s) (e - mid a e) (mid a e - a) (walk t Q d r (mid a e) e s) (walk t Q d l a (mid a e)) (right s f) left)

pub walk-full : (t : Tree) (q : Coord) (k : ℕ) → 0 < k → k ≤ count t → After (λ z. length z ≡ k) (walk_all t (holding k t.points q) [])
walk-full t q k o h = go (ltb (length t.indices) (count t)) refl
  where
    all : (w : Walk (List Best)) → After (λ z. length z ≡ min k (0 + (count t - 0))) w → After (λ z. length z ≡ k) w
    all damage x = tt
    all (done z n d) x = omega arith

    go : (b : Bool) → ltb (length t.indices) (count t) ≡ b → After (λ z. length z ≡ k) (cond b damage (walk t (holding k t.points q) (count t) 0 0 (count t) []))
    go true e = tt
    go false e = all (walk t (holding k t.points q) (count t) 0 0 (count t) []) (walk-holds t q k o (ltb-false (length t.indices) (count t) e) (count t) 0 0 (count t) (omega arith) (omega arith) [] (omega arith))

pub after-got : (P : List Best → Type 0) (w : Walk (List Best)) (s : List Best) → After P w → outcome w ≡ got s → P s
after-got P damage s h e = let z : ◌≡◌ {A = ℕ} 0 1 = cc in absurd (omega arith)
after-got P (done z n d) s h e = let g : z ≡ s = cc in subst P g h
