-- The k nearest kept as a sorted list: a walk that passes over what is farther than the last of k held ends as the plain
-- scan. Insertion by rank may come in any order, and what is past a full list does not enter. Assumes nothing.
use mathlib.Core.Path.{◌≡◌, refl, sym, ap, ◌∙◌, subst}
use mathlib.Core.List.{List, [], ◌∷◌}
use mathlib.Core.Bool.{Bool, true, false, ◌||◌, ◌&&◌, cond}
use Prim.Native.Nat.{ℕ, ◌≤◌, ◌<◌}
use native.Mathlib.Nat.{le_trans, le_of_lt, le_refl}
use native.Mathlib.Omega.{arith}
use lib.Dec.{T, ltb}
use lib.ListN.{length, take, length-take}
use lib.Ieee.{Float, lt, eq}
use lib.Ieee.Scale.{finite}
use borrow.Author.Tests.{ltb-true, ltb-false}
use Rattle.distance.specs.Distance.{bound}
use Rattle.distance.specs.declared.Bounds.{Bounds}
use Rattle.distance.specs.declared.Coord.{Coord}
use Rattle.tree.specs.Points.{x, y}
use Rattle.tree.specs.Accepted.{Tree, count, Finite, Holds, Accepted}
use Rattle.search.specs.Walk.{Search}
use Rattle.search.specs.Order.{before, point, left_nearer}
use Rattle.search.specs.declared.Best.{Best}
use Rattle.search.proofs.Rank.{Good, rank, before-is, same_rank, point-good, far-point}
use Rattle.search.proofs.Whole.{Fair}
use Rattle.tree.proofs.Each.{Each, each_map, each_take}
use Rattle.tree.proofs.Insert.{ins, ins_comm, take-ins, each-ins, Sorted, sorted-take, sorted-ins, ins-past}
use Rattle.k_nearest.specs.Scan.{insert, keep}

abbrev pub last : Best → List Best → Best
last s [] = s
last s (p ∷ ps) = last p ps

-- d is above the last of k held
abbrev pub above : ℕ → List Best → Float → Bool
above k [] d = false
above k (s ∷ ss) d = cond (ltb (length (s ∷ ss)) k) false (lt (last s ss).d2 d)

-- the query with the sorted list for its state
abbrev pub keeping : ℕ → List Float → Coord → Search (List Best)
keeping k points q = record {
  skip = λ s b. above k s (bound q b);
  left_first = left_nearer q;
  next = keep k points q;
  whole = λ b. false;
  add = keep k points q;
}

pub record Held (k : ℕ) (s : List Best) : Type 0 where
  pub good : Each Good s
  pub sorted : Sorted rank s
  pub short : length s ≤ k

pub insert-is : (p : Best) (l : List Best) → Good p → Each Good l → insert p l ≡ ins rank p l
insert-is p [] g h = refl
insert-is p (s ∷ ss) g h =
    ap (λ (b : Bool). cond b (p ∷ s ∷ ss) (s ∷ insert p ss)) (before-is p s g h.0)
    ∙ ap (λ (l : List Best). cond (ltb (rank p) (rank s)) (p ∷ s ∷ ss) (s ∷ l)) (insert-is p ss g h.1)

-- the last is the greatest
pub to_last : (s : Best) (l : List Best) → Sorted rank (s ∷ l) → Each (λ x. rank x ≤ rank (last s l)) (s ∷ l)
to_last s [] h = (le_refl (rank s), tt)
to_last s (p ∷ ps) h = let k = to_last p ps h.1 in (le_trans h.0.0 k.0, k)

pub last-good : (s : Best) (l : List Best) → Each Good (s ∷ l) → Good (last s l)
last-good s [] h = h.0
last-good s (p ∷ ps) h = last-good p ps h.1

module _ (k : ℕ) (t : Tree) (q : Coord) (A : Accepted t) (QX : T (finite q.x)) (QY : T (finite q.y)) where
  abbrev pt : ℕ → Best
  pt i = point t.points q i

  abbrev next : List Best → ℕ → List Best
  next = keep k t.points q

  pub next-is : (s : List Best) (i : ℕ) → Each Good s → i < count t → next s i ≡ take k (ins rank (pt i) s)
  next-is s i g h = ap (λ (l : List Best). take k l) (insert-is (pt i) s (point-good t q A QX QY i h) g)

  pub stay : (s : List Best) (i : ℕ) → Held k s → i < count t → Held k (next s i)
  stay s i o h = subst (λ (l : List Best). Held k l) (sym (next-is s i o.good h)) (record {
    good = each_take Good k (ins rank (pt i) s) (each-ins rank Good (pt i) s (point-good t q A QX QY i h) o.good);
    sorted = sorted-take rank k (ins rank (pt i) s) (sorted-ins rank (pt i) s o.sorted);
    short = omega (arith, length-take k (ins rank (pt i) s));
  })

  two : (s : List Best) (i j : ℕ) → Held k s → i < count t → j < count t → next (next s i) j ≡ take k (ins rank (pt j) (ins rank (pt i) s))
  two s i j o h m =
      next-is (next s i) j (stay s i o h).good m
      ∙ ap (λ (l : List Best). take k (ins rank (pt j) l)) (next-is s i o.good h)
      ∙ take-ins rank k (pt j) (ins rank (pt i) s)

  pass : (s : List Best) (b : Bounds) (i : ℕ) → Held k s → i < count t → Finite b → Holds b (x t.points i) (y t.points i) → above k s (bound q b) ≡ true → next s i ≡ s
  pass [] b i o h f g p = absurd (subst T (sym p) tt)
  pass (s ∷ ss) b i o h f g p = go (ltb (length (s ∷ ss)) k) refl p
    where
      go : (z : Bool) → ltb (length (s ∷ ss)) k ≡ z → cond z false (lt (last s ss).d2 (bound q b)) ≡ true → next (s ∷ ss) i ≡ s ∷ ss
      go true e p = absurd (subst T (sym p) tt)
      go false e p =
          let far : lt (last s ss).d2 (pt i).d2 ≡ true = far-point t q A QX QY (last s ss).d2 b i h f g p in
          let less : before (last s ss) (pt i) ≡ true = ap (λ (c : Bool). c || (eq (last s ss).d2 (pt i).d2 && ltb (last s ss).index i)) far in
          let up : rank (last s ss) < rank (pt i) = ltb-true (rank (last s ss)) (rank (pt i)) (sym (before-is (last s ss) (pt i) (last-good s ss o.good) (point-good t q A QX QY i h)) ∙ less) in
          next-is (s ∷ ss) i o.good h
          ∙ ins-past rank k (pt i) (s ∷ ss) (ltb-false (length (s ∷ ss)) k e) o.short (each_map (s ∷ ss) (λ (z : Best) (m : rank z ≤ rank (last s ss)). le_trans m (le_of_lt up)) (to_last s ss o.sorted))

  pub keeping_fair : Fair t (keeping k t.points q) (Held k)
  keeping_fair = record {
    stays = stay;
    swaps = λ s i j o h m. two s i j o h m ∙ ap (λ (l : List Best). take k l) (ins_comm rank (pt j) (pt i) s (same_rank t q A QX QY j i m h)) ∙ sym (two s j i o m h);
    passes = pass;
    takes = λ s b i h f g p. refl;
  }
