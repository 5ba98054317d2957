-- The heap goes hand in hand with the sorted list: both hold the same, the heap's first is the list's last, and sorted the
-- heap is the list. So over an accepted tree its walk ends, sorted, as the plain scan. Assumes nothing.
use mathlib.Core.Path.{◌≡◌, refl, sym, ap, ◌∙◌, subst}
use mathlib.Core.List.{List, [], ◌∷◌}
use mathlib.Core.Bool.{Bool, true, false, cond}
use Prim.Native.Nat.{ℕ, ◌≤◌, ◌<◌}
use native.Mathlib.Omega.{arith}
use lib.Dec.{T, ltb}
use lib.ListN.{length, get_or, take}
use lib.Seq.{take_all}
use lib.Ieee.{Float, lt}
use lib.Ieee.Scale.{finite}
use borrow.Author.Tests.{lt-ltb, ltb-false}
use Rattle.distance.specs.Distance.{bound}
use Rattle.distance.specs.declared.Coord.{Coord}
use Rattle.tree.specs.Accepted.{Tree, count, Accepted, Grown}
use Rattle.search.specs.Walk.{Walk, damage, done, walk, walk_all, plain}
use Rattle.search.specs.Order.{before, point}
use Rattle.search.specs.declared.Best.{Best}
use Rattle.search.proofs.Whole.{Ends, walk-is-plain}
use Rattle.search.proofs.Rank.{Good, rank, before-is, point-good, rank-one}
use Rattle.tree.proofs.Each.{Each, each_at}
use Rattle.tree.proofs.Insert.{ins}
use Rattle.search.proofs.Alike.{Like, Alike, walk_alike}
use Rattle.heap.specs.Heap.{heap_sort, offer, blank}
use Rattle.tree.specs.Entries.{Same, ◌∈◌}
use Rattle.tree.proofs.Entries.{has_at, same_sym, from}
use Rattle.tree.proofs.Rising.{number, sort, sort-length, sort-same, each_in}
use Rattle.heap.proofs.Unload.{heap_sorts}
use Rattle.heap.proofs.Each.{heap_sort-size, heap_sort-each, offer-each}
use Rattle.heap.proofs.Image.{image, image-length, image-at, image-take, image-ins, image-one, heap_sort-image, offer-image}
use Rattle.heap.proofs.Least.{Least, top_in, offer_sorts, offer-least}
use Rattle.k_nearest.specs.Scan.{keep}
use Rattle.k_nearest.specs.Query.{over_top, holding, sorted}
use Rattle.k_nearest.proofs.Keep.{keeping, above, last, Held, next-is, stay, to_last, last-good, keeping_fair}

-- the heap s holds what the sorted list z holds
pub record Tied (k : ℕ) (s z : List Best) : Type 0 where
  pub good : Each Good s
  pub least : Least k (image rank s)
  pub sorted : sort (image rank s) ≡ image rank z
  pub held : Held k z

each-image : (P : ℕ → Type 0) (l : List Best) → Each (λ x. P (rank x)) l → Each P (image rank l)
each-image P [] h = tt
each-image P (x ∷ xs) h = (h.0, each-image P xs h.1)

last_in : (y : Best) (ys : List Best) → rank (last y ys) ∈ image rank (y ∷ ys)
last_in y [] = has_at (rank y ∷ []) 0 (omega arith)
last_in y (x ∷ xs) = let h = last_in x xs in omega arith

module _ (k : ℕ) (s z : List Best) (o : 0 < k) (I : Tied k s z) where
  pub tied_length : length s ≡ length z
  tied_length = sym (image-length rank s) ∙ sym (sort-length (image rank s)) ∙ ap length I.sorted ∙ image-length rank z

  same_entries : Same (image rank z) (image rank s)
  same_entries = subst (λ (l : List ℕ). Same l (image rank s)) I.sorted (sort-same (image rank s))

-- the first of a full heap is the last of the list
pub same-top : (k : ℕ) (s : List Best) (y : Best) (ys : List Best) → 0 < k → Tied k s (y ∷ ys) → k ≤ length s → get_or s 0 blank ≡ last y ys
same-top k s y ys o I f =
    let h : 0 < length (image rank s) = omega (arith, image-length rank s) in
    let a : rank (get_or s 0 blank) ≡ get_or (image rank s) 0 0 = sym (image-at rank s 0 blank (omega arith)) in
    let S = same_entries k s (y ∷ ys) o I in
    let up : get_or (image rank s) 0 0 ≤ rank (last y ys) = each_in (λ v. v ≤ rank (last y ys)) (image rank (y ∷ ys)) (each-image (λ v. v ≤ rank (last y ys)) (y ∷ ys) (to_last y ys I.held.sorted)) (get_or (image rank s) 0 0) (from (same_sym S) (get_or (image rank s) 0 0) (has_at (image rank s) 0 h)) in
    let down : rank (last y ys) ≤ get_or (image rank s) 0 0 = top_in k (image rank s) (omega (arith, I.least.short, image-length rank s)) (I.least.heap (omega (arith, image-length rank s))) (rank (last y ys)) (from S (rank (last y ys)) (last_in y ys)) in
    rank-one (get_or s 0 blank) (last y ys) (each_at Good s I.good 0 blank (omega arith)) (last-good y ys I.held.good) (omega arith)

pub skip-same : (k : ℕ) (s z : List Best) (d : Float) → 0 < k → Tied k s z → over_top k s d ≡ above k z d
skip-same k s [] d o I = rw (tied_length k s [] o I, lt-ltb 0 k o)
skip-same k s (y ∷ ys) d o I = rw (tied_length k s (y ∷ ys) o I) (go (ltb (length (y ∷ ys)) k) refl)
  where
    go : (b : Bool) → ltb (length (y ∷ ys)) k ≡ b → cond b false (lt (get_or s 0 blank).d2 d) ≡ cond b false (lt (last y ys).d2 d)
    go true e = refl
    go false e = ap (λ (p : Best). lt p.d2 d) (same-top k s y ys o I (omega (arith, tied_length k s (y ∷ ys) o I, ltb-false (length (y ∷ ys)) k e)))

pub tied_none : (k : ℕ) → 0 < k → Tied k [] []
tied_none k o = record { good = tt; least = record { short = omega arith; heap = λ h. absurd (omega arith) }; sorted = refl; held = record { good = tt; sorted = tt; short = omega arith } }

module _ (k : ℕ) (t : Tree) (q : Coord) (A : Accepted t) (QX : T (finite q.x)) (QY : T (finite q.y)) (o : 0 < k) where
  abbrev pt : ℕ → Best
  pt i = point t.points q i

  tied_next : (s z : List Best) (i : ℕ) → Tied k s z → i < count t → Tied k (offer before blank k s (pt i)) (keep k t.points q z i)
  tied_next s z i I h =
      let G = point-good t q A QX QY i h in
      let im : image rank (offer before blank k s (pt i)) ≡ offer ltb 0 k (image rank s) (rank (pt i)) = offer-image before blank rank Good before-is k s (pt i) o I.good G in
      record {
        good = offer-each before blank Good k s (pt i) o I.good G;
        least = subst (Least k) (sym im) (offer-least k (image rank s) (rank (pt i)) o I.least);
        sorted =
            ap sort im
            ∙ offer_sorts k (image rank s) (rank (pt i)) o I.least
            ∙ ap (λ (l : List ℕ). take k (ins number (rank (pt i)) l)) I.sorted
            ∙ ap (take k) (sym (image-ins rank (pt i) z))
            ∙ sym (image-take rank k (ins rank (pt i) z))
            ∙ ap (image rank) (sym (next-is k t q A QX QY z i I.held.good h));
        held = stay k t q A QX QY z i I.held h;
      }

  pub holding_like : Like (count t) (holding k t.points q) (keeping k t.points q) (Tied k)
  holding_like = record { same_skip = λ s z b I. skip-same k s z (bound q b) o I; same_first = λ l r. refl; both_next = tied_next; same_whole = λ b. refl; both_add = tied_next }

-- sorted, the heap is the list
pub tied_sorted : (k : ℕ) (s z : List Best) → 0 < k → Tied k s z → sorted s ≡ z
tied_sorted k s z o I =
    let n = length s in
    let x = heap_sort before blank n s in
    let l = image rank s in
    let f : length l ≡ n = image-length rank s in
    let e : image rank x ≡ heap_sort ltb 0 n l = heap_sort-image before blank rank Good before-is n s (omega arith) I.good in
    let g : length (heap_sort ltb 0 n l) ≡ n = heap_sort-size ltb 0 n l ∙ f in
    image-one rank Good rank-one x z (heap_sort-each before blank Good n s (omega arith) I.good) I.held.good
    (e
    ∙ sym (take_all n (heap_sort ltb 0 n l) (omega arith))
    ∙ (heap_sorts n l (omega arith)).0
    ∙ ap sort (take_all n l (omega arith))
    ∙ I.sorted)

-- ---- over an accepted tree the heap's walk ends tied to the plain scan's list
abbrev pub Ended : ℕ → List Best → Walk (List Best) → Type 0
Ended k g damage = ⊥
Ended k g (done s n d) = Tied k s g

join : (k : ℕ) (g : List Best) (w u : Walk (List Best)) → Alike (Tied k) w u → Ends g u → Ended k g w
join k g damage damage a e = e
join k g (done s n d) (done z m f) a e = subst (λ (l : List Best). Tied k s l) e a
join k g damage (done z m f) a e = elim a [ ]
join k g (done s n d) damage a e = elim a [ ]

pub knn_ends : (k : ℕ) (t : Tree) (q : Coord) → Accepted t → Grown t → T (finite q.x) → T (finite q.y) → 0 < k → Ended k (plain (keep k t.points q) [] (count t)) (walk_all t (holding k t.points q) [])
knn_ends k t q A G QX QY o =
    join k (plain (keep k t.points q) [] (count t)) (walk_all t (holding k t.points q) []) (walk_all t (keeping k t.points q) []) (both (ltb (length t.indices) (count t)))
    (walk-is-plain t (keeping k t.points q) (Held k) (keeping_fair k t q A QX QY) G [] (tied_none k o).held)
  where
    both : (b : Bool) → Alike (Tied k) (cond b damage (walk t (holding k t.points q) (count t) 0 0 (count t) [])) (cond b damage (walk t (keeping k t.points q) (count t) 0 0 (count t) []))
    both true = tt
    both false = walk_alike (Tied k) t (holding k t.points q) (keeping k t.points q) (holding_like k t q A QX QY o) (count t) 0 0 (count t) [] [] (tied_none k o)
