-- A tree that is built is accepted: its nodes, read where they stand in the whole slices, cover what the halving calls for,
-- and a box that is tight by totalOrder holds its points by the order of numbers. By induction on the subtree.
-- Assumes nothing.
use mathlib.Core.Path.{◌≡◌, refl, sym, ap, ◌∙◌, subst}
use mathlib.Core.Logic.{◌⊎◌, inl, inr}
use mathlib.Core.Bool.{Bool, true, false, not, cond}
use mathlib.Core.List.{List, [], ◌∷◌, ◌++◌, append_assoc, append-nil}
use Prim.Native.Nat.{ℕ, zero, suc, ◌*◌, ◌+◌, ◌≤◌, ◌<◌, ◌-◌, ◌/◌}
use native.Mathlib.Nat.{lt_irrefl}
use native.Mathlib.Omega.{arith}
use lib.ListN.{get_or, length, take, drop, length-take, take-append-drop, length-append, get_or-append}
use lib.Seq.{get_or-append-add, get_or-take}
use lib.Dec.{T, lit<}
use lib.Ieee.{Float, nan, binary64, le, fits}
use lib.Ieee.Scale.{finite}
use borrow.Author.Tests.{lt-ltb, eq-eqb, le-leb}
use Rattle.distance.proofs.Order.{lt-is_not_le}
use Rattle.distance.proofs.TotalKey.{key-lt}
use Rattle.distance.specs.TotalOrder.{key}
use Rattle.tree.proofs.ChildNumbers.{some-some}
use Rattle.tree.proofs.Counting.{leaf_of-pos, nodes-leaf, nodes-branch}
use Rattle.tree.specs.Accepted.{Tree, count, times, Holds, Boxed, Sound, leaf, branch, Grown, Accepted}
use Rattle.tree.specs.Count.{leaf_of, nodes}
use Rattle.tree.specs.declared.Kind.{Kind}
use Rattle.tree.specs.declared.Kind.TheVariants.{Branch, Damaged}
use Rattle.tree.specs.Node.{bounds, children, kind}
use Rattle.tree.specs.Points.{size, x, y, AllFinite, Usable}
use Rattle.select.proofs.Ranks.{finite_number}
use Rattle.tree.proofs.Entries.{times_append, has_at}
use Rattle.select.specs.Order.{coord}
use Rattle.tree.specs.Entries.{◌∈◌, Within}
use Rattle.build.proofs.Boxes.{coord-x}
use Rattle.build.proofs.Numbering.{each_within, each-length}
use Rattle.build.specs.Agree.{Held}
use Rattle.build.specs.Built.{Tight, Box, BranchNode, Subtree, a_leaf, a_branch, Each, needed, Built}

-- ---- keys in order are numbers in order
key-le : (x y : Float) → T (finite x) → T (finite y) → T (fits binary64 x) → T (fits binary64 y) → key x ≤ key y → T (le x y)
key-le x y X Y p q h = go (le x y) refl
  where
    go : (b : Bool) → le x y ≡ b → T b
    go true e = tt
    go false e = lt_irrefl (key y) (omega (arith, key-lt y x Y X q p (subst T (sym (lt-is_not_le y x (finite_number y Y) (finite_number x X) ∙ ap not e)) tt)))

-- ---- a node as it is read
node_kind : (boxes : List Float) (links : List ℕ) (v a e l r : ℕ) → v * 6 + 6 ≤ length boxes → v * 4 + 4 ≤ length links
    → get_or links (v * 4) 0 ≡ a → get_or links (v * 4 + 1) 0 ≡ e → get_or links (v * 4 + 2) 0 ≡ l → get_or links (v * 4 + 3) 0 ≡ r
    → kind boxes links v a e ≡ children (e - a) l r
node_kind boxes links v a e l r wb wl A E L R = rw (le-leb (v * 6 + 6) (length boxes) wb, le-leb (v * 4 + 4) (length links) wl, eq-eqb (get_or links (v * 4) 0) a A, eq-eqb (get_or links (v * 4 + 1) 0) e E, L, R) refl

two-children : (c l r : ℕ) → 1 < c → 0 < l → 0 < r → children c l r ≡ Branch l r
two-children c l r h p q =
    some-some c l r (λ (e : l ≡ 0). lt_irrefl 0 (omega arith)) (λ (e : r ≡ 0). lt_irrefl 0 (omega arith))
    ∙ ap (λ (b : Bool). cond {A = Kind} b (Branch l r) Damaged) (lt-ltb 1 c h)

-- ---- reading a list that stands inside another
look : {A : Type 0} (d : A) (a b : List A) (m n : ℕ) → length a ≡ m → get_or (a ++ b) (m + n) d ≡ get_or b n d
look d a b m n e = subst (λ (k : ℕ). get_or (a ++ b) (k + n) d ≡ get_or b n d) e (get_or-append-add a b n d)

look_in : {A : Type 0} (d : A) (a b c : List A) (m n : ℕ) → length a ≡ m → n < length b → get_or (a ++ (b ++ c)) (m + n) d ≡ get_or b n d
look_in d a b c m n e h = look d a (b ++ c) m n e ∙ get_or-append b c d n h

-- the lists of a subtree stand in the slices of t: its part at start, its floats and numbers at node
record Stands (t : Tree) (node start : ℕ) (part : List ℕ) (bs : List Float) (ks : List ℕ) : Type 0 where
  ai : List ℕ
  zi : List ℕ
  ab : List Float
  zb : List Float
  ak : List ℕ
  zk : List ℕ
  indices : t.indices ≡ ai ++ (part ++ zi)
  at_start : length ai ≡ start
  boxes : t.boxes ≡ ab ++ (bs ++ zb)
  at_box : length ab ≡ node * 6
  links : t.links ≡ ak ++ (ks ++ zk)
  at_link : length ak ≡ node * 4

module _ (t : Tree) (node start : ℕ) (part : List ℕ) (bs : List Float) (ks : List ℕ) (S : Stands t node start part bs ks) where
  index_at : (k : ℕ) → k < length part → get_or t.indices (start + k) 0 ≡ get_or part k 0
  index_at k h = ap (λ (z : List ℕ). get_or z (start + k) 0) S.indices ∙ look_in 0 S.ai part S.zi start k S.at_start h

  float_at : (k : ℕ) → k < length bs → get_or t.boxes (node * 6 + k) nan ≡ get_or bs k nan
  float_at k h = ap (λ (z : List Float). get_or z (node * 6 + k) nan) S.boxes ∙ look_in nan S.ab bs S.zb (node * 6) k S.at_box h

  link_at : (k : ℕ) → k < length ks → get_or t.links (node * 4 + k) 0 ≡ get_or ks k 0
  link_at k h = ap (λ (z : List ℕ). get_or z (node * 4 + k) 0) S.links ∙ look_in 0 S.ak ks S.zk (node * 4) k S.at_link h

  boxes_in : node * 6 + length bs ≤ length t.boxes
  boxes_in = omega (arith, ap length S.boxes, length-append S.ab (bs ++ S.zb), length-append bs S.zb, S.at_box)

  links_in : node * 4 + length ks ≤ length t.links
  links_in = omega (arith, ap length S.links, length-append S.ak (ks ++ S.zk), length-append ks S.zk, S.at_link)

-- ---- boxes
module _ (t : Tree) (P : AllFinite t.points) (H : Held t.points) where
  module _ (axis : ℕ) (a : axis < 2) (part : List ℕ) (W : Within (size t.points) part) (lo hi : Float) (tight : Tight t.points axis part lo hi) where
    inside : (v : ℕ) → v ∈ part → 2 * v + axis < length t.points
    inside v h = omega (arith, W v h)

    fine : (v : ℕ) → v ∈ part → T (finite (coord t.points axis v))
    fine v h = P (2 * v + axis) (inside v h)

    fit : (v : ℕ) → v ∈ part → T (fits binary64 (coord t.points axis v))
    fit v h = H (2 * v + axis) (inside v h)

    low_fine : T (finite lo)
    low_fine = subst (λ (z : Float). T (finite z)) (sym tight.low_is) (fine tight.low tight.low_in)

    high_fine : T (finite hi)
    high_fine = subst (λ (z : Float). T (finite z)) (sym tight.high_is) (fine tight.high tight.high_in)

    above : (v : ℕ) → v ∈ part → T (le lo (coord t.points axis v))
    above v h =
        let low = tight.low in
        subst (λ (z : Float). T (le z (coord t.points axis v))) (sym tight.low_is)
        (key-le (coord t.points axis low) (coord t.points axis v) (fine low tight.low_in) (fine v h) (fit low tight.low_in) (fit v h) (omega (arith, ap key tight.low_is, tight.least v h)))

    below : (v : ℕ) → v ∈ part → T (le (coord t.points axis v) hi)
    below v h =
        let high = tight.high in
        subst (λ (z : Float). T (le (coord t.points axis v) z)) (sym tight.high_is)
        (key-le (coord t.points axis v) (coord t.points axis high) (fine v h) (fine high tight.high_in) (fit v h) (fit high tight.high_in) (omega (arith, ap key tight.high_is, tight.greatest v h)))

  -- a node whose box is tight is boxed
  module _ (node start : ℕ) (part : List ℕ) (bs : List Float) (ks : List ℕ) (S : Stands t node start part bs ks) (some : 0 < length part) (W : Within (size t.points) part)
      (X : Tight t.points 0 part (get_or t.boxes (node * 6 + 2) nan) (get_or t.boxes (node * 6 + 3) nan))
      (Y : Tight t.points 1 part (get_or t.boxes (node * 6 + 4) nan) (get_or t.boxes (node * 6 + 5) nan)) where
    holds_in : (v : ℕ) → v ∈ part → Holds (bounds t.boxes node) (x t.points v) (y t.points v)
    holds_in v h = record {
      above_x = subst (λ (z : Float). T (le (get_or t.boxes (node * 6 + 2) nan) z)) (sym (coord-x t.points v)) (above 0 (lit< tt) part W _ _ X v h);
      below_x = subst (λ (z : Float). T (le z (get_or t.boxes (node * 6 + 3) nan))) (sym (coord-x t.points v)) (below 0 (lit< tt) part W _ _ X v h);
      above_y = above 1 (lit< tt) part W _ _ Y v h;
      below_y = below 1 (lit< tt) part W _ _ Y v h;
    }

    holds_at : (k j : ℕ) → k ≡ start + j → j < length part → Holds (bounds t.boxes node) (x t.points (get_or t.indices k 0)) (y t.points (get_or t.indices k 0))
    holds_at k j e h = rw (e, index_at t node start part bs ks S j h) (holds_in (get_or part j 0) (has_at part j h))

    boxed : Boxed t (bounds t.boxes node) start (start + length part)
    boxed = record {
      some = omega arith;
      closed = record {
        min_x = low_fine 0 (lit< tt) part W _ _ X;
        max_x = high_fine 0 (lit< tt) part W _ _ X;
        min_y = low_fine 1 (lit< tt) part W _ _ Y;
        max_y = high_fine 1 (lit< tt) part W _ _ Y;
      };
      holds = λ k g h. holds_at k (k - start) (omega arith) (omega arith);
    }

  -- the same from the floats of its own
  boxed_own : (node start : ℕ) (part : List ℕ) (bs : List Float) (ks : List ℕ) → Stands t node start part bs ks → 0 < length part → Within (size t.points) part
      → (own more : List Float) → bs ≡ own ++ more → Box t.points part own → Boxed t (bounds t.boxes node) start (start + length part)
  boxed_own node start part bs ks S some W own more e B =
      boxed node start part bs ks S some W (rw (own_at 2 (lit< tt), own_at 3 (lit< tt)) B.x) (rw (own_at 4 (lit< tt), own_at 5 (lit< tt)) B.y)
    where
      long : length bs ≡ length own + length more
      long = ap length e ∙ length-append own more

      own_at : (k : ℕ) → k < 6 → get_or t.boxes (node * 6 + k) nan ≡ get_or own k nan
      own_at k h = float_at t node start part bs ks S k (omega (arith, long, B.six)) ∙ ap (λ (z : List Float). get_or z k nan) e ∙ get_or-append own more nan k (omega (arith, B.six))

-- ---- sizes
built-size : (points : List Float) (most : ℕ) → 0 < most → {node start : ℕ} {part : List ℕ} {boxes : List Float} {links : List ℕ} → Subtree points most node start part boxes links
    → (0 < length part) × ((length boxes ≡ 6 * nodes most (length part)) × (length links ≡ 4 * nodes most (length part)))
built-size points most one {part = part} (a_leaf a) =
    let n = nodes-leaf most (length part) a.some a.few in
    (a.some, (omega (arith, a.box.six), omega (arith, ap length a.numbers)))
built-size points most one {part = part} (a_branch l r own lb rb ll rl h s t) =
    let S = built-size points most one s in
    let U = built-size points most one t in
    let n = nodes-branch most (length part) one h.many in
    let g : length r ≡ length part - length part / 2 = omega (arith, ap length h.parts, length-append l r, h.half) in
    let x = ap (nodes most) h.half in
    let y = ap (nodes most) g in
    (omega (arith, h.many), (omega (arith, ap length h.floats, length-append own (lb ++ rb), length-append lb rb, h.box.six, S.1.0, U.1.0), omega (arith, ap length h.numbers, length-append ll rl, S.1.1, U.1.1)))

-- ---- the two subtrees of a branch stand where their parent does
module _ (t : Tree) (points : List Float) (size-of-leaf node start : ℕ) (part l r : List ℕ) (bs own lb rb : List Float) (ks kl kr : List ℕ)
    (S : Stands t node start part bs ks) (h : BranchNode points size-of-leaf node start part bs ks l r own lb rb kl kr) where
  abbrev other : ℕ
  other = node + 1 + nodes size-of-leaf (length l)

  abbrev row : List ℕ
  row = start ∷ (start + length part) ∷ (node + 1) ∷ other ∷ []

  parts : t.indices ≡ S.ai ++ ((l ++ r) ++ S.zi)
  parts = S.indices ∙ ap (λ (z : List ℕ). S.ai ++ (z ++ S.zi)) h.parts

  floats : t.boxes ≡ S.ab ++ ((own ++ (lb ++ rb)) ++ S.zb)
  floats = S.boxes ∙ ap (λ (z : List Float). S.ab ++ (z ++ S.zb)) h.floats

  numbers : t.links ≡ S.ak ++ ((row ++ (kl ++ kr)) ++ S.zk)
  numbers = S.links ∙ ap (λ (z : List ℕ). S.ak ++ (z ++ S.zk)) h.numbers

  left-stands : Stands t (node + 1) start l lb kl
  left-stands = record {
    ai = S.ai;
    zi = r ++ S.zi;
    ab = S.ab ++ own;
    zb = rb ++ S.zb;
    ak = S.ak ++ row;
    zk = kr ++ S.zk;
    indices = parts ∙ simp append_assoc;
    at_start = S.at_start;
    boxes = floats ∙ simp append_assoc;
    at_box = length-append S.ab own ∙ omega (arith, S.at_box, h.box.six);
    links = numbers ∙ simp append_assoc;
    at_link = length-append S.ak row ∙ omega (arith, S.at_link);
  }

  right-stands : length lb ≡ 6 * nodes size-of-leaf (length l) → length kl ≡ 4 * nodes size-of-leaf (length l) → Stands t other (start + length l) r rb kr
  right-stands e f = record {
    ai = S.ai ++ l;
    zi = S.zi;
    ab = (S.ab ++ own) ++ lb;
    zb = S.zb;
    ak = (S.ak ++ row) ++ kl;
    zk = S.zk;
    indices = parts ∙ simp append_assoc;
    at_start = length-append S.ai l ∙ omega (arith, S.at_start);
    boxes = floats ∙ simp append_assoc;
    at_box = length-append (S.ab ++ own) lb ∙ omega (arith, length-append S.ab own, S.at_box, h.box.six);
    links = numbers ∙ simp append_assoc;
    at_link = length-append (S.ak ++ row) kl ∙ omega (arith, length-append S.ak row, S.at_link);
  }

-- ---- a subtree is sound
first_link : (t : Tree) (node start : ℕ) (part : List ℕ) (bs : List Float) (ks : List ℕ) → Stands t node start part bs ks → 0 < length ks → get_or t.links (node * 4) 0 ≡ get_or ks 0 0
first_link t node start part bs ks S h = ap (λ (k : ℕ). get_or t.links k 0) (omega arith) ∙ link_at t node start part bs ks S 0 h

-- the node whose row of numbers comes first
row-kind : (t : Tree) (node start : ℕ) (part : List ℕ) (bs : List Float) (ks : List ℕ) → Stands t node start part bs ks → 6 ≤ length bs
    → (a e l r : ℕ) (more : List ℕ) → ks ≡ a ∷ e ∷ l ∷ r ∷ more → kind t.boxes t.links node a e ≡ children (e - a) l r
row-kind t node start part bs ks S six a e l r more q =
    let n : length ks ≡ 4 + length more = ap length q ∙ omega arith in
    node_kind t.boxes t.links node a e l r
    (omega (arith, boxes_in t node start part bs ks S)) (omega (arith, links_in t node start part bs ks S))
    (first_link t node start part bs ks S (omega arith) ∙ ap (λ (z : List ℕ). get_or z 0 0) q)
    (link_at t node start part bs ks S 1 (omega arith) ∙ ap (λ (z : List ℕ). get_or z 1 0) q)
    (link_at t node start part bs ks S 2 (omega arith) ∙ ap (λ (z : List ℕ). get_or z 2 0) q)
    (link_at t node start part bs ks S 3 (omega arith) ∙ ap (λ (z : List ℕ). get_or z 3 0) q)

module _ (t : Tree) (P : AllFinite t.points) (H : Held t.points) (most : ℕ) (one : 0 < most) where
  sound : {node start : ℕ} {part : List ℕ} {bs : List Float} {ks : List ℕ} → Subtree t.points most node start part bs ks → Stands t node start part bs ks
      → Within (size t.points) part → Sound t node start (start + length part)
  sound {node = node} {start = start} {part = part} {bs = bs} {ks = ks} (a_leaf a) S W =
      leaf (boxed_own t P H node start part bs ks S a.some W bs [] (sym (append-nil bs)) a.box)
      (row-kind t node start part bs ks S (omega (arith, a.box.six)) start (start + length part) 0 0 [] a.numbers)
  sound {node = node} {start = start} {part = part} {bs = bs} {ks = ks} (a_branch l r own lb rb kl kr h p q) S W =
      let z = built-size t.points most one p in
      let n = node + 1 + nodes most (length l) in
      let c : start + length part - start ≡ length part = omega arith in
      let m : start + (start + length part - start) / 2 ≡ start + length l = omega (arith, h.half) in
      let w : start + length part ≡ start + length l + length r = omega (arith, ap length h.parts, length-append l r) in
      let in-part : (v : ℕ) → times v part ≡ times v l + times v r = λ v. ap (times v) h.parts ∙ times_append v l r in
      let six : 6 ≤ length bs = omega (arith, ap length h.floats, length-append own (lb ++ rb), h.box.six) in
      branch (node + 1) n
      (boxed_own t P H node start part bs ks S (omega (arith, h.many)) W own (lb ++ rb) h.floats h.box)
      (row-kind t node start part bs ks S six start (start + length part) (node + 1) n (kl ++ kr) h.numbers
      ∙ two-children (start + length part - start) (node + 1) n (omega (arith, h.many)) (omega arith) (omega arith))
      (rw m (sound p (left-stands t t.points most node start part l r bs own lb rb ks kl kr S h) (λ v k. W v (omega (arith, in-part v)))))
      (rw (m, w) (sound q (right-stands t t.points most node start part l r bs own lb rb ks kl kr S h z.1.0 z.1.1) (λ v k. W v (omega (arith, in-part v)))))

-- ---- a whole tree
module _ (ls : ℕ) (t : Tree) (H : Held t.points) (U : Usable t.points) (each : Each (count t) (take (count t) t.indices)) (some : 0 < count t)
    (root : Subtree t.points (leaf_of ls) 0 0 (take (count t) t.indices) (take (6 * needed ls t.points) t.boxes) (take (4 * needed ls t.points) t.links)) where
  long : length (take (count t) t.indices) ≡ count t
  long = each-length (count t) (take (count t) t.indices) each

  stands : Stands t 0 0 (take (count t) t.indices) (take (6 * needed ls t.points) t.boxes) (take (4 * needed ls t.points) t.links)
  stands = record {
    ai = [];
    zi = drop (count t) t.indices;
    ab = [];
    zb = drop (6 * needed ls t.points) t.boxes;
    ak = [];
    zk = drop (4 * needed ls t.points) t.links;
    indices = sym (take-append-drop (count t) t.indices);
    at_start = refl;
    boxes = sym (take-append-drop (6 * needed ls t.points) t.boxes);
    at_box = refl;
    links = sym (take-append-drop (4 * needed ls t.points) t.links);
    at_link = refl;
  }

  grown : Grown t
  grown = record {
    room = omega (arith, long, length-take (count t) t.indices);
    below = λ k h. subst (λ (z : ℕ). z < count t) (get_or-take (count t) t.indices k 0 h)
        (each_within (count t) (take (count t) t.indices) each (get_or (take (count t) t.indices) k 0) (has_at (take (count t) t.indices) k (omega (arith, long))));
    once = λ i h. each i ∙ ap (λ (b : Bool). cond {A = ℕ} b 1 0) (lt-ltb i (count t) h);
    root = subst (Sound t 0 0) long' (sound t U.all_finite H (leaf_of ls) (leaf_of-pos ls) root stands (each_within (count t) (take (count t) t.indices) each));
  }
    where
      long' : 0 + length (take (count t) t.indices) ≡ count t
      long' = omega (arith, long)

accepted_as : (ls : ℕ) (t : Tree) → Held t.points → Usable t.points → Each (count t) (take (count t) t.indices)
    → (0 < count t → Subtree t.points (leaf_of ls) 0 0 (take (count t) t.indices) (take (6 * needed ls t.points) t.boxes) (take (4 * needed ls t.points) t.links))
    → Accepted t
accepted_as ls t H U each root = record { even = U.even; in_limit = U.in_limit; all_finite = U.all_finite; tree = go (count t) refl }
  where
    go : (n : ℕ) → count t ≡ n → (count t ≡ 0) ⊎ Grown t
    go zero e = inl e
    go (suc n) e = inr (grown ls t H U each (omega arith) (root (omega arith)))

pub accepted_of_built : (ls : ℕ) (t₀ t : Tree) → Held t₀.points → Usable t₀.points → Built ls t₀ t → Accepted t
accepted_of_built ls t₀ t H U b = go t b.points b.each b.root
  where
    go : (u : Tree) → u.points ≡ t₀.points → Each (count t₀) (take (count t₀) u.indices)
        → (0 < count t₀ → Subtree t₀.points (leaf_of ls) 0 0 (take (count t₀) u.indices) (take (6 * needed ls t₀.points) u.boxes) (take (4 * needed ls t₀.points) u.links)) → Accepted u
    go u e each root = accepted_as ls u (rw e H) (rw e U) (rw e each) (rw e root)
