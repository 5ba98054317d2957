-- A leaf, and a branch from its two subtrees: what the recursion writes is the subtree, and there is room for it.
-- By the lists that the calls lend and leave. Assumes nothing.
use mathlib.Core.Path.{◌≡◌, refl, sym, ap, ◌∙◌, subst}
use mathlib.Core.Logic.{◌⊎◌, inl, inr, ⊎_elim}
use mathlib.Core.Bool.{Bool, true, false}
use mathlib.Core.List.{List, [], ◌∷◌, ◌++◌}
use Prim.Native.Nat.{ℕ, ◌*◌, ◌+◌, ◌^◌, ◌≤◌, ◌<◌, ◌-◌, ◌/◌}
use native.Mathlib.Omega.{arith}
use lib.ListN.{length, take, length-take, length-drop, drop, take-append-drop, length-append}
use lib.Seq.{take_at, drop_at, length-take-le}
use lib.Dec.{leb}
use lib.Ieee.{Float}
use borrow.Author.Tests.{leb-true, leb-false}
use Rattle.tree.proofs.Counting.{nodes-leaf, nodes-branch}
use Rattle.tree.specs.Count.{nodes}
use Rattle.select.proofs.Parting.{under_same, mid-all, put_back}
use Rattle.tree.proofs.Entries.{same_refl, same_trans, same_append}
use Rattle.select.specs.Order.{rank}
use Rattle.tree.specs.Entries.{Same}
use Rattle.select.specs.Parts.{Split}
use Rattle.build.proofs.Boxes.{box-same}
use Rattle.build.proofs.Parts.{ready-same, strict}
use Rattle.build.proofs.Weave.{weave_front, weave_rest}
use Rattle.build.specs.Built.{Box, axis_of, Lower, a_leaf, a_branch}
use Rattle.build.specs.Steps.{Ready, Room, Raised}

pub leaf-done : (points : List Float) (leaf node start : ℕ) (part : List ℕ) (boxes₀ boxes own : List Float) (links₀ links : List ℕ)
    → Ready points part → length part ≤ leaf → Box points part own → boxes ≡ own ++ drop 6 boxes₀ → links ≡ start ∷ (start + length part) ∷ 0 ∷ 0 ∷ drop 4 links₀
    → Raised points leaf node start part boxes₀ links₀ part boxes links 1
leaf-done points leaf node start part boxes₀ boxes own links₀ links r few b e f = record {
  number = sym (nodes-leaf leaf (length part) r.some few);
  same = same_refl part;
  tree = a_leaf (record {
    some = r.some;
    few = few;
    box = subst (Box points part) (sym (ap (take 6) e ∙ take_at own (drop 6 boxes₀) 6 b.six)) b;
    numbers = ap (take 4) f;
  });
  boxes_rest = ap (drop 6) e ∙ drop_at own (drop 6 boxes₀) 6 b.six;
  links_rest = ap (drop 4) f;
}

module _ (points : List Float) (leaf node start nl nr : ℕ) (part₀ p1 p2 p3 l r : List ℕ) (boxes₀ own b1 b2 b3 D E : List Float) (links₀ k2 k3 k4 L K : List ℕ)
    (R : Ready points part₀) (M : Room leaf node start (length part₀) (length boxes₀) (length links₀)) (many : leaf < length part₀) (B : Box points part₀ own)
    (S1 : Same p1 part₀) (e1 : length p1 ≡ length part₀) (Sp : Split (rank points (axis_of own)) (length part₀ / 2) p1) (b1e : b1 ≡ own ++ drop 6 boxes₀)
    (G1 : Raised points leaf (node + 1) start (take (length part₀ / 2) p1) (drop 6 b1) (drop 4 links₀) l D L nl)
    (le : length l ≡ length (take (length part₀ / 2) p1)) (De : length D ≡ length (drop 6 b1)) (Le : length L ≡ length (drop 4 links₀))
    (p2e : p2 ≡ l ++ drop (length part₀ / 2) p1) (b2e : b2 ≡ take 6 b1 ++ D) (k2e : k2 ≡ take 4 links₀ ++ L)
    (k3e : k3 ≡ start ∷ (start + length part₀) ∷ (node + 1) ∷ (node + 1 + nl) ∷ drop 4 k2)
    (G2 : Raised points leaf (node + 1 + nl) (start + length part₀ / 2) (drop (length part₀ / 2) p2) (drop (6 + 6 * nl) b2) (drop (4 + 4 * nl) k3) r E K nr)
    (re : length r ≡ length (drop (length part₀ / 2) p2))
    (p3e : p3 ≡ take (length part₀ / 2) p2 ++ r) (b3e : b3 ≡ take (6 + 6 * nl) b2 ++ E) (k4e : k4 ≡ take (4 + 4 * nl) k3 ++ K)
  where
    half : length l ≡ length part₀ / 2
    half = omega (arith, length-take (length part₀ / 2) p1)

    back : drop (length part₀ / 2) p2 ≡ drop (length part₀ / 2) p1
    back = ap (drop (length part₀ / 2)) p2e ∙ drop_at l (drop (length part₀ / 2) p1) (length part₀ / 2) half

    parts : p3 ≡ l ++ r
    parts = p3e ∙ ap (λ (z : List ℕ). z ++ r) (ap (take (length part₀ / 2)) p2e ∙ take_at l (drop (length part₀ / 2) p1) (length part₀ / 2) half)

    same-r : Same r (drop (length part₀ / 2) p1)
    same-r = subst (Same r) back G2.same

    same-all : Same p3 part₀
    same-all = rw parts (same_trans (subst (Same (l ++ r)) (take-append-drop (length part₀ / 2) p1) (same_append G1.same same-r)) S1)

    other : length r ≡ length part₀ - length part₀ / 2
    other = re ∙ ap length back ∙ length-drop (length part₀ / 2) p1 ∙ ap (λ (n : ℕ). n - length part₀ / 2) e1

    size : length p3 ≡ length part₀
    size = ap length parts ∙ length-append l r ∙ omega (arith, half, other)

    left_is : nl ≡ nodes leaf (length part₀ / 2)
    left_is = G1.number ∙ ap (nodes leaf) (sym le ∙ half)

    right_is : nr ≡ nodes leaf (length part₀ - length part₀ / 2)
    right_is = G2.number ∙ ap (nodes leaf) (sym re ∙ other)

    all-is : 1 + nl + nr ≡ nodes leaf (length part₀)
    all-is = omega (arith, nodes-branch leaf (length part₀) M.one many, left_is, right_is)

    -- the floats
    front : take 6 b1 ≡ own
    front = ap (take 6) b1e ∙ take_at own (drop 6 boxes₀) 6 B.six

    rest1 : drop 6 b1 ≡ drop 6 boxes₀
    rest1 = ap (drop 6) b1e ∙ drop_at own (drop 6 boxes₀) 6 B.six

    b2_is : b2 ≡ own ++ D
    b2_is = b2e ∙ ap (λ (z : List Float). z ++ D) front

    d_room : 6 * nl ≤ length D
    d_room = omega (arith, De, ap length rest1, length-drop 6 boxes₀, M.floats, all-is)

    d_rest : drop (6 * nl) D ≡ drop (6 * nl) (drop 6 boxes₀)
    d_rest = G1.boxes_rest ∙ ap (drop (6 * nl)) rest1

    e_rest : drop (6 * nr) E ≡ drop (6 * nr) (drop (6 + 6 * nl) (own ++ D))
    e_rest = G2.boxes_rest ∙ ap (λ (z : List Float). drop (6 * nr) (drop (6 + 6 * nl) z)) b2_is

    b3_is : b3 ≡ take (6 + 6 * nl) (own ++ D) ++ E
    b3_is = b3e ∙ ap (λ (z : List Float). take (6 + 6 * nl) z ++ E) b2_is

    six-all : 6 * (1 + nl + nr) ≡ 6 + (6 * nl + 6 * nr)
    six-all = omega arith

    floats : take (6 * (1 + nl + nr)) b3 ≡ own ++ (take (6 * nl) D ++ take (6 * nr) E)
    floats = rw (six-all, b3_is) (weave_front 6 (6 * nl) (6 * nr) boxes₀ own D E B.six d_room d_rest e_rest)

    floats-rest : drop (6 * (1 + nl + nr)) b3 ≡ drop (6 * (1 + nl + nr)) boxes₀
    floats-rest = rw (six-all, b3_is) (weave_rest 6 (6 * nl) (6 * nr) boxes₀ own D E B.six d_room d_rest e_rest)

    -- the numbers
    abbrev head : List ℕ
    head = start ∷ (start + length part₀) ∷ (node + 1) ∷ (node + 1 + nl) ∷ []

    room4 : 4 ≤ length links₀
    room4 = omega (arith, M.numbers, all-is)

    k3_is : k3 ≡ head ++ L
    k3_is = k3e ∙ ap (λ (z : List ℕ). start ∷ (start + length part₀) ∷ (node + 1) ∷ (node + 1 + nl) ∷ z) (ap (drop 4) k2e ∙ drop_at (take 4 links₀) L 4 (length-take-le 4 links₀ room4))

    l-room : 4 * nl ≤ length L
    l-room = omega (arith, Le, length-drop 4 links₀, M.numbers, all-is)

    k-rest : drop (4 * nr) K ≡ drop (4 * nr) (drop (4 + 4 * nl) (head ++ L))
    k-rest = G2.links_rest ∙ ap (λ (z : List ℕ). drop (4 * nr) (drop (4 + 4 * nl) z)) k3_is

    k4_is : k4 ≡ take (4 + 4 * nl) (head ++ L) ++ K
    k4_is = k4e ∙ ap (λ (z : List ℕ). take (4 + 4 * nl) z ++ K) k3_is

    four-all : 4 * (1 + nl + nr) ≡ 4 + (4 * nl + 4 * nr)
    four-all = omega arith

    numbers : take (4 * (1 + nl + nr)) k4 ≡ head ++ (take (4 * nl) L ++ take (4 * nr) K)
    numbers = rw (four-all, k4_is) (weave_front 4 (4 * nl) (4 * nr) links₀ head L K refl l-room G1.links_rest k-rest)

    numbers-rest : drop (4 * (1 + nl + nr)) k4 ≡ drop (4 * (1 + nl + nr)) links₀
    numbers-rest = rw (four-all, k4_is) (weave_rest 4 (4 * nl) (4 * nr) links₀ head L K refl l-room G1.links_rest k-rest)

    left_at : nl ≡ nodes leaf (length l)
    left_at = left_is ∙ ap (nodes leaf) (sym half)

    lower : Lower (rank points (axis_of own)) l r
    lower = strict points (axis_of own) l r (ready-same points (l ++ r) part₀ (subst (λ (z : List ℕ). Same z part₀) parts same-all) (sym (ap length parts) ∙ size) R)
        (under_same (rank points (axis_of own)) G1.same same-r Sp)

    pub branch-done : Raised points leaf node start part₀ boxes₀ links₀ p3 b3 k4 (1 + nl + nr)
    branch-done = record {
      number = all-is;
      same = same-all;
      tree = a_branch {node = node} {start = start} {part = p3} l r own (take (6 * nl) D) (take (6 * nr) E) (take (4 * nl) L) (take (4 * nr) K)
          (record {
            many = omega (arith, size);
            parts = parts;
            half = half ∙ ap (λ (n : ℕ). n / 2) (sym size);
            box = box-same points p3 part₀ own same-all B;
            floats = floats;
            numbers = numbers ∙ rw (size, ← left_at) refl;
            lower = lower;
          })
          G1.tree
          (rw (← left_at, half) G2.tree);
      boxes_rest = floats-rest;
      links_rest = numbers-rest;
    }

-- ---- room
pub at_least : (leaf c : ℕ) → 0 < leaf → 0 < c → 0 < nodes leaf c
at_least leaf c l h = ⊎_elim (λ (f : c ≤ leaf). omega (arith, nodes-leaf leaf c h f)) (λ (g : leaf < c). omega (arith, nodes-branch leaf c l g)) (le_or_lt c leaf)
  where
    le_or_lt : (a b : ℕ) → (a ≤ b) ⊎ (b < a)
    le_or_lt a b = go (leb a b) refl
      where
        go : (t : Bool) → leb a b ≡ t → (a ≤ b) ⊎ (b < a)
        go true e = inl (leb-true a b e)
        go false e = inr (leb-false a b e)

pub room-own : (leaf node start size boxes links : ℕ) → Room leaf node start size boxes links → 0 < size → (6 ≤ boxes) × (4 ≤ links)
room-own leaf node start size boxes links M h = let n = at_least leaf size M.one h in (omega (arith, M.floats), omega (arith, M.numbers))

pub record Big (leaf node start size boxes links : ℕ) : Type 0 where
  pub floats : 6 + 6 * nodes leaf (size / 2) + 6 * nodes leaf (size - size / 2) ≤ boxes
  pub numbers : 4 + 4 * nodes leaf (size / 2) + 4 * nodes leaf (size - size / 2) ≤ links
  pub node_fits : node + 1 + nodes leaf (size / 2) + nodes leaf (size - size / 2) < 2 ^ 32
  pub place_fits : start + size < 2 ^ 32
  pub left : 0 < size / 2
  pub right : size / 2 < size

pub big : (leaf node start size boxes links : ℕ) → Room leaf node start size boxes links → leaf < size → Big leaf node start size boxes links
big leaf node start size boxes links M h =
    let n = nodes-branch leaf size M.one h in
    record { floats = omega (arith, M.floats); numbers = omega (arith, M.numbers); node_fits = omega (arith, M.node_fits); place_fits = M.place_fits; left = omega (arith, M.one); right = omega (arith, M.one) }

pub room-left : (leaf node start size boxes links : ℕ) → Room leaf node start size boxes links → leaf < size → (s b k : ℕ) → s ≡ size / 2 → 6 + b ≡ boxes → 4 + k ≡ links → Room leaf (node + 1) start s b k
room-left leaf node start size boxes links M h s b k e f g =
    let B = big leaf node start size boxes links M h in
    let n : nodes leaf s ≡ nodes leaf (size / 2) = ap (nodes leaf) e in
    record { one = M.one; floats = omega (arith, B.floats); numbers = omega (arith, B.numbers); node_fits = omega (arith, B.node_fits); place_fits = omega (arith, B.place_fits) }

pub room-right : (leaf node start size boxes links nl : ℕ) → Room leaf node start size boxes links → leaf < size → nl ≡ nodes leaf (size / 2) → (s b k : ℕ) → s ≡ size - size / 2 → 6 + 6 * nl + b ≡ boxes → 4 + 4 * nl + k ≡ links → Room leaf (node + 1 + nl) (start + size / 2) s b k
room-right leaf node start size boxes links nl M h w s b k e f g =
    let B = big leaf node start size boxes links M h in
    let n : nodes leaf s ≡ nodes leaf (size - size / 2) = ap (nodes leaf) e in
    record { one = M.one; floats = omega (arith, B.floats); numbers = omega (arith, B.numbers); node_fits = omega (arith, B.node_fits); place_fits = omega (arith, B.place_fits) }

-- ---- the back of a slice, as it is lent
pub mid-length : {A : Type 0} (a : ℕ) (ys : List A) → a ≤ length ys → a + length (take (length ys - a) (drop a ys)) ≡ length ys
mid-length a ys h = omega (arith, ap length (mid-all a ys), length-drop a ys)

pub put-length : {A : Type 0} (a : ℕ) (ys zs : List A) → a ≤ length ys → length zs ≡ length (take (length ys - a) (drop a ys)) → length (take a ys ++ (zs ++ drop (length ys - a) (drop a ys))) ≡ length ys
put-length a ys zs h e = ap length (put_back a ys zs) ∙ length-append (take a ys) zs ∙ omega (arith, length-take-le a ys h, mid-length a ys h)

pub raised_left : (points : List Float) (leaf node start : ℕ) (part : List ℕ) (a : ℕ) (ys : List Float) (b : ℕ) (zs : List ℕ) (p' : List ℕ) (x' : List Float) (k' : List ℕ) (r : ℕ)
    → Raised points leaf node start part (take (length ys - a) (drop a ys)) (take (length zs - b) (drop b zs)) p' x' k' r → Raised points leaf node start part (drop a ys) (drop b zs) p' x' k' r
raised_left points leaf node start part a ys b zs p' x' k' r g =
    subst (λ (l : List ℕ). Raised points leaf node start part (drop a ys) l p' x' k' r) (mid-all b zs)
    (subst (λ (l : List Float). Raised points leaf node start part l (take (length zs - b) (drop b zs)) p' x' k' r) (mid-all a ys) g)

pub raised_right : (points : List Float) (leaf node start : ℕ) (m : ℕ) (xs : List ℕ) (a : ℕ) (ys : List Float) (b : ℕ) (zs : List ℕ) (p' : List ℕ) (x' : List Float) (k' : List ℕ) (r : ℕ)
    → Raised points leaf node start (take (length xs - m) (drop m xs)) (take (length ys - a) (drop a ys)) (take (length zs - b) (drop b zs)) p' x' k' r → Raised points leaf node start (drop m xs) (drop a ys) (drop b zs) p' x' k' r
raised_right points leaf node start m xs a ys b zs p' x' k' r g =
    raised_left points leaf node start (drop m xs) a ys b zs p' x' k' r
    (subst (λ (l : List ℕ). Raised points leaf node start l (take (length ys - a) (drop a ys)) (take (length zs - b) (drop b zs)) p' x' k' r) (mid-all m xs) g)
