-- Two trees over the same points agree but for the centres and the order inside a leaf: the same entries have the same box,
-- so the same axis, so the same lower half. By induction on the subtree. Assumes nothing.
use mathlib.Core.Path.{◌≡◌, refl, sym, ap, ◌∙◌, subst}
use mathlib.Core.List.{List, [], ◌∷◌, ◌++◌}
use Prim.Native.Nat.{ℕ, zero, suc, ◌*◌, ◌+◌, ◌<◌, ◌/◌}
use native.Mathlib.Nat.{lt_irrefl}
use native.Mathlib.Omega.{arith}
use lib.ListN.{get_or, length, take, drop, take-append-drop, length-append}
use lib.Dec.{T, lit<}
use lib.Ieee.{Float, nan, binary64, fits}
use Rattle.distance.proofs.TotalKey.{key_inj}
use Rattle.distance.specs.TotalOrder.{key}
use Rattle.tree.proofs.Counting.{nodes-none}
use Rattle.tree.specs.Accepted.{Tree, count}
use Rattle.tree.specs.Count.{leaf_of, nodes}
use Rattle.tree.specs.Points.{size}
use Rattle.tree.proofs.Entries.{times_append, same_refl, same_sym, from}
use Rattle.select.specs.Order.{coord, key_at, rank}
use Rattle.tree.specs.Entries.{◌∈◌, Within, Same}
use Rattle.build.proofs.Numbering.{each_within, each_same}
use Rattle.build.proofs.Sum.{same_length, same-lower}
use Rattle.build.specs.Agree.{Held, SameBoxes, SameLeaves, Agree, no_box, a_box, in_leaf, in_halves}
use Rattle.build.specs.Built.{Tight, Box, axis_of, Lower, Subtree, needed, Built, a_leaf, a_branch}

-- two subtrees over the same entries
record Twins (leaf : ℕ) (part part' : List ℕ) (boxes boxes' : List Float) (links links' : List ℕ) : Type 0 where
  numbers : links ≡ links'
  floats : SameBoxes boxes boxes'
  entries : SameLeaves leaf part part'

boxes_append : {fs fs' bs bs' : List Float} → SameBoxes fs fs' → SameBoxes bs bs' → SameBoxes (fs ++ bs) (fs' ++ bs')
boxes_append no_box q = q
boxes_append (a_box p) q = a_box (boxes_append p q)

module _ (points : List Float) (H : Held points) where
  held_at : (axis v : ℕ) → axis < 2 → v < size points → T (fits binary64 (coord points axis v))
  held_at axis v a h = H (2 * v + axis) (omega arith)

  module _ (axis : ℕ) (a : axis < 2) (xs ys : List ℕ) (W : Within (size points) xs) (p : Same xs ys) (lo hi lo' hi' : Float) (t : Tight points axis xs lo hi) (u : Tight points axis ys lo' hi') where
    same_low : lo ≡ lo'
    same_low =
        let v : t.low ∈ xs = t.low_in in
        let w : u.low ∈ xs = from (same_sym p) u.low u.low_in in
        let x = t.least u.low w in
        let y = u.least t.low (from p t.low v) in
        let k : key_at points axis t.low ≡ key_at points axis u.low = omega (arith, ap key t.low_is, ap key u.low_is) in
        t.low_is ∙ key_inj (coord points axis t.low) (coord points axis u.low) (held_at axis t.low a (W t.low v)) (held_at axis u.low a (W u.low w)) k ∙ sym u.low_is

    same-high : hi ≡ hi'
    same-high =
        let v : t.high ∈ xs = t.high_in in
        let w : u.high ∈ xs = from (same_sym p) u.high u.high_in in
        let x = t.greatest u.high w in
        let y = u.greatest t.high (from p t.high v) in
        let k : key_at points axis t.high ≡ key_at points axis u.high = omega (arith, ap key t.high_is, ap key u.high_is) in
        t.high_is ∙ key_inj (coord points axis t.high) (coord points axis u.high) (held_at axis t.high a (W t.high v)) (held_at axis u.high a (W u.high w)) k ∙ sym u.high_is

shape : (l : List Float) → length l ≡ 6 → l ≡ get_or l 0 nan ∷ get_or l 1 nan ∷ get_or l 2 nan ∷ get_or l 3 nan ∷ get_or l 4 nan ∷ get_or l 5 nan ∷ []
shape (a ∷ b ∷ c ∷ d ∷ e ∷ f ∷ []) h = refl
shape (a ∷ b ∷ c ∷ d ∷ e ∷ f ∷ g ∷ l) h = absurd (lt_irrefl 0 (omega arith))
shape [] h = absurd (lt_irrefl 0 (omega arith))
shape (a ∷ []) h = absurd (lt_irrefl 0 (omega arith))
shape (a ∷ b ∷ []) h = absurd (lt_irrefl 0 (omega arith))
shape (a ∷ b ∷ c ∷ []) h = absurd (lt_irrefl 0 (omega arith))
shape (a ∷ b ∷ c ∷ d ∷ []) h = absurd (lt_irrefl 0 (omega arith))
shape (a ∷ b ∷ c ∷ d ∷ e ∷ []) h = absurd (lt_irrefl 0 (omega arith))

four_same : (a b a' b' x0 x1 y0 y1 x0' x1' y0' y1' : Float) → x0 ≡ x0' → x1 ≡ x1' → y0 ≡ y0' → y1 ≡ y1' → SameBoxes (a ∷ b ∷ x0 ∷ x1 ∷ y0 ∷ y1 ∷ []) (a' ∷ b' ∷ x0' ∷ x1' ∷ y0' ∷ y1' ∷ [])
four_same a b a' b' x0 x1 y0 y1 x0' x1' y0' y1' e f g h = rw (e, f, g, h) (a_box no_box)

-- the same entries have the same box
module _ (points : List Float) (H : Held points) (xs ys : List ℕ) (W : Within (size points) xs) (p : Same xs ys) (own own' : List Float) (b : Box points xs own) (c : Box points ys own') where
  x-low : get_or own 2 nan ≡ get_or own' 2 nan
  x-low = same_low points H 0 (lit< tt) xs ys W p (get_or own 2 nan) (get_or own 3 nan) (get_or own' 2 nan) (get_or own' 3 nan) b.x c.x

  x-high : get_or own 3 nan ≡ get_or own' 3 nan
  x-high = same-high points H 0 (lit< tt) xs ys W p (get_or own 2 nan) (get_or own 3 nan) (get_or own' 2 nan) (get_or own' 3 nan) b.x c.x

  y-low : get_or own 4 nan ≡ get_or own' 4 nan
  y-low = same_low points H 1 (lit< tt) xs ys W p (get_or own 4 nan) (get_or own 5 nan) (get_or own' 4 nan) (get_or own' 5 nan) b.y c.y

  y-high : get_or own 5 nan ≡ get_or own' 5 nan
  y-high = same-high points H 1 (lit< tt) xs ys W p (get_or own 4 nan) (get_or own 5 nan) (get_or own' 4 nan) (get_or own' 5 nan) b.y c.y

  box_agree : SameBoxes own own'
  box_agree = rw (shape own b.six, shape own' c.six) (four_same (get_or own 0 nan) (get_or own 1 nan) (get_or own' 0 nan) (get_or own' 1 nan) (get_or own 2 nan) (get_or own 3 nan) (get_or own 4 nan) (get_or own 5 nan) (get_or own' 2 nan) (get_or own' 3 nan) (get_or own' 4 nan) (get_or own' 5 nan) x-low x-high y-low y-high)

  axis_agree : axis_of own ≡ axis_of own'
  axis_agree = rw (x-low, x-high, y-low, y-high) refl

agree : (points : List Float) (leaf : ℕ) → Held points → {node start : ℕ} {part part' : List ℕ} {boxes boxes' : List Float} {links links' : List ℕ}
    → Subtree points leaf node start part boxes links → Subtree points leaf node start part' boxes' links' → Within (size points) part → Same part part' → length part ≡ length part'
    → Twins leaf part part' boxes boxes' links links'
agree points leaf H {start = start} {part = part} {part' = part'} {boxes = boxes} {boxes' = boxes'} (a_leaf a) (a_leaf b) W p e = record {
  numbers = a.numbers ∙ ap (λ (n : ℕ). start ∷ (start + n) ∷ 0 ∷ 0 ∷ []) e ∙ sym b.numbers;
  floats = box_agree points H part part' W p boxes boxes' a.box b.box;
  entries = in_leaf a.few e p;
}
agree points leaf H (a_leaf a) (a_branch l' r' own' lb' rb' ll' rl' h' s' t') W p e = absurd (lt_irrefl leaf (omega (arith, a.few, h'.many)))
agree points leaf H (a_branch l r own lb rb ll rl h s t) (a_leaf b) W p e = absurd (lt_irrefl leaf (omega (arith, b.few, h.many)))
agree points leaf H {node = node} {start = start} {part = part} {part' = part'} {boxes = boxes} {boxes' = boxes'} (a_branch l r own lb rb ll rl h s t) (a_branch l' r' own' lb' rb' ll' rl' h' s' t') W p e =
    let f : length l ≡ length l' = h.half ∙ ap (λ (n : ℕ). n / 2) e ∙ sym h'.half in
    let q : Same (l ++ r) (l' ++ r') = subst (λ (z : List ℕ). Same (l ++ r) z) h'.parts (subst (λ (z : List ℕ). Same z part') h.parts p) in
    let x = axis_agree points H part part' W p own own' h.box h'.box in
    let b : Lower (rank points (axis_of own)) l' r' = subst (λ (n : ℕ). Lower (rank points n) l' r') (sym x) h'.lower in
    let c = same-lower (rank points (axis_of own)) l r l' r' q f h.lower b in
    let g : length r ≡ length r' = omega (arith, ap length h.parts, ap length h'.parts, length-append l r, length-append l' r') in
    let Wl : Within (size points) l = λ v k. W v (subst (λ (z : List ℕ). v ∈ z) (sym h.parts) (omega (arith, times_append v l r))) in
    let Wr : Within (size points) r = λ v k. W v (subst (λ (z : List ℕ). v ∈ z) (sym h.parts) (omega (arith, times_append v l r))) in
    let A = agree points leaf H s s' Wl c.0 f in
    let t'' : Subtree points leaf (node + 1 + nodes leaf (length l)) (start + length l) r' rb' rl' = rw f t' in
    let B = agree points leaf H t t'' Wr c.1 g in
    record {
      numbers = h.numbers ∙ rw (e, f, A.numbers, B.numbers) (sym h'.numbers);
      floats = rw (h.floats, h'.floats) (boxes_append (box_agree points H part part' W p own own' h.box h'.box) (boxes_append A.floats B.floats));
      entries = in_halves h.many h.parts h'.parts h.half (sym f) A.entries B.entries;
    }

-- ---- two whole trees
whole : {A : Type 0} (n : ℕ) (xs ys : List A) → take n xs ≡ take n ys → drop n xs ≡ drop n ys → xs ≡ ys
whole n xs ys e f = sym (take-append-drop n xs) ∙ rw (e, f) (take-append-drop n ys)

module _ (ls : ℕ) (t₀ t u : Tree) (H : Held t₀.points) (b : Built ls t₀ t) (c : Built ls t₀ u) where
  same : Same (take (count t₀) t.indices) (take (count t₀) u.indices)
  same = each_same (count t₀) (take (count t₀) t.indices) (take (count t₀) u.indices) b.each c.each

  twins : (n : ℕ) → n ≡ count t₀ → Twins (leaf_of ls) (take n t.indices) (take n u.indices)
      (take (6 * nodes (leaf_of ls) n) t.boxes) (take (6 * nodes (leaf_of ls) n) u.boxes) (take (4 * nodes (leaf_of ls) n) t.links) (take (4 * nodes (leaf_of ls) n) u.links)
  twins zero e = rw (nodes-none (leaf_of ls)) (record { numbers = refl; floats = no_box; entries = in_leaf {xs = []} {ys = []} (omega arith) refl (same_refl []) })
  twins (suc n) e = rw e (agree t₀.points (leaf_of ls) H (b.root (omega arith)) (c.root (omega arith))
      (each_within (count t₀) (take (count t₀) t.indices) b.each) same (same_length (take (count t₀) t.indices) (take (count t₀) u.indices) same))

  pub built_agree : Agree ls t u
  built_agree =
      let T = twins (count t₀) refl in
      rw b.points (record {
        points = sym c.points;
        entries = T.entries;
        entries_past = b.indices_past ∙ sym c.indices_past;
        floats = T.floats;
        floats_past = b.boxes_past ∙ sym c.boxes_past;
        numbers = whole (4 * needed ls t₀.points) t.links u.links T.numbers (b.links_past ∙ sym c.links_past);
      })
