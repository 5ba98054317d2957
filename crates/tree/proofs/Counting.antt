-- N(c) unfolds so: at most a leaf's points are one node, more are a node and the two halves. The depth to
-- which it is worked out makes no difference once it is enough; and there are fewer nodes than twice the points.
-- By induction on the depth. Assumes nothing.
use mathlib.Core.Path.{◌≡◌, refl, sym, ◌∙◌, ap}
use Prim.Native.Nat.{ℕ, zero, suc, ◌+◌, ◌-◌, ◌*◌, ◌/◌, ◌%◌, ◌<◌, ◌≤◌}
use native.Mathlib.Nat.{not-suc-le-zero, pos_of_ne-zero}
use native.Mathlib.Omega.{arith}
use mathlib.Core.Bool.{Bool, true, false, cond}
use lib.Dec.{leb, ltb, lit<, lit≤}
use borrow.Author.Tests.{ltb-true, leb-false, le-leb, lt-leb, ne_eqb}
use Rattle.tree.specs.Points.{limit}
use Rattle.tree.specs.Count.{leaf_of, nodes_to, nodes, node_count}

enough : (f g leaf c : ℕ) → 0 < leaf → c ≤ f → c ≤ g → nodes_to f leaf c ≡ nodes_to g leaf c
unfolding nodes_to
enough zero zero leaf c l p q = refl
enough zero (suc g) leaf c l p q = ap (λ (b : Bool). cond {A = ℕ} b 1 (1 + nodes_to g leaf (c / 2) + nodes_to g leaf (c - c / 2))) (sym (le-leb c leaf (omega arith)))
enough (suc f) zero leaf c l p q = ap (λ (b : Bool). cond {A = ℕ} b 1 (1 + nodes_to f leaf (c / 2) + nodes_to f leaf (c - c / 2))) (le-leb c leaf (omega arith))
enough (suc f) (suc g) leaf c l p q = go (leb c leaf) refl (enough f g leaf (c / 2) l) (enough f g leaf (c - c / 2) l)
  where
    go : (b : Bool) → leb c leaf ≡ b → (c / 2 ≤ f → c / 2 ≤ g → nodes_to f leaf (c / 2) ≡ nodes_to g leaf (c / 2)) → (c - c / 2 ≤ f → c - c / 2 ≤ g → nodes_to f leaf (c - c / 2) ≡ nodes_to g leaf (c - c / 2))
        → cond b 1 (1 + nodes_to f leaf (c / 2) + nodes_to f leaf (c - c / 2)) ≡ cond b 1 (1 + nodes_to g leaf (c / 2) + nodes_to g leaf (c - c / 2))
    go true e x y = refl
    go false e x y =
        let h : leaf < c = leb-false c leaf e in
        let x' = x (omega arith) (omega arith) in
        let y' = y (omega arith) (omega arith) in
        omega arith

some : (leaf c : ℕ) → 0 < c → nodes leaf c ≡ nodes_to c leaf c
unfolding nodes
some leaf c h = ap (λ (b : Bool). cond {A = ℕ} b 0 (nodes_to c leaf c)) (ne_eqb c 0 (λ (e : c ≡ 0). let z : ◌≡◌ {A = ℕ} 0 1 = omega arith in omega arith))

pub nodes-leaf : (leaf c : ℕ) → 0 < c → c ≤ leaf → nodes leaf c ≡ 1
nodes-leaf leaf c h l = some leaf c h ∙ go c l h
  where
    go : (k : ℕ) → k ≤ leaf → 0 < k → nodes_to k leaf k ≡ 1
    go zero a b = absurd (not-suc-le-zero b)
    go (suc k) a b = unfold nodes_to in ap (λ (b : Bool). cond {A = ℕ} b 1 (1 + nodes_to k leaf (suc k / 2) + nodes_to k leaf (suc k - suc k / 2))) (le-leb (suc k) leaf a)

pub nodes-branch : (leaf c : ℕ) → 0 < leaf → leaf < c → nodes leaf c ≡ 1 + nodes leaf (c / 2) + nodes leaf (c - c / 2)
nodes-branch leaf c l h = some leaf c (omega arith) ∙ go c l h
  where
    go : (k : ℕ) → 0 < leaf → leaf < k → nodes_to k leaf k ≡ 1 + nodes leaf (k / 2) + nodes leaf (k - k / 2)
    go zero a b = absurd (not-suc-le-zero b)
    go (suc k) a b =
        let x : nodes_to (suc k) leaf (suc k) ≡ 1 + nodes_to k leaf (suc k / 2) + nodes_to k leaf (suc k - suc k / 2) = unfold nodes_to in ap (λ (b : Bool). cond {A = ℕ} b 1 (1 + nodes_to k leaf (suc k / 2) + nodes_to k leaf (suc k - suc k / 2))) (lt-leb (suc k) leaf b) in
        let u = some leaf (suc k / 2) (omega arith) in
        let v = some leaf (suc k - suc k / 2) (omega arith) in
        let u' = enough k (suc k / 2) leaf (suc k / 2) a (omega arith) (omega arith) in
        let v' = enough k (suc k - suc k / 2) leaf (suc k - suc k / 2) a (omega arith) (omega arith) in
        omega arith

-- the same, with the halves named
pub nodes_halves : (leaf c i j : ℕ) → 0 < leaf → leaf < c → c / 2 ≡ i → c - c / 2 ≡ j → nodes leaf c ≡ 1 + nodes leaf i + nodes leaf j
nodes_halves leaf c i j l h p q = nodes-branch leaf c l h ∙ ap (λ (z : ℕ). 1 + nodes leaf z + nodes leaf (c - c / 2)) p ∙ ap (λ (z : ℕ). 1 + nodes leaf i + nodes leaf z) q

pub nodes-none : (leaf : ℕ) → nodes leaf 0 ≡ 0
unfolding nodes
nodes-none leaf = refl

-- never more than twice the points
bound-to : (f leaf c : ℕ) → 0 < leaf → 0 < c → nodes_to f leaf c < 2 * c
unfolding nodes_to
bound-to zero leaf c l h = omega arith
bound-to (suc f) leaf c l h = go (leb c leaf) refl (bound-to f leaf (c / 2) l) (bound-to f leaf (c - c / 2) l)
  where
    go : (b : Bool) → leb c leaf ≡ b → (0 < c / 2 → nodes_to f leaf (c / 2) < 2 * (c / 2)) → (0 < c - c / 2 → nodes_to f leaf (c - c / 2) < 2 * (c - c / 2)) → cond b 1 (1 + nodes_to f leaf (c / 2) + nodes_to f leaf (c - c / 2)) < 2 * c
    go true e x y = omega arith
    go false e x y =
        let k : leaf < c = leb-false c leaf e in
        omega (arith, x (omega arith), y (omega arith))

pub nodes-bound : (leaf c : ℕ) → 0 < leaf → 0 < c → nodes leaf c < 2 * c
nodes-bound leaf c l h = omega (arith, some leaf c h, bound-to c leaf c l h)

pub leaf_of-pos : (size : ℕ) → 0 < leaf_of size
leaf_of-pos size = go (ltb 0 size) refl
  where
    go : (b : Bool) → ltb 0 size ≡ b → 0 < cond b size 1
    go true e = ltb-true 0 size e
    go false e = omega arith

-- what a number of points in limit needs fits 32 bits
pub nodes-small : (leaf c : ℕ) → 0 < leaf → c ≤ limit → nodes leaf c < 2_097_153
nodes-small leaf zero l h = omega (arith, nodes-none leaf)
nodes-small leaf (suc c) l h = omega (arith, nodes-bound leaf (suc c) l (omega arith))

-- ---- N(c) and N(c + 1) together: halving c, and c + 1, meets c / 2 and c / 2 + 1 alone
pub both_leaf : (leaf c : ℕ) → 0 < c → c < leaf → (1 ≡ nodes leaf c) × (1 ≡ nodes leaf (c + 1))
both_leaf leaf c h l = (sym (nodes-leaf leaf c h (omega arith)), sym (nodes-leaf leaf (c + 1) (omega arith) (omega arith)))

pub both_full : (leaf c : ℕ) → 0 < c → c ≡ leaf → (1 ≡ nodes leaf c) × (3 ≡ nodes leaf (c + 1))
both_full leaf c h e =
    let u = nodes-leaf leaf ((c + 1) / 2) (omega arith) (omega arith) in
    let v = nodes-leaf leaf (c + 1 - (c + 1) / 2) (omega arith) (omega arith) in
    (sym (nodes-leaf leaf c h (omega arith)), omega (arith, nodes-branch leaf (c + 1) (omega arith) (omega arith)))

module _ (leaf c u w : ℕ) (l : 0 < leaf) (h : leaf < c) (U : u ≡ nodes leaf (c / 2)) (W : w ≡ nodes leaf (c / 2 + 1)) where
  pub both_even : c % 2 ≡ 0 → (1 + u + u ≡ nodes leaf c) × (1 + u + w ≡ nodes leaf (c + 1))
  both_even e = (
    omega (arith, nodes_halves leaf c (c / 2) (c / 2) l h refl (omega arith)),
    omega (arith, nodes_halves leaf (c + 1) (c / 2) (c / 2 + 1) l (omega arith) (omega arith) (omega arith)),
  )

  pub both_odd : (c % 2 ≡ 0 → ⊥) → (1 + u + w ≡ nodes leaf c) × (1 + w + w ≡ nodes leaf (c + 1))
  both_odd f =
      let e : 0 < c % 2 = pos_of_ne-zero f in (
        omega (arith, nodes_halves leaf c (c / 2) (c / 2 + 1) l h refl (omega arith)),
        omega (arith, nodes_halves leaf (c + 1) (c / 2 + 1) (c / 2 + 1) l (omega arith) (omega arith) (omega arith)),
      )

  pub both_bound : (u < c) × (w < c + 2)
  both_bound = (omega (arith, nodes-bound leaf (c / 2) l (omega arith)), omega (arith, nodes-bound leaf (c / 2 + 1) l (omega arith)))

-- ---- examples, worked out
pub nodes_17_at_16 : node_count 17 16 ≡ 3
nodes_17_at_16 = omega (arith, nodes_halves 16 17 8 9 (lit< tt) (lit< tt) refl refl, nodes-leaf 16 8 (lit< tt) (lit≤ tt), nodes-leaf 16 9 (lit< tt) (lit≤ tt))

pub nodes_33_at_16 : node_count 33 16 ≡ 5
nodes_33_at_16 = omega (arith, nodes_halves 16 33 16 17 (lit< tt) (lit< tt) refl refl, nodes-leaf 16 16 (lit< tt) (lit≤ tt), nodes_17_at_16)

pub nodes_3_at_1 : node_count 3 1 ≡ 5
unfolding nodes nodes_to
nodes_3_at_1 = refl

pub nodes_3_at_0 : node_count 3 0 ≡ 5
unfolding nodes nodes_to
nodes_3_at_0 = refl

pub nodes_0 : (size : ℕ) → node_count 0 size ≡ 0
nodes_0 size = nodes-none (leaf_of size)
