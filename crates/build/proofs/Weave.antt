-- What two calls leave of a list whose front is a node's own: the front, then what the first call wrote, then what the second
-- did, and the rest as it was. Assumes nothing.
use mathlib.Core.Path.{◌≡◌, ap, ◌∙◌, subst}
use mathlib.Core.List.{List, ◌++◌, append_assoc}
use Prim.Native.Nat.{ℕ, ◌+◌, ◌≤◌}
use lib.ListN.{length, take, drop}
use lib.Seq.{drop-drop, take-append-add, drop-append-add, length-take-le}

module _ {A : Type 0} where
  take_past : (xs ys : List A) (k n : ℕ) → length xs ≡ k → take (k + n) (xs ++ ys) ≡ xs ++ take n ys
  take_past xs ys k n e = subst (λ (m : ℕ). take (m + n) (xs ++ ys) ≡ xs ++ take n ys) e (take-append-add xs ys n)

  drop_past : (xs ys : List A) (k n : ℕ) → length xs ≡ k → drop (k + n) (xs ++ ys) ≡ drop n ys
  drop_past xs ys k n e = subst (λ (m : ℕ). drop (m + n) (xs ++ ys) ≡ drop n ys) e (drop-append-add xs ys n)

  -- own: the node's; D: what the first call left of the rest; E: what the second left of what comes after a of D
  module _ (k a b : ℕ) (old own D E : List A) (o : length own ≡ k) (da : a ≤ length D) (d : drop a D ≡ drop a (drop k old)) (e : drop b E ≡ drop b (drop (k + a) (own ++ D))) where
    all : take (k + a) (own ++ D) ++ E ≡ own ++ (take a D ++ E)
    all = ap (λ (l : List A). l ++ E) (take_past own D k a o) ∙ append_assoc own (take a D) E

    pub weave_front : take (k + (a + b)) (take (k + a) (own ++ D) ++ E) ≡ own ++ (take a D ++ take b E)
    weave_front = ap (take (k + (a + b))) all ∙ take_past own (take a D ++ E) k (a + b) o ∙ ap (λ (l : List A). own ++ l) (take_past (take a D) E a b (length-take-le a D da))

    pub weave_rest : drop (k + (a + b)) (take (k + a) (own ++ D) ++ E) ≡ drop (k + (a + b)) old
    weave_rest =
        ap (drop (k + (a + b))) all ∙ drop_past own (take a D ++ E) k (a + b) o ∙ drop_past (take a D) E a b (length-take-le a D da)
        ∙ e ∙ ap (drop b) (drop_past own D k a o ∙ d) ∙ drop-drop b a (drop k old) ∙ drop-drop (a + b) k old
