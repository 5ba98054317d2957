-- There is at most one list of labels (`labels_unique`): of two, a core's label cannot be the lower in one, for then an
-- earlier core has it, and has it in both; a border's is the least of the cores', which are the same. A core's label is at
-- most its index (`core-label`), so no core is noise; and with no core all is noise (`labels-none`). Assumes nothing.
use mathlib.Core.Path.{◌≡◌, sym, ◌∙◌, subst}
use mathlib.Core.Logic.{◌⊎◌}
use mathlib.Core.Bool.{Bool}
use mathlib.Core.List.{List}
use Prim.Native.Nat.{ℕ, zero, suc, ◌≤◌, ◌<◌}
use native.Mathlib.Nat.{le_antisymm, lt_of_not-le, le_of_suc-le-suc}
use native.Mathlib.Omega.{arith}
use lib.ListN.{get_or, replicate, length-replicate, get_or-replicate}
use lib.Seq.{ext_get_or}
use Rattle.labels.specs.Labels.{noise, Core, Border, claimed, alone, Labelled}
use Rattle.labels.proofs.Neighbours.{core?, core-none}

module _ (near : ℕ → ℕ → Bool) (n m : ℕ) where
  -- not more, by the labelling of the other
  no_more : (a b : List ℕ) → Labelled near n m a → Labelled near n m b → (i : ℕ) → Core near n m i
      → ((j : ℕ) → j < i → Core near n m j → get_or a j noise ≡ get_or b j noise) → get_or a i noise < get_or b i noise → ⊥
  no_more a b A B i c ih l =
      let w = B.rising i (get_or a i noise) c l in
      let same : get_or a w.0 noise ≡ get_or a i noise = ih w.0 w.2 w.1 ∙ w.3 in
      let back : get_or b w.0 noise ≡ get_or b i noise = B.shared w.0 i w.1 c (A.joined w.0 i w.1 c same) in
      let z : get_or a i noise ≡ get_or b i noise = sym w.3 ∙ back in
      omega arith

  cores_up_to : (a b : List ℕ) → Labelled near n m a → Labelled near n m b → (k i : ℕ) → i < k → Core near n m i → get_or a i noise ≡ get_or b i noise
  cores_up_to a b A B zero i h c = omega arith
  cores_up_to a b A B (suc k) i h c =
      let ih : (j : ℕ) → j < i → Core near n m j → get_or a j noise ≡ get_or b j noise = λ j l d. cores_up_to a b A B k j (omega arith) d in
      le_antisymm
      (le_of_not_lt (no_more b a B A i c (λ j l d. sym (ih j l d))))
      (le_of_not_lt (no_more a b A B i c ih))
    where
      le_of_not_lt : {x y : ℕ} → (y < x → ⊥) → x ≤ y
      le_of_not_lt f = le_of_suc-le-suc (lt_of_not-le f)

  cores_same : (a b : List ℕ) → Labelled near n m a → Labelled near n m b → (i : ℕ) → Core near n m i → get_or a i noise ≡ get_or b i noise
  cores_same a b A B i c = cores_up_to a b A B (suc i) i (omega arith) c

  borders-same : (a b : List ℕ) → ((k : ℕ) → Core near n m k → get_or a k noise ≡ get_or b k noise) → (i : ℕ) → Border near n m a i → Border near n m b i → get_or a i noise ≡ get_or b i noise
  borders-same a b S i (claimed j c v e l) (claimed j' c' v' e' l') = omega (arith, l j' c' v', l' j c v, S j c, S j' c')
  borders-same a b S i (claimed j c v e l) (alone f e') = absurd (f j c v)
  borders-same a b S i (alone f e) (claimed j c v e' l') = absurd (f j c v)
  borders-same a b S i (alone f e) (alone f' e') = e ∙ sym e'

  pub labels_unique : (a b : List ℕ) → Labelled near n m a → Labelled near n m b → a ≡ b
  labels_unique a b A B = ext_get_or noise a b (A.count ∙ sym B.count) (λ i h. go i (subst (λ (k : ℕ). i < k) A.count h) (core? near n m i (subst (λ (k : ℕ). i < k) A.count h)))
    where
      go : (i : ℕ) → i < n → Dec (Core near n m i) → get_or a i noise ≡ get_or b i noise
      go i h (yes c) = cores_same a b A B i c
      go i h (no f) = borders-same a b (cores_same a b A B) i (A.border i h f) (B.border i h f)

  label-up_to : (a : List ℕ) → Labelled near n m a → (k i : ℕ) → i < k → Core near n m i → get_or a i noise ≤ i
  label-up_to a A zero i h c = omega arith
  label-up_to a A (suc k) i h c = le_of_suc-le-suc (lt_of_not-le (λ (o : suc i ≤ get_or a i noise). high (A.rising i i c o) (λ j l d. label-up_to a A k j (omega arith) d)))
    where
      high : (j : ℕ) × Core near n m j × (j < i) × (get_or a j noise ≡ i) → ((j : ℕ) → j < i → Core near n m j → get_or a j noise ≤ j) → ⊥
      high w f = let z = f w.0 w.2 w.1 in omega (arith, z, w.2, w.3)

  pub core-label : (a : List ℕ) → Labelled near n m a → (i : ℕ) → Core near n m i → get_or a i noise ≤ i
  core-label a A i c = label-up_to a A (suc i) i (omega arith) c

  pub labels-none : (m ≡ 0) ⊎ (n < m) → Labelled near n m (replicate n noise)
  labels-none h =
      record {
        count = length-replicate n noise;
        shared = λ i j c. absurd (core-none near n m h i c);
        joined = λ i j c. absurd (core-none near n m h i c);
        rising = λ i d c. absurd (core-none near n m h i c);
        border = λ i o g. alone (λ k c v. core-none near n m h k c) (get_or-replicate n i noise noise o);
      }
