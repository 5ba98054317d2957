-- The records that are set from the front on, each a pair of the two fronts; and a count of hits that was answered has room in
-- all three slices. Assumes nothing.
use mathlib.Core.Path.{◌≡◌, refl, sym, ap, ◌∙◌}
use mathlib.Core.Bool.{Bool, true, false, cond}
use mathlib.Core.List.{List, [], ◌∷◌, ◌++◌}
use Prim.Native.Nat.{ℕ, zero, suc, ◌+◌, ◌≤◌, ◌<◌}
use native.Mathlib.Nat.{not-suc-le-zero, le_of_suc-le-suc}
use native.Mathlib.Numerals.{add-one}
use native.Mathlib.Omega.{arith}
use lib.Dec.{ltb}
use lib.ListN.{length, get_or, set, take, drop}
use lib.Ieee.{Float, nan}
use borrow.Author.Tests.{ltb-false}
use Rattle.std.proofs.Common.{Ok}
use Rattle.search.specs.Refusal.{Told}
use Rattle.search.proofs.Fronts.{front-more}
use Rattle.radius.specs.Within.{Reply, refuses, damaged, finds, says, Answered}
use Rattle.hits.specs.declared.Hit.{Hit}
use Rattle.hits.specs.Records.{hit, pairs}

pairs-length : (n : ℕ) (is : List ℕ) (ds : List Float) → n ≤ length is → n ≤ length ds → length (pairs (take n is) (take n ds)) ≡ n
pairs-length zero is ds h k = refl
pairs-length (suc n) [] ds h k = absurd (not-suc-le-zero h)
pairs-length (suc n) (i ∷ is) [] h k = absurd (not-suc-le-zero k)
pairs-length (suc n) (i ∷ is) (d ∷ ds) h k = ap suc (pairs-length n is ds (le_of_suc-le-suc h) (le_of_suc-le-suc k))

pairs-more : (n : ℕ) (is : List ℕ) (ds : List Float) → n < length is → n < length ds → pairs (take n is) (take n ds) ++ (hit (get_or is n 0) (get_or ds n nan) ∷ []) ≡ pairs (take (suc n) is) (take (suc n) ds)
pairs-more n [] ds h k = absurd (not-suc-le-zero h)
pairs-more n (i ∷ is) [] h k = absurd (not-suc-le-zero k)
pairs-more zero (i ∷ is) (d ∷ ds) h k = refl
pairs-more (suc n) (i ∷ is) (d ∷ ds) h k = ap (λ (l : List Hit). hit i d ∷ l) (pairs-more n is ds (le_of_suc-le-suc h) (le_of_suc-le-suc k))

pub set-pairs : (is : List ℕ) (ds : List Float) (hits hits' : List Hit) (n : ℕ) → n < length is → n < length ds → n < length hits → hits' ≡ pairs (take n is) (take n ds) ++ drop n hits
    → set hits' n (hit (get_or is n 0) (get_or ds n nan)) ≡ pairs (take (n + 1) is) (take (n + 1) ds) ++ drop (n + 1) hits
set-pairs is ds hits hits' n h k m e =
    ap (λ (l : List Hit). set l n (hit (get_or is n 0) (get_or ds n nan))) e
    ∙ front-more (pairs (take n is) (take n ds)) hits (hit 0 nan) (hit (get_or is n 0) (get_or ds n nan)) n (pairs-length n is ds (omega arith) (omega arith)) m
    ∙ ap (λ (l : List Hit). l ++ drop (n + 1) hits) (pairs-more n is ds h k)
    ∙ ap (λ (j : ℕ). pairs (take j is) (take j ds) ++ drop (n + 1) hits) (sym (add-one n))

-- a count of hits is at most the room
pub few : (a : Reply) (room : ℕ) (is₀ : List ℕ) (n : ℕ) (is : List ℕ) → Answered a room is₀ (Ok n) is → n ≤ room
few a room is₀ n is A = go a (ap (λ (x : Told). x.number) A.told_is) (ap (λ (x : Told). x.detail) A.told_is)
  where
    go : (a : Reply) → 0 ≡ (says a room).number → n ≡ (says a room).detail → n ≤ room
    go (refuses j) z e = omega arith
    go damaged z e = absurd (omega arith)
    go (finds l) z e = pick (ltb room (length l)) refl z
      where
        pick : (b : Bool) → ltb room (length l) ≡ b → ◌≡◌ {A = ℕ} 0 (cond b 8 0) → n ≤ room
        pick true f z = absurd (omega arith)
        pick false f z = let q = ltb-false room (length l) f in omega arith
