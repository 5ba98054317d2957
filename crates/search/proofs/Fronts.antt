-- A loop that stores from the front on: after n stores the list is those n entries and then what stood behind them.
-- Zeros and roots are two cases of the one store, `front-more`. Assumes nothing.
use mathlib.Core.Path.{◌≡◌, refl, sym, ap, ◌∙◌, subst}
use mathlib.Core.List.{List, [], ◌∷◌, ◌++◌, append_assoc, append-nil}
use Prim.Native.Nat.{ℕ, zero, suc, ◌+◌, ◌<◌}
use native.Mathlib.Numerals.{add-one}
use native.Mathlib.Omega.{arith}
use lib.ListN.{length, get_or, set, take, drop, replicate, drop_of_length-le}
use lib.Seq.{drop-cons, set_at, take-suc, get_or-append_seam, length-take-le}
use lib.Ieee.{Float, nan}
use Rattle.root.specs.Root.{Root}
use Rattle.search.specs.Result.{Roots, none, more, Rooted}

module _ {A : Type 0} where
  pub front-more : (p d : List A) (z v : A) (n : ℕ) → length p ≡ n → n < length d → set (p ++ drop n d) n v ≡ (p ++ (v ∷ [])) ++ drop (n + 1) d
  front-more p d z v n e h =
      ap (λ (l : List A). set (p ++ l) n v) (drop-cons d n z h)
      ∙ set_at p (get_or d n z) (drop (suc n) d) v n e
      ∙ sym (append_assoc p (v ∷ []) (drop (suc n) d))
      ∙ ap (λ (k : ℕ). (p ++ (v ∷ [])) ++ drop k d) (sym (add-one n))

  pub front_at : (p d : List A) (z : A) (n : ℕ) → length p ≡ n → n < length d → get_or (p ++ drop n d) n z ≡ get_or d n z
  front_at p d z n e h =
      ap (λ (l : List A). get_or (p ++ l) n z) (drop-cons d n z h)
      ∙ ap (λ (k : ℕ). get_or (p ++ get_or d n z ∷ drop (suc n) d) k z) (sym e)
      ∙ get_or-append_seam p (get_or d n z) (drop (suc n) d) z

  -- ---- the same entry everywhere
  pub same-all : (d : List A) (v : A) (n : ℕ) → n ≡ length d → replicate n v ++ drop n d ≡ replicate (length d) v
  same-all d v n e =
      ap (λ (k : ℕ). replicate k v ++ drop k d) e
      ∙ ap (λ (l : List A). replicate (length d) v ++ l) (drop_of_length-le d {i = length d} (omega arith))
      ∙ append-nil (replicate (length d) v)

-- ---- roots
pub roots-length : {ds rs : List Float} → Roots ds rs → length rs ≡ length ds
roots-length none = refl
roots-length (more r rs) = ap suc (roots-length rs)

roots_append : {ds rs : List Float} (d r : Float) → Roots ds rs → Root d r → Roots (ds ++ (d ∷ [])) (rs ++ (r ∷ []))
roots_append d r none h = more h none
roots_append d r (more g rs) h = more g (roots_append d r rs h)

pub rooted_none : (d : List Float) → Rooted 0 d d
rooted_none d = record { roots = []; each_root = none; are = refl }

module _ (d s : List Float) (n : ℕ) (h : n < length d) (R : Rooted n d s) where
  size : length R.roots ≡ n
  size = roots-length R.each_root ∙ length-take-le n d (omega arith)

  pub rooted_at : get_or s n nan ≡ get_or d n nan
  rooted_at = ap (λ (l : List Float). get_or l n nan) R.are ∙ front_at R.roots d nan n size h

  pub rooted_more : (r : Float) → Root (get_or s n nan) r → Rooted (n + 1) d (set s n r)
  rooted_more r g = record {
    roots = R.roots ++ (r ∷ []);
    each_root = subst (λ (l : List Float). Roots l (R.roots ++ (r ∷ [])))
        (sym (ap (λ (k : ℕ). take k d) (add-one n) ∙ take-suc d n nan h))
        (roots_append (get_or d n nan) r R.each_root (subst (λ (x : Float). Root x r) rooted_at g));
    are = ap (λ (l : List Float). set l n r) R.are ∙ front-more R.roots d nan r n size h;
  }
