-- One outcome: some squared distances have one list of roots, and some hits leave one index slice and one distance slice.
-- By the uniqueness of the root, entry by entry. The distances are values of the format, as every f64 is. Assumes nothing.
use mathlib.Core.Path.{◌≡◌, refl, sym, ap, ◌∙◌, subst}
use mathlib.Core.List.{List, [], ◌∷◌, ◌++◌}
use Prim.Native.Nat.{ℕ}
use lib.Dec.{T}
use lib.ListN.{length, drop}
use lib.Ieee.{Float, binary64, fits}
use Rattle.root.proofs.Unique.{root_unique}
use Rattle.search.specs.Result.{Roots, none, more, Written}
use Rattle.search.specs.declared.Best.{Best}
use Rattle.tree.proofs.Each.{Each}

-- every entry is a value of the format
abbrev pub Held : List Float → Type 0
Held l = Each (λ x. T (fits binary64 x)) l

pub held-front : (xs ys : List Float) → Held (xs ++ ys) → Held xs
held-front [] ys h = tt
held-front (x ∷ xs) ys h = (h.0, held-front xs ys h.1)

pub roots_unique : {ds rs qs : List Float} → Roots ds rs → Roots ds qs → Held rs → Held qs → rs ≡ qs
roots_unique none none h k = refl
roots_unique (more {d = d} {r = r} {rs = rs} a a-rest) (more {r = q} {rs = qs} b b_rest) h k =
    ap (λ (z : Float). z ∷ rs) (root_unique d r q h.0 k.0 a b) ∙ ap (λ (l : List Float). q ∷ l) (roots_unique a-rest b_rest h.1 k.1)

module _ {hits : List Best} {is₀ is js : List ℕ} {ds₀ ds es : List Float} (W : Written hits is₀ is ds₀ ds) (X : Written hits is₀ js ds₀ es) where
  pub written_indices : is ≡ js
  written_indices = W.indices_are ∙ sym X.indices_are

  pub written_distances : Held ds → Held es → ds ≡ es
  written_distances h k =
      W.distances_are
      ∙ ap (λ (l : List Float). l ++ drop (length hits) ds₀)
      (roots_unique W.each_root X.each_root
      (held-front W.roots (drop (length hits) ds₀) (subst Held W.distances_are h))
      (held-front X.roots (drop (length hits) ds₀) (subst Held X.distances_are k)))
      ∙ sym X.distances_are
