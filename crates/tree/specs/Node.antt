-- A node of a tree, read from lent lists.
--   bounds boxes v          the six floats of node v; a NaN for each past the end
--   children c l r          what the child numbers l and r make of a node over c entries
--   covers boxes links v a e  node v lies whole in both lists, and says that it covers the entries a to e
--   kind boxes links v a e  node v, at the place where the halving calls for a node over a to e
--   mid a e                 where the left half of a to e ends
--   part l a e              the entries of l from a to e; none where a > e or e is past the end
use Rattle.std.specs.Prelude.{Bool, ◌&&◌, cond, List, [], ℕ, zero, suc, ◌+◌, ◌-◌, ◌*◌, ◌/◌, leb, ltb, eqb, length, get_or, take, drop, Float}
use Rattle.std.specs.Float.{nan}
use Rattle.distance.specs.declared.Bounds.{Bounds}
use Rattle.tree.specs.declared.Kind.{Kind}
use Rattle.tree.specs.declared.Kind.TheVariants.{Leaf, Branch, Damaged}

abbrev pub bounds : List Float → ℕ → Bounds
bounds boxes v = record {
  cx = get_or boxes (v * 6) nan;
  cy = get_or boxes (v * 6 + 1) nan;
  min_x = get_or boxes (v * 6 + 2) nan;
  max_x = get_or boxes (v * 6 + 3) nan;
  min_y = get_or boxes (v * 6 + 4) nan;
  max_y = get_or boxes (v * 6 + 5) nan;
}

-- both zero: a leaf; one zero: damage; two children: a branch, if there is an entry for each
abbrev pub children : ℕ → ℕ → ℕ → Kind
children c zero zero = Leaf
children c zero (suc r) = Damaged
children c (suc l) zero = Damaged
children c (suc l) (suc r) = cond (ltb 1 c) (Branch (suc l) (suc r)) Damaged

abbrev pub covers : List Float → List ℕ → ℕ → ℕ → ℕ → Bool
covers boxes links v a e =
    leb (v * 6 + 6) (length boxes) && leb (v * 4 + 4) (length links)
    && eqb (get_or links (v * 4) 0) a && eqb (get_or links (v * 4 + 1) 0) e

abbrev pub kind : List Float → List ℕ → ℕ → ℕ → ℕ → Kind
kind boxes links v a e =
    cond (covers boxes links v a e) (children (e - a) (get_or links (v * 4 + 2) 0) (get_or links (v * 4 + 3) 0)) Damaged

abbrev pub mid : ℕ → ℕ → ℕ
mid a e = a + (e - a) / 2

abbrev pub part : List ℕ → ℕ → ℕ → List ℕ
part l a e = cond (ltb e a) [] (cond (ltb (length l) e) [] (take (e - a) (drop a l)))
