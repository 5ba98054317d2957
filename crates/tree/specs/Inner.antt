-- What inner functions cite of a node that a walk has tested. No promise of an entry needs this.
--   sound k         a node of the kind k is no damage
--   known links v   what node v is, if it is known to be sound: its left child alone tells
use Rattle.std.specs.Prelude.{Bool, true, false, cond, List, ℕ, ◌+◌, ◌*◌, eqb, get_or}
use Rattle.tree.specs.declared.Kind.{Kind}
use Rattle.tree.specs.declared.Kind.TheVariants.{Leaf, Branch, Damaged}

abbrev pub sound : Kind → Bool
sound Leaf = true
sound (Branch l r) = true
sound Damaged = false

abbrev pub known : List ℕ → ℕ → Kind
known links v = cond (eqb (get_or links (v * 4 + 2) 0) 0) Leaf (Branch (get_or links (v * 4 + 2) 0) (get_or links (v * 4 + 3) 0))
