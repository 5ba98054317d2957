-- One outcome: an answer is given in one way, and leaves one index slice and one distance slice. Assumes nothing.
use mathlib.Core.Path.{◌≡◌, sym, ap, ◌∙◌, subst}
use mathlib.Core.List.{List}
use Prim.Native.Nat.{ℕ}
use Rattle.std.proofs.Common.{Result, Ok, Err}
use lib.Dec.{T}
use lib.Ieee.{Float}
use Rattle.search.specs.Refusal.{Told, told}
use Rattle.search.specs.Answer.{Answer, refused, damaged, hits, gives_hits, Leaves, Answers}
use Rattle.refusal.specs.declared.Refusal.{Refusal}
use Rattle.refusal.proofs.Same.{same-refusal}
use Rattle.search.proofs.Written.{Held, written_indices, written_distances}

pub found-one : (r s : Result ℕ Refusal) → gives_hits r ≡ gives_hits s → told r ≡ told s → r ≡ s
found-one (Ok n) (Ok m) e f = ap (λ (t : Told). Ok t.detail) f
found-one (Ok n) (Err i) e f = absurd (subst T e tt)
found-one (Err i) (Ok n) e f = absurd (subst T (sym e) tt)
found-one (Err i) (Err j) e f =
    ap (λ (r : Refusal). Err r) (same-refusal i j (ap (λ (t : Told). t.number) f) (ap (λ (t : Told). t.detail) f))

leaves-one : (a : Answer) (is₀ is js : List ℕ) (ds₀ ds es : List Float) → Leaves a is₀ ds₀ is ds → Leaves a is₀ ds₀ js es → Held ds → Held es → (is ≡ js) × (ds ≡ es)
leaves-one (refused number detail) is₀ is js ds₀ ds es h k f g = (h.0 ∙ sym k.0, h.1 ∙ sym k.1)
leaves-one damaged is₀ is js ds₀ ds es h k f g = (h.0 ∙ sym k.0, h.1 ∙ sym k.1)
leaves-one (hits l) is₀ is js ds₀ ds es h k f g = (written_indices h k, written_distances h k f g)

pub answers_unique : {a : Answer} {is₀ is js : List ℕ} {ds₀ ds es : List Float} {r s : Result ℕ Refusal} → Answers a is₀ ds₀ r is ds → Answers a is₀ ds₀ s js es → Held ds → Held es → (r ≡ s) × (is ≡ js) × (ds ≡ es)
answers_unique {a} {is₀} {is} {js} {ds₀} {ds} {es} {r} {s} A B f g =
    let l = leaves-one a is₀ is js ds₀ ds es A.leaves B.leaves f g in
    (found-one r s (A.kind ∙ sym B.kind) (A.tells ∙ sym B.tells), l.0, l.1)
