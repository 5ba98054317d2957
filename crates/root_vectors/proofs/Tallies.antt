-- A line whose patterns are equal has the root that it expects; and where as many lines agree as were read, each of
-- them does. Assumes nothing.
use mathlib.Core.Path.{◌≡◌, refl, sym, ap, ◌∙◌, subst}
use mathlib.Core.Bool.{true}
use mathlib.Core.Logic.{◌⊎◌, inl, inr}
use mathlib.Core.List.{List}
use Prim.Native.Nat.{ℕ, suc, ◌+◌, ◌*◌, ◌/◌, ◌≤◌, ◌<◌}
use native.Mathlib.Nat.{eq-or-lt_of_le, le_antisymm}
use native.Mathlib.Omega.{arith}
use lib.ListN.{length}
use Rattle.std.proofs.Common.{Option}
use lib.Dec.{T, eqb, eqb→eq}
use lib.Ieee.{Float, binary64, of_bits}
use Rattle.patterns.specs.Digits.{word, IsPattern}
use Rattle.root.specs.Root.{Root}
use Rattle.root_vectors.specs.Vectors.{number, expected, Tallied}

-- b and e are the words of line i, x the float of b, r its root, p the pattern of r
pub line_root : {x r : Float} {b p e : ℕ} (s : List ℕ) (i : ℕ) → b ≡ word s (i * 34) → x ≡ of_bits binary64 b → Root x r → IsPattern r p → e ≡ word s (i * 34 + 17) → eqb p e ≡ true → Root (number s i) (expected s i)
line_root {x} {r} {b} {p} {e} s i hb hx h hp he q =
    subst (λ (y : Float). Root y (expected s i)) (hx ∙ ap (of_bits binary64) hb)
    (subst (λ (y : Float). Root x y) (sym hp.reads ∙ ap (of_bits binary64) (eqb→eq p e (subst T (sym q) tt) ∙ he)) h)

-- of the first i lines, `agree` agree
pub record Seen (s : List ℕ) (agree i : ℕ) : Type 0 where
  pub some : agree ≤ i
  pub every : agree ≡ i → (j : ℕ) → j < i → Root (number s j) (expected s j)

pub seen_none : (s : List ℕ) → Seen s 0 0
seen_none s = record { some = omega arith; every = λ e j h. absurd (none j h) }
  where
    none : (j : ℕ) → j < 0 → ⊥
    none j h = omega arith

pub seen_agrees : {s : List ℕ} {agree i : ℕ} → Seen s agree i → Root (number s i) (expected s i) → Seen s (agree + 1) (i + 1)
seen_agrees {s} {agree} {i} w r = record { some = omega (arith, w.some); every = λ e j h. here j (eq-or-lt_of_le h) (omega arith) }
  where
    here : (j : ℕ) → (suc j ≡ i + 1) ⊎ (suc j < i + 1) → agree ≡ i → Root (number s j) (expected s j)
    here j (inl e) q = let d : i ≡ j = omega arith in subst (λ (k : ℕ). Root (number s k) (expected s k)) d r
    here j (inr l) q = w.every q j (omega arith)

pub seen_differs : {s : List ℕ} {agree i : ℕ} → Seen s agree i → Seen s agree (i + 1)
seen_differs {s} {agree} {i} w = record { some = omega (arith, w.some); every = λ e j h. absurd (never e w.some) }
  where
    never : agree ≡ i + 1 → agree ≤ i → ⊥
    never e h = omega arith

pub seen_all : {s : List ℕ} {agree i : ℕ} (first : Option ℕ) → Seen s agree i → i ≤ length s / 34 → length s / 34 ≤ i → Tallied s (record { lines = length s / 34; agree = agree; first = first })
seen_all {s} {agree} {i} first w h k =
    let e : i ≡ length s / 34 = le_antisymm h k in
    let v = rw e at w in
    record { lines_is = refl; agree_le = v.some; all_agree = v.every }
