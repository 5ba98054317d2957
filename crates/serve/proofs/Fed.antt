-- A piece that `stream::feed` took: what follows is answered after it, and a rest that waits is short. Assumes nothing.
use Prim.Native.Nat.{ℕ, ◌+◌, ◌-◌, ◌≤◌, ◌<◌}
use mathlib.Core.Path.{◌≡◌, refl, ap, sym, subst, ◌∙◌}
use mathlib.Core.List.{List, [], ◌∷◌, ◌++◌}
use mathlib.Core.Bool.{Bool, true, false, cond}
use native.Mathlib.Omega.{arith}
use lib.ListN.{length, drop, take, get_or, length-drop}
use lib.Seq.{sets-eq, take_at}
use lib.Dec.{ltb, leb, eqb}
use lib.Ieee.{Float}
use borrow.Author.Tests.{ltb-true, ltb-false, leb-false}
use Rattle.records.specs.Record.{body_of, record_at}
use Rattle.text.specs.Line.{Put, decimals}
use Rattle.stream.specs.declared.Fed.{Fed}
use Rattle.stream.specs.declared.Stop.{Stop}
use Rattle.stream.specs.declared.Stop.TheVariants.{Hungry}
use Rattle.stream.specs.Prints.{error}
use Rattle.stream.specs.Stream.{Output, over, cut}
use Rattle.stream.specs.Feeding as feeding
use Rattle.stream.specs.Feeding.{Ends, on, FedBy}
use Rattle.stream.proofs.Pieces.{joined-on, joined_off}
use Rattle.stream.proofs.Printing.{wants-cut, over-at, cut_at}
use Rattle.serve.specs.Waiting.{longest_record}
use Rattle.serve.specs.Serving.{cut_line, tail, Waits}

put-front : (before text now : List ℕ) (next : ℕ) → Put before 0 text now next → next ≤ length before → take next now ≡ text
put-front before text now next P h =
    ap (take next) (P.bytes ∙ sets-eq text before 0 (omega (arith, P.past, h))) ∙ take_at text (drop (0 + length text) before) next (let e = P.past in omega arith)

body-few : (b₁ b₂ b₃ b₄ b₅ : Bool) → cond b₁ 16 (cond b₂ 16 (cond b₃ 20 (cond b₄ 24 (cond b₅ 12 0)))) ≤ 24
body-few true b₂ b₃ b₄ b₅ = omega arith
body-few false true b₃ b₄ b₅ = omega arith
body-few false false true b₄ b₅ = omega arith
body-few false false false true b₅ = omega arith
body-few false false false false true = omega arith
body-few false false false false false = omega arith

-- ---- what is printed for a rest at the end
pub tail-none : (l : List ℕ) → length l ≤ 0 → tail l ≡ []
tail-none [] h = refl
tail-none (x ∷ l) h = absurd (omega arith)

pub tail-some : (l : List ℕ) → 0 < length l → tail l ≡ cut_line
tail-some [] h = absurd (omega arith)
tail-some (x ∷ l) h = refl

cut_line-is : cut_line ≡ error 10
unfolding decimals
cut_line-is = refl

module _ (s : List ℕ) (p : List Float) (out : List ℕ) {p' : List Float} {out' : List ℕ} (f : Fed) (F : FedBy s 0 p out p' out' f) where
  written : take f.wrote out' ≡ F.text
  written = put-front out F.text out' f.wrote F.put F.room

  pub yields : on f.stop ≡ true → (more t : List ℕ) → Output p' (drop f.used s ++ more) t → Output p (s ++ more) (take f.wrote out' ++ t)
  yields g more t o = subst (λ (x : List ℕ). Output p (s ++ more) (x ++ t)) (sym written) (joined-on s more 0 p F.takes g t o)

  pub whole : on f.stop ≡ false → (more : List ℕ) → Output p (s ++ more) (take f.wrote out')
  whole g more = subst (Output p (s ++ more)) (sym written) (joined_off s more 0 p F.takes g)

  pub within : f.used ≤ length s
  within = F.inside (omega arith)

  wants : f.stop ≡ Hungry → feeding.Waits s f.used (length out - f.wrote)
  wants e = subst (λ (x : Stop). Ends x s f.used (length out - f.wrote)) e F.ends

  rest_is : length (drop f.used s) ≡ length s - f.used
  rest_is = length-drop f.used s

  short : f.stop ≡ Hungry → length (drop f.used s) < longest_record
  short e = go (ltb f.used (length s)) refl
    where
      go : (b : Bool) → ltb f.used (length s) ≡ b → length (drop f.used s) < longest_record
      go true g =
          let d : leb (body_of (get_or s f.used 0)) (length s - (f.used + 1)) ≡ false =
          wants-cut (ltb f.used (length s)) _ (record_at s (get_or s f.used 0) (f.used + 1)) (f.used + 1 + body_of (get_or s f.used 0)) g (wants e).wants in
          let k : length s - (f.used + 1) < body_of (get_or s f.used 0) = leb-false (body_of (get_or s f.used 0)) (length s - (f.used + 1)) d in
          let m : body_of (get_or s f.used 0) ≤ 24 = body-few (eqb (get_or s f.used 0) 1) (eqb (get_or s f.used 0) 2) (eqb (get_or s f.used 0) 3) (eqb (get_or s f.used 0) 4) (eqb (get_or s f.used 0) 5) in
          omega (arith, rest_is)
      go false g = let z : length s ≤ f.used = ltb-false f.used (length s) g in omega (arith, rest_is)

  rest_prints : f.stop ≡ Hungry → Output p' (drop f.used s) (tail (drop f.used s))
  rest_prints e = go (ltb f.used (length s)) refl
    where
      go : (b : Bool) → ltb f.used (length s) ≡ b → Output p' (drop f.used s) (tail (drop f.used s))
      go true g =
          let h : f.used < length s = ltb-true f.used (length s) g in
          subst (Output p' (drop f.used s)) (sym (tail-some (drop f.used s) (omega (arith, rest_is)) ∙ cut_line-is)) (cut (cut_at s f.used h (wants e).wants))
      go false g =
          let h : length s ≤ f.used = ltb-false f.used (length s) g in
          subst (Output p' (drop f.used s)) (sym (tail-none (drop f.used s) (omega (arith, rest_is)))) (over (over-at s f.used h))

  pub waits : f.stop ≡ Hungry → Waits p' (drop f.used s)
  waits e = record { short = short e; prints = rest_prints e }
