-- A piece at a time is the whole.
--   joined-on, -off  what a piece printed, and then what the rest of it with all that follows prints, is what all prints at once
-- A record that is whole in a piece is the same record, whatever follows; by induction on the records taken. Assumes nothing.
use Prim.Native.Nat.{ℕ, ◌+◌, ◌-◌, ◌≤◌, ◌<◌}
use mathlib.Core.Path.{◌≡◌, refl, ap, sym, subst, ◌∙◌}
use mathlib.Core.List.{List, ◌++◌, append_assoc}
use mathlib.Core.Bool.{Bool, true, false, cond}
use native.Mathlib.Omega.{arith}
use lib.ListN.{length, drop, get_or, length-append, length-drop, get_or-append}
use lib.Seq.{get_or-drop, drop-append-le, drop-drop}
use lib.Dec.{T, ltb, leb, eqb}
use lib.Ieee.{Float, binary64, of_bits}
use borrow.Author.Tests.{le-leb, lt-ltb}
use Rattle.records.specs.Record.{read_at, body_of, record_at, word_at, long_at, float_at}
use Rattle.records.specs.declared.Record.{Record}
use Rattle.records.specs.declared.Record.TheVariants.{Point, Nearest, KNearest, Radius, Label, Unknown}
use Rattle.records.specs.declared.Read.TheVariants.{Whole, Cut, End}
use Rattle.stream.specs.Stream.{after, Output, last, more}
use Rattle.stream.specs.Feeding as f
use Rattle.stream.specs.Feeding.{Takes}
use Rattle.stream.proofs.Turns.{place}

-- ---- the same bytes further on
module _ (s u : List ℕ) (at : ℕ) where
  byte : (i j : ℕ) → j ≡ at + i → j < length s → get_or (drop at s ++ u) i 0 ≡ get_or s j 0
  byte i j e h =
      get_or-append (drop at s) u 0 i (omega (arith, length-drop at s)) ∙ get_or-drop at s i 0 ∙ ap (λ (k : ℕ). get_or s k 0) (sym e)

  word : (i j : ℕ) → j ≡ at + i → j + 4 ≤ length s → word_at (drop at s ++ u) i ≡ word_at s j
  unfolding word_at
  word i j e h =
      let a : get_or (drop at s ++ u) i 0 ≡ get_or s j 0 = byte i j e (omega arith) in
      let b : get_or (drop at s ++ u) (i + 1) 0 ≡ get_or s (j + 1) 0 = byte (i + 1) (j + 1) (omega arith) (omega arith) in
      let c : get_or (drop at s ++ u) (i + 2) 0 ≡ get_or s (j + 2) 0 = byte (i + 2) (j + 2) (omega arith) (omega arith) in
      let d : get_or (drop at s ++ u) (i + 3) 0 ≡ get_or s (j + 3) 0 = byte (i + 3) (j + 3) (omega arith) (omega arith) in
      omega (arith, a, b, c, d)

  float : (i j : ℕ) → j ≡ at + i → j + 8 ≤ length s → float_at (drop at s ++ u) i ≡ float_at s j
  unfolding float_at long_at
  float i j e h =
      let a : word_at (drop at s ++ u) i ≡ word_at s j = word i j e (omega arith) in
      let b : word_at (drop at s ++ u) (i + 4) ≡ word_at s (j + 4) = word (i + 4) (j + 4) (omega arith) (omega arith) in
      let d : long_at (drop at s ++ u) i ≡ long_at s j = omega (arith, a, b) in
      ap (of_bits binary64) d

  record_by : (b₁ b₂ b₃ b₄ b₅ : Bool) (i j : ℕ) → j ≡ at + i → j + cond b₁ 16 (cond b₂ 16 (cond b₃ 20 (cond b₄ 24 (cond b₅ 12 0)))) ≤ length s
      → cond b₁ (Point (float_at (drop at s ++ u) i) (float_at (drop at s ++ u) (i + 8)))
      (cond b₂ (Nearest (float_at (drop at s ++ u) i) (float_at (drop at s ++ u) (i + 8)))
      (cond b₃ (KNearest (float_at (drop at s ++ u) i) (float_at (drop at s ++ u) (i + 8)) (word_at (drop at s ++ u) (i + 16)))
      (cond b₄ (Radius (float_at (drop at s ++ u) i) (float_at (drop at s ++ u) (i + 8)) (float_at (drop at s ++ u) (i + 16)))
      (cond b₅ (Label (float_at (drop at s ++ u) i) (word_at (drop at s ++ u) (i + 8))) Unknown))))
      ≡ cond b₁ (Point (float_at s j) (float_at s (j + 8)))
      (cond b₂ (Nearest (float_at s j) (float_at s (j + 8)))
      (cond b₃ (KNearest (float_at s j) (float_at s (j + 8)) (word_at s (j + 16)))
      (cond b₄ (Radius (float_at s j) (float_at s (j + 8)) (float_at s (j + 16)))
      (cond b₅ (Label (float_at s j) (word_at s (j + 8))) Unknown))))
  record_by true b₂ b₃ b₄ b₅ i j e h = cc (float i j e (omega arith), float (i + 8) (j + 8) (omega arith) (omega arith))
  record_by false true b₃ b₄ b₅ i j e h = cc (float i j e (omega arith), float (i + 8) (j + 8) (omega arith) (omega arith))
  record_by false false true b₄ b₅ i j e h = cc (float i j e (omega arith), float (i + 8) (j + 8) (omega arith) (omega arith), word (i + 16) (j + 16) (omega arith) (omega arith))
  record_by false false false true b₅ i j e h = cc (float i j e (omega arith), float (i + 8) (j + 8) (omega arith) (omega arith), float (i + 16) (j + 16) (omega arith) (omega arith))
  record_by false false false false true i j e h = cc (float i j e (omega arith), word (i + 8) (j + 8) (omega arith) (omega arith))
  record_by false false false false false i j e h = refl

  pub shift : (what : Record) (next : ℕ) → read_at s at ≡ Whole what next → read_at (drop at s ++ u) 0 ≡ Whole what (next - at)
  shift what next e =
      let P = place s at what next e in
      let kind : get_or (drop at s ++ u) 0 0 ≡ get_or s at 0 = byte 0 at (omega arith) P.before in
      let n : length (drop at s ++ u) ≡ length s - at + length u = length-append (drop at s) u ∙ ap (λ (x : ℕ). x + length u) (length-drop at s) in
      let k : body_of (get_or s at 0) ≤ length s - (at + 1) = P.body in
      let j : at + 1 + body_of (get_or s at 0) ≡ next = P.past in
      let h : at < length s = P.before in
      let d : record_at (drop at s ++ u) (get_or s at 0) 1 ≡ record_at s (get_or s at 0) (at + 1) =
      record_by (eqb (get_or s at 0) 1) (eqb (get_or s at 0) 2) (eqb (get_or s at 0) 3) (eqb (get_or s at 0) 4) (eqb (get_or s at 0) 5) 1 (at + 1) (omega arith) (omega arith) in
      let x : 0 < length (drop at s ++ u) = omega arith in
      let y : body_of (get_or s at 0) ≤ length (drop at s ++ u) - (0 + 1) = omega arith in
      let m : 0 + 1 + body_of (get_or s at 0) ≡ next - at = omega arith in
      ap (λ (q : ℕ). cond (ltb 0 (length (drop at s ++ u))) (cond (leb (body_of q) (length (drop at s ++ u) - (0 + 1))) (Whole (record_at (drop at s ++ u) q (0 + 1)) (0 + 1 + body_of q)) Cut) End) kind
      ∙ simp (lt-ltb 0 (length (drop at s ++ u)) x, le-leb (body_of (get_or s at 0)) (length (drop at s ++ u) - (0 + 1)) y)
      (ap (λ (q : ℕ). Whole (record_at (drop at s ++ u) (get_or s at 0) (0 + 1)) q) m ∙ ap (λ (q : Record). Whole q (next - at)) (d ∙ P.is))

  pub rest : (what : Record) (next : ℕ) → read_at s at ≡ Whole what next → drop (next - at) (drop at s ++ u) ≡ drop next s ++ u
  rest what next e =
      let P = place s at what next e in
      let k : body_of (get_or s at 0) ≤ length s - (at + 1) = P.body in
      let j : at + 1 + body_of (get_or s at 0) ≡ next = P.past in
      let h : at < length s = P.before in
      let q : at + (next - at) ≡ next = omega arith in
      drop-append-le (next - at) (drop at s) u (omega (arith, length-drop at s)) ∙ ap (λ (l : List ℕ). l ++ u) (drop-drop (next - at) at s ∙ ap (λ (k : ℕ). drop k s) q)

-- ---- what follows a piece is read after what the piece left; a piece that ended the stream has printed all
module _ (s u : List ℕ) (from : ℕ) (p : List Float) {room : ℕ} where
  pub joined-on : {t : List ℕ} {at : ℕ} {q : List Float} {g : Bool} → Takes room s from p t at q g → g ≡ true → (t' : List ℕ) → Output q (drop at s ++ u) t'
      → Output p (drop from s ++ u) (t ++ t')
  joined-on f.none g t' o = o
  joined-on (f.then {t} {at} {next} {q} what v k b e w) g t' o =
      subst (Output p (drop from s ++ u)) (sym (append_assoc t v t'))
      (joined-on k refl (v ++ t')
      (more what (next - at) v t' (shift s u at what next e) g w (subst (λ (l : List ℕ). Output (after q what) l t') (sym (rest s u at what next e)) o)))

  pub joined_off : {t : List ℕ} {at : ℕ} {q : List Float} {g : Bool} → Takes room s from p t at q g → g ≡ false → Output p (drop from s ++ u) t
  joined_off f.none g = absurd (subst T g tt)
  joined_off (f.then {t} {at} {next} {q} what v k b e w) g = joined-on k refl v (last what (next - at) v (shift s u at what next e) g w)
