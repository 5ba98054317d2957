-- A whole stream printed at once: what `feed` made of it from no points on, and the line of a record that is cut, is what the
-- stream prints as far as there is room.
--   fills_output         where that is all, it is the output of the stream
--   fills-on, -off       records that were taken, and then what the rest prints, as far as there is room
--   filled-full, -done, -over, -cut   the ways that `print_all` ends
-- By induction on the records taken, as in Pieces. Assumes nothing.
use Prim.Native.Nat.{ℕ, ◌+◌, ◌-◌, ◌≤◌, ◌<◌}
use mathlib.Core.Path.{◌≡◌, refl, ap, sym, subst, ◌∙◌}
use mathlib.Core.List.{List, [], ◌++◌, append-nil, append_assoc}
use mathlib.Core.Bool.{Bool, true, false, cond}
use native.Mathlib.Omega.{arith}
use lib.ListN.{length, drop, get_or, length-append, length-drop}
use lib.Seq.{get_or-drop}
use lib.Dec.{T, ltb, leb}
use lib.Ieee.{Float}
use borrow.Author.Tests.{lt-ltb, le-ltb, lt-leb, leb-false}
use Rattle.tree.specs.Accepted.{Tree, tree}
use Rattle.records.specs.Record.{read_at, body_of, record_at}
use Rattle.records.specs.declared.Record.{Record}
use Rattle.records.specs.declared.Read.TheVariants.{Whole, Cut, End}
use Rattle.text.specs.Line.{Put}
use Rattle.text.proofs.Laws.{then, kept, named, short-count}
use Rattle.stream.specs.declared.Fed.{Fed}
use Rattle.stream.specs.declared.Stop.{Stop}
use Rattle.stream.specs.declared.Stop.TheVariants.{Hungry, Full, Done}
use Rattle.stream.specs.Prints.{error}
use Rattle.stream.specs.Stream as s
use Rattle.stream.specs.Stream.{after, Output}
use Rattle.stream.specs.Feeding as takes
use Rattle.stream.specs.Feeding.{longest, Takes, Wants, Waits, Ends, on, FedBy}
use Rattle.stream.specs.Printing.{goes_on, Fills, full, end, more, Roomy, Filled}
use Rattle.stream.proofs.Pieces.{shift, rest}

pub fills_output : {room : ℕ} {points : List Float} {bytes : List ℕ} {whole : Bool} {text : List ℕ} → Fills room points bytes whole text → whole ≡ true → Output points bytes text
fills_output (full h) g = absurd (subst T (sym g) tt)
fills_output (end h g o) _ = o
fills_output (more what next text tail h e g w l) z = s.more what next text tail e g w (fills_output l z)

-- ---- records that were taken, and then what the rest prints
module _ (bytes u : List ℕ) (from : ℕ) (p : List Float) {room : ℕ} where
  pub fills-on : {t : List ℕ} {at : ℕ} {q : List Float} {g : Bool} → Takes room bytes from p t at q g → g ≡ true → {whole : Bool} (t' : List ℕ)
      → Fills (room - length t) q (drop at bytes ++ u) whole t' → Fills room p (drop from bytes ++ u) whole (t ++ t')
  fills-on takes.none g {whole} t' o = subst (λ (k : ℕ). Fills k p (drop from bytes ++ u) whole t') (omega arith) o
  fills-on (takes.then {t} {at} {next} {q} what v k b e w) g {whole} t' o =
      subst (Fills room p (drop from bytes ++ u) whole) (sym (append_assoc t v t'))
      (fills-on k refl (v ++ t')
      (more what (next - at) v t' (omega (arith, b)) (shift bytes u at what next e) g w
      (subst (λ (l : List ℕ). Fills (room - length t - length v) (after q what) l whole t') (sym (rest bytes u at what next e))
      (subst (λ (j : ℕ). Fills j (after q what) (drop next bytes ++ u) whole t') (omega (arith, length-append t v)) o))))

  pub fills_off : {t : List ℕ} {at : ℕ} {q : List Float} {g : Bool} → Takes room bytes from p t at q g → g ≡ false → Fills room p (drop from bytes ++ u) true t
  fills_off takes.none g = absurd (subst T g tt)
  fills_off (takes.then {t} {at} {next} {q} what v k b e w) g =
      let r = shift bytes u at what next e in
      fills-on k refl v (end (omega (arith, b)) (ap goes_on r ∙ g) (s.last what (next - at) v r g w))

-- ---- what is left where no whole record is
pub wants-cut : (b d : Bool) (r : Record) (k : ℕ) → b ≡ true → Wants (cond b (cond d (Whole r k) Cut) End) → d ≡ false
wants-cut true true r k e w = absurd w
wants-cut true false r k e w = refl
wants-cut false d r k e w = absurd (subst T (sym e) tt)

module _ (bytes : List ℕ) (at : ℕ) where
  pub over-at : length bytes ≤ at → read_at (drop at bytes) 0 ≡ End
  over-at h = let n : length (drop at bytes) ≤ 0 = omega (arith, length-drop at bytes) in simp (le-ltb 0 (length (drop at bytes)) n)

  pub cut_at : at < length bytes → Wants (read_at bytes at) → read_at (drop at bytes) 0 ≡ Cut
  cut_at h w =
      let kind : get_or (drop at bytes) 0 0 ≡ get_or bytes at 0 = get_or-drop at bytes 0 0 ∙ ap (λ (k : ℕ). get_or bytes k 0) (omega arith) in
      let n : length (drop at bytes) ≡ length bytes - at = length-drop at bytes in
      let d : leb (body_of (get_or bytes at 0)) (length bytes - (at + 1)) ≡ false =
      wants-cut (ltb at (length bytes)) _ (record_at bytes (get_or bytes at 0) (at + 1)) (at + 1 + body_of (get_or bytes at 0)) (lt-ltb at (length bytes) h) w in
      let k : length bytes - (at + 1) < body_of (get_or bytes at 0) = leb-false (body_of (get_or bytes at 0)) (length bytes - (at + 1)) d in
      let x : 0 < length (drop at bytes) = omega arith in
      let y : length (drop at bytes) - (0 + 1) < body_of (get_or bytes at 0) = omega arith in
      ap (λ (q : ℕ). cond (ltb 0 (length (drop at bytes))) (cond (leb (body_of q) (length (drop at bytes) - (0 + 1))) (Whole (record_at (drop at bytes) q (0 + 1)) (0 + 1 + body_of q)) Cut) End) kind
      ∙ simp (lt-ltb 0 (length (drop at bytes)) x, lt-leb (body_of (get_or bytes at 0)) (length (drop at bytes) - (0 + 1)) y)

-- ---- the ways out of `print_all`
pub roomy : {p : List Float} {i : List ℕ} {b : List Float} {l : List ℕ} → 2048 ≤ length p → 1024 ≤ length i → 12288 ≤ length b → 8192 ≤ length l → Roomy (tree p i b l)
roomy hp hi hb hl = record { points_room = hp; indices_room = hi; boxes_room = hb; links_room = hl }

module _ (bytes out : List ℕ) {p' : List Float} {out' : List ℕ} (f : Fed) (F : FedBy bytes 0 [] out p' out' f) where
  -- what follows the records that were taken is what is left
  after-all : {whole : Bool} (t' : List ℕ) → on f.stop ≡ true → Fills (length out - length F.text) p' (drop f.used bytes) whole t'
      → Fills (length out) [] bytes whole (F.text ++ t')
  after-all {whole} t' g l =
      subst (λ (x : List ℕ). Fills (length out) [] x whole (F.text ++ t')) (append-nil bytes)
      (fills-on bytes [] 0 [] F.takes g t'
      (subst (λ (x : List ℕ). Fills (length out - length F.text) p' x whole t') (sym (append-nil (drop f.used bytes))) l))

  waits : f.stop ≡ Hungry → Waits bytes f.used (length out - f.wrote)
  waits e = subst (λ (x : Stop). Ends x bytes f.used (length out - f.wrote)) e F.ends

  pub cut-room : f.stop ≡ Hungry → f.wrote + 13 ≤ length out'
  cut-room e = omega (arith, kept F.put, (waits e).room)

  module _ {t : Tree} (R : Roomy t) where
    pub filled-full : f.stop ≡ Full → Filled t bytes out out' false f.wrote
    filled-full e =
        let h : length out - f.wrote < longest = subst (λ (x : Stop). Ends x bytes f.used (length out - f.wrote)) e F.ends in record {
          roomy = R;
          text = F.text ++ [];
          fills = after-all [] (ap on e) (full (omega (arith, F.put.past, h)));
          put = named (sym (append-nil F.text)) F.put;
          inside = F.room;
        }

    pub filled-done : f.stop ≡ Done → Filled t bytes out out' true f.wrote
    filled-done e = record {
      roomy = R;
      text = F.text;
      fills = subst (λ (x : List ℕ). Fills (length out) [] x true F.text) (append-nil bytes) (fills_off bytes [] 0 [] F.takes (ap on e));
      put = F.put;
      inside = F.room;
    }

    pub filled-over : f.stop ≡ Hungry → length bytes ≤ f.used → Filled t bytes out out' true f.wrote
    filled-over e h =
        let r = over-at bytes f.used h in record {
          roomy = R;
          text = F.text ++ [];
          fills = after-all [] (ap on e) (end (omega (arith, F.put.past, (waits e).room)) (ap goes_on r) (s.over r));
          put = named (sym (append-nil F.text)) F.put;
          inside = F.room;
        }

    pub filled-cut : f.stop ≡ Hungry → f.used < length bytes → {out'' : List ℕ} {w : ℕ} → Put out' f.wrote (error 10) out'' w → Filled t bytes out out'' true w
    filled-cut e h q =
        let r = cut_at bytes f.used h (waits e).wants in record {
          roomy = R;
          text = F.text ++ error 10;
          fills = after-all (error 10) (ap on e) (end (omega (arith, F.put.past, (waits e).room)) (ap goes_on r) (s.cut r));
          put = then F.put q;
          inside = omega (arith, cut-room e, kept F.put, q.past, short-count 69 10);
        }
