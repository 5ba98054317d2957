-- What a label query prints: over finite points, with room for all that it needs, only epsilon can refuse it. Assumes nothing.
use Prim.Native.Nat.{ℕ, ◌*◌, ◌≤◌}
use mathlib.Core.Path.{◌≡◌, refl, ap, sym, subst, ◌∙◌}
use mathlib.Core.List.{List, ◌++◌}
use mathlib.Core.Bool.{Bool, true, false, not, cond}
use native.Mathlib.Omega.{arith}
use lib.Dec.{T}
use lib.ListN.{length, take, length-append}
use lib.Seq.{get_or-take}
use lib.Ieee.{Float, binary64, of_bits, le}
use borrow.Author.Tests.{le-ltb}
use Rattle.tree.specs.Points.{size}
use Rattle.tree.specs.Accepted.{tree}
use Rattle.labels.specs.Labels.{near, Labelled}
use Rattle.std.proofs.Common.{Result, Ok, Err}
use Rattle.refusal.specs.Numbers.{Told, done, refused, number}
use Rattle.refusal.specs.declared.Refusal.{Refusal}
use Rattle.dbscan.specs.Outcome.{labelled, verdict, Slices, slices, Outcome}
use Rattle.records.specs.declared.Record.TheVariants.{Label}
use Rattle.text.specs.Line.{Put, count_line, label_line, label_lines}
use Rattle.text.proofs.Laws.{short-count, short-labels, lines_same}
use Rattle.stream.specs.Prints.{error, Labels}
use Rattle.stream.specs.Feeding.{Replies}
use Rattle.stream.specs.Asked.{Raising, label_text}
use Rattle.stream.proofs.Raised.{built}

verdict-is : (plan : Told) (epsilon : Float) (n labels work : ℕ) → plan.given ≡ true → n ≤ labels → 2 * n ≤ work
    → verdict plan epsilon n labels work ≡ cond (not (le (of_bits binary64 0) epsilon)) (refused 5 0) labelled
verdict-is plan epsilon n labels work b h k = simp (b, le-ltb labels n h, le-ltb work (2 * n) k)

says : (r : Result Unit Refusal) (b : Bool) (p : List Float) (epsilon : Float) (m : ℕ) (ls : List ℕ) → done r ≡ cond (not b) (refused 5 0) labelled
    → ((done r).given ≡ true → Labelled (near p epsilon) (size p) m (take (size p) ls)) → Labels b p epsilon m (label_text r (size p) ls)
says (Ok u) true p epsilon m ls e h = record {
  labels = take (size p) ls;
  labelled = h refl;
  text_is = ap (λ (z : List ℕ). count_line 67 (size p) ++ z) (lines_same (size p) _ _ (λ i b. ap label_line (sym (get_or-take (size p) ls i 0 b))));
}
says (Ok u) false p epsilon m ls e h = absurd (subst T (ap (λ (z : Told). z.given) e) tt)
says (Err r) true p epsilon m ls e h = absurd (subst T (sym (ap (λ (z : Told). z.given) e)) tt)
says (Err r) false p epsilon m ls e h = ap (λ (z : Told). error z.number) e

label-short : (r : Result Unit Refusal) (n : ℕ) (ls : List ℕ) → n ≤ 1024 → length (label_text r n ls) ≤ 32768
label-short (Ok u) n ls h = omega (arith, length-append (count_line 67 n) (label_lines n ls), short-count 67 n, short-labels n ls)
label-short (Err r) n ls h = omega (arith, short-count 69 (number r))

module _ (p : List Float) (epsilon : Float) (m : ℕ) (indices : List ℕ) (boxes : List Float) (links labels work out : List ℕ) (at : ℕ)
    (L : Raising p indices boxes links) (l : 1024 ≤ length labels) (w : 2048 ≤ length work) where
  label-prints : (r : Result Unit Refusal) (s : Slices) → Outcome epsilon m (slices (tree p indices boxes links) labels work) (done r) s
      → Labels (le (of_bits binary64 0) epsilon) p epsilon m (label_text r (size p) s.labels)
  label-prints r s O =
      says r (le (of_bits binary64 0) epsilon) p epsilon m s.labels
      (O.due.told_is
      ∙ verdict-is O.due.plan epsilon (size p) (length labels) (length work)
      (built 16 p indices boxes links L O.due.plan O.due.planned)
      (omega (arith, L.few, l)) (omega (arith, L.few, w)))
      (λ a. (O.answers a).labels_are)

  module _ {r : Result Unit Refusal} {s : Slices} (O : Outcome epsilon m (slices (tree p indices boxes links) labels work) (done r) s) {out' : List ℕ} {next : ℕ} where
    says-label : (x : Result Unit Refusal) → r ≡ x → Put out at (label_text x (size p) s.labels) out' next → Replies (Label epsilon m) p out at out' next
    says-label x e q = record {
      text = label_text x (size p) s.labels;
      prints = subst (λ (z : Result Unit Refusal). Labels (le (of_bits binary64 0) epsilon) p epsilon m (label_text z (size p) s.labels)) e (label-prints r s O);
      short = label-short x (size p) s.labels L.few;
      put = q;
    }

    pub label-given : (u : Unit) → r ≡ Ok u → Put out at (count_line 67 (size p) ++ label_lines (size p) s.labels) out' next → Replies (Label epsilon m) p out at out' next
    label-given u e q = says-label (Ok u) e q

    pub label-refused : (k : Refusal) → r ≡ Err k → Put out at (error (number k)) out' next → Replies (Label epsilon m) p out at out' next
    label-refused k e q = says-label (Err k) e q
