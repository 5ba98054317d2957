-- One outcome per input: bytes print one text, whatever the points so far.
--   prints-one   two texts that a record prints over the same points are one
--   output_one   two texts that a stream prints after the same points are one
--   fills_one    as far as there is room, they are one too, and they are all that is printed or not alike
--   fills-front  what is printed as far as there is room is the front of the output
--   printed_one  `print_all` has one answer, and leaves one out slice
-- A number has one root, points have one list of labels, and bytes are read as one record; all else is worked out.
-- Assumes nothing.
use Prim.Native.Nat.{ℕ, suc, ◌+◌, ◌-◌}
use mathlib.Core.Path.{◌≡◌, refl, ap, sym, subst, ◌∙◌}
use mathlib.Core.List.{List, [], ◌∷◌, ◌++◌, append-nil, append_assoc}
use mathlib.Core.Bool.{Bool, true, false}
use native.Mathlib.Omega.{arith}
use lib.Dec.{T}
use lib.ListN.{length, drop}
use lib.Seq.{sets}
use lib.Ieee.{Float, binary64, of_bits, le}
use Rattle.root.proofs.Unique.{root_unique}
use Rattle.tree.specs.Points.{size}
use Rattle.tree.specs.Accepted.{Tree}
use Rattle.search.specs.Answer.{Answer, refused, damaged, hits}
use Rattle.search.specs.Order.{at}
use Rattle.search.specs.Result.{indices_of}
use Rattle.search.specs.declared.Best.{Best}
use Rattle.search.proofs.Written.{Held, roots_unique}
use Rattle.nearest.specs.Nearest as n
use Rattle.nearest.specs.Nearest.{Reply, near_scan}
use Rattle.k_nearest.specs.Query.{scan_answer}
use Rattle.labels.specs.Labels.{near}
use Rattle.labels.proofs.Unique.{labels_unique}
use Rattle.records.specs.declared.Record.{Record}
use Rattle.records.specs.declared.Record.TheVariants.{Point, Nearest, KNearest, Radius, Label, Unknown}
use Rattle.records.specs.declared.Read.{Read}
use Rattle.records.specs.declared.Read.TheVariants.{Whole, Cut, End}
use Rattle.text.specs.Line.{count_line, nearest_line, hit_lines, label_lines}
use Rattle.stream.specs.Prints.{over, Floats, Near, Listed, Replied, radius_scan, Labels, Prints}
use Rattle.stream.specs.Stream as s
use Rattle.stream.specs.Stream.{after, goes, Output}
use Rattle.stream.specs.declared.Printed.{Printed}
use Rattle.stream.specs.declared.Printed.TheVariants as p
use Rattle.stream.specs.Printing.{goes_on, Fills, full, end, more, Filled, PrintedBy}

-- ---- one record
held : (l : List Float) → Floats l → Held l
held [] h = tt
held (x ∷ l) h = (h 0 (omega arith), held l (λ i b. h (suc i) (omega arith)))

near-one : (r : Reply) (a b : List ℕ) → Near r a → Near r b → a ≡ b
near-one (n.hit s) a b h k =
    h.text_is ∙ ap (nearest_line s.index) (root_unique s.d2 h.distance k.distance h.float k.float h.root k.root) ∙ sym k.text_is
near-one n.empty a b h k = h ∙ sym k
near-one (n.refused number) a b h k = h ∙ sym k

listed_one : (letter : ℕ) (l : List Best) (a b : List ℕ) → Listed letter l a → Listed letter l b → a ≡ b
listed_one letter l a b h k =
    h.text_is
    ∙ ap (λ (rs : List Float). count_line letter (length l) ++ hit_lines (length l) (indices_of l) rs)
    (roots_unique h.each_root k.each_root (held h.roots h.floats) (held k.roots k.floats))
    ∙ sym k.text_is

replied-one : (letter : ℕ) (r : Answer) (a b : List ℕ) → Replied letter r a → Replied letter r b → a ≡ b
replied-one letter (refused number detail) a b h k = h ∙ sym k
replied-one letter damaged a b h k = h ∙ sym k
replied-one letter (hits l) a b h k = listed_one letter l a b h k

labels-one : (ok : Bool) (points : List Float) (epsilon : Float) (samples : ℕ) (a b : List ℕ)
    → Labels ok points epsilon samples a → Labels ok points epsilon samples b → a ≡ b
labels-one true points epsilon samples a b h k =
    h.text_is
    ∙ ap (λ (ls : List ℕ). count_line 67 (size points) ++ label_lines (size points) ls)
    (labels_unique (near points epsilon) (size points) samples h.labels k.labels h.labelled k.labelled)
    ∙ sym k.text_is
labels-one false points epsilon samples a b h k = h ∙ sym k

pub prints-one : (points : List Float) (what : Record) (a b : List ℕ) → Prints points what a → Prints points what b → a ≡ b
prints-one points (Point x y) a b h k = h ∙ sym k
prints-one points (Nearest x y) a b h k = near-one (near_scan (over points) (at x y)) a b h k
prints-one points (KNearest x y k') a b h k = replied-one 75 (scan_answer points (at x y) k' (size points)) a b h k
prints-one points (Radius x y radius) a b h k = replied-one 82 (radius_scan points (at x y) radius) a b h k
prints-one points (Label epsilon samples) a b h k = labels-one (le (of_bits binary64 0) epsilon) points epsilon samples a b h k
prints-one points Unknown a b h k = h ∙ sym k

-- ---- one reading
module _ {r : Read} where
  end_not_cut : {A : Type 0} → r ≡ End → r ≡ Cut → A
  end_not_cut d e = absurd (let z : ◌≡◌ {A = ℕ} 0 1 = cc in omega arith)

  module _ {what : Record} {next : ℕ} (e : r ≡ Whole what next) where
    whole_not_end : {A : Type 0} → r ≡ End → A
    whole_not_end d = absurd (let z : ◌≡◌ {A = ℕ} 0 1 = cc in omega arith)

    whole_not_cut : {A : Type 0} → r ≡ Cut → A
    whole_not_cut d = absurd (let z : ◌≡◌ {A = ℕ} 0 1 = cc in omega arith)

    same_record : {what' : Record} {next' : ℕ} → r ≡ Whole what' next' → what' ≡ what
    same_record d = cc

    same_place : {what' : Record} {next' : ℕ} → r ≡ Whole what' next' → next' ≡ next
    same_place d = cc

-- one reading prints one text
prints-same : (points : List Float) {r : Read} {what what' : Record} {next next' : ℕ} {a b : List ℕ} → r ≡ Whole what next → r ≡ Whole what' next'
    → Prints points what a → Prints points what' b → a ≡ b
prints-same points {what = what} {a = a} {b = b} e d w v = prints-one points what a b w (subst (λ (x : Record). Prints points x b) (same_record e d) v)

-- what was asked of another name of the record that was read, of its place and of its text
renamed : (Q : Record → ℕ → List ℕ → Type 0) {what what' : Record} {next next' : ℕ} {a b : List ℕ} → what' ≡ what → next' ≡ next → a ≡ b → Q what' next' b → Q what next a
renamed Q {what} {what'} {next} {next'} {a} {b} d e f q =
    subst (Q what next) (sym f) (subst (λ (k : ℕ). Q what k b) e (subst (λ (x : Record). Q x next' b) d q))

-- ---- the stream
pub output_one : {points : List Float} {bytes a b : List ℕ} → Output points bytes a → Output points bytes b → a ≡ b
output_one (s.over d) (s.over e) = refl
output_one (s.over d) (s.cut e) = end_not_cut d e
output_one (s.over d) (s.last what next text e g w) = whole_not_end e d
output_one (s.over d) (s.more what next text rest e g w o) = whole_not_end e d
output_one (s.cut d) (s.over e) = end_not_cut e d
output_one (s.cut d) (s.cut e) = refl
output_one (s.cut d) (s.last what next text e g w) = whole_not_cut e d
output_one (s.cut d) (s.more what next text rest e g w o) = whole_not_cut e d
output_one (s.last what next text e g w) (s.over d) = whole_not_end e d
output_one (s.last what next text e g w) (s.cut d) = whole_not_cut e d
output_one {points} (s.last what next text e g w) (s.last what' next' text' d f v) = prints-same points e d w v
output_one (s.last what next text e g w) (s.more what' next' text' rest' d f v o) = absurd (subst T (sym f ∙ ap goes (same_record e d) ∙ g) tt)
output_one (s.more what next text rest e g w o) (s.over d) = whole_not_end e d
output_one (s.more what next text rest e g w o) (s.cut d) = whole_not_cut e d
output_one (s.more what next text rest e g w o) (s.last what' next' text' d f v) = absurd (subst T (sym g ∙ ap goes (sym (same_record e d)) ∙ f) tt)
output_one {points} {bytes} (s.more what next text rest e g w o) (s.more what' next' text' rest' d f v q) =
    let z = prints-same points e d w v in
    ap (λ (l : List ℕ). l ++ rest) z
    ∙ ap (λ (l : List ℕ). text' ++ l) (output_one o (renamed (λ r k l. Output (after points r) (drop k bytes) rest') (same_record e d) (same_place e d) z q))

-- ---- as far as there is room
not_on : {r : Read} {what : Record} {next : ℕ} {A : Type 0} → r ≡ Whole what next → goes_on r ≡ false → goes what ≡ true → A
not_on e h g = absurd (subst T (sym (sym h ∙ ap goes_on e ∙ g)) tt)

pub fills_one : {room : ℕ} {points : List Float} {bytes a b : List ℕ} {u v : Bool} → Fills room points bytes u a → Fills room points bytes v b → (u ≡ v) × (a ≡ b)
fills_one (full h) (full k) = (refl, refl)
fills_one (full h) (end k f q) = absurd (omega arith)
fills_one (full h) (more what next text rest k e g w l) = absurd (omega arith)
fills_one (end h g o) (full k) = absurd (omega arith)
fills_one (end h g o) (end k f q) = (refl, output_one o q)
fills_one (end h g o) (more what next text rest k e f w l) = not_on e g f
fills_one (more what next text rest h e g w l) (full k) = absurd (omega arith)
fills_one (more what next text rest h e g w l) (end k f q) = not_on e f g
fills_one {room} {points} {bytes} {v = v} (more what next text rest h e g w l) (more what' next' text' rest' k d f w' l') =
    let z = prints-same points e d w w' in
    let o = fills_one l (renamed (λ r k x. Fills (room - length x) (after points r) (drop k bytes) v rest') (same_record e d) (same_place e d) z l') in
    (o.0, ap (λ (x : List ℕ). x ++ rest) z ∙ ap (λ (x : List ℕ). text' ++ x) o.1)

pub fills-front : {room : ℕ} {points : List Float} {bytes a b : List ℕ} {u : Bool} → Fills room points bytes u a → Output points bytes b → (rest : List ℕ) × (b ≡ a ++ rest)
fills-front {b = b} (full h) o = (b, refl)
fills-front {a = a} (end h g o) q = ([], output_one q o ∙ sym (append-nil a))
fills-front (more what next text rest h e g w l) (s.over d) = whole_not_end e d
fills-front (more what next text rest h e g w l) (s.cut d) = whole_not_cut e d
fills-front (more what next text rest h e g w l) (s.last what' next' text' d f v) = absurd (subst T (sym g ∙ ap goes (sym (same_record e d)) ∙ f) tt)
fills-front {points = points} {bytes} (more what next text rest h e g w l) (s.more what' next' text' rest' d f v o) =
    let z = prints-same points e d w v in
    let r = fills-front l (renamed (λ r k x. Output (after points r) (drop k bytes) rest') (same_record e d) (same_place e d) z o) in
    (r.0, ap (λ (x : List ℕ). x ++ rest') (sym z) ∙ ap (λ (x : List ℕ). text ++ x) r.1 ∙ sym (append_assoc text rest r.0))

-- ---- the entry
filled-one : {t : Tree} {bytes out out₁ out₂ : List ℕ} {u v : Bool} {n m : ℕ} → Filled t bytes out out₁ u n → Filled t bytes out out₂ v m → (u ≡ v) × (n ≡ m) × (out₁ ≡ out₂)
filled-one {out = out} F G =
    let o = fills_one F.fills G.fills in
    (o.0, F.put.past ∙ ap (λ (x : List ℕ). 0 + length x) o.1 ∙ sym G.put.past, F.put.bytes ∙ ap (sets out 0) o.1 ∙ sym G.put.bytes)

module _ (bytes : List ℕ) (t : Tree) (out : List ℕ) (t₁ t₂ : Tree) (out₁ out₂ : List ℕ) where
  pub printed_one : (a b : Printed) → PrintedBy bytes t out t₁ out₁ a → PrintedBy bytes t out t₂ out₂ b → (a ≡ b) × (out₁ ≡ out₂)
  printed_one (p.Whole n) (p.Whole m) F G = let o = filled-one F G in (ap p.Whole o.1, o.2)
  printed_one (p.Whole n) (p.Full m) F G = absurd (subst T (filled-one F G).0 tt)
  printed_one (p.Whole n) p.Short F G = absurd (G.too_short F.roomy)
  printed_one (p.Full n) (p.Whole m) F G = absurd (subst T (sym (filled-one F G).0) tt)
  printed_one (p.Full n) (p.Full m) F G = let o = filled-one F G in (ap p.Full o.1, o.2)
  printed_one (p.Full n) p.Short F G = absurd (G.too_short F.roomy)
  printed_one p.Short (p.Whole m) F G = absurd (F.too_short G.roomy)
  printed_one p.Short (p.Full m) F G = absurd (F.too_short G.roomy)
  printed_one p.Short p.Short F G = (refl, F.same_out ∙ sym G.same_out)
