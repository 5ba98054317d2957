-- What a query that lists hits prints: its answer, with the slices that it leaves, is written as the lines of the hits, and
-- no distance among them is a NaN. For any query whose hits are at squares of no minus sign. Assumes nothing.
use Prim.Native.Nat.{ℕ, zero, suc, ◌+◌, ◌≤◌, ◌<◌}
use mathlib.Core.Path.{◌≡◌, refl, ap, sym, subst, ◌∙◌}
use mathlib.Core.List.{List, [], ◌∷◌, ◌++◌}
use mathlib.Core.Bool.{not}
use native.Mathlib.Omega.{arith}
use lib.Dec.{T}
use lib.ListN.{length, get_or, drop, length-append, length-map, get_or-append}
use lib.Ieee.{Float, nan, is_nan, binary64, fits}
use Rattle.root.proofs.NoNan.{unsigned, root-no-nan}
use Rattle.search.specs.Answer.{Answer, refused, damaged, hits, gives_hits, Answers}
use Rattle.search.specs.Refusal.{Told, told}
use Rattle.search.specs.Result.{Roots, none, more, Written, indices_of, squares_of}
use Rattle.search.specs.declared.Best.{Best}
use Rattle.std.proofs.Common.{Result, Ok, Err}
use Rattle.refusal.specs.Numbers as code
use Rattle.refusal.specs.declared.Refusal.{Refusal}
use Rattle.tree.proofs.Each.{Each}
use Rattle.search.proofs.Fronts.{roots-length}
use Rattle.text.specs.Line.{Put, count_line, hit_lines}
use Rattle.text.proofs.Laws.{short-count, short-hits, lines_same}
use Rattle.records.specs.declared.Record.{Record}
use Rattle.stream.specs.Prints.{error, Floats, Listed, Replied, Prints}
use Rattle.stream.specs.Feeding.{Replies}
use Rattle.stream.specs.Asked.{found_text, Countable, Writes}

abbrev pub Unsigned : Best → Type 0
Unsigned s = T (unsigned s.d2)

squares-unsigned : (l : List Best) → Each Unsigned l → Each (λ x. T (unsigned x)) (squares_of l)
squares-unsigned [] h = tt
squares-unsigned (s ∷ ss) h = (h.0, squares-unsigned ss h.1)

roots-numbers : {xs rs : List Float} → Roots xs rs → Each (λ x. T (unsigned x)) xs → (i : ℕ) → i < length rs → T (not (is_nan (get_or rs i nan)))
roots-numbers none h i b = absurd (omega arith)
roots-numbers (more {d = d} {r = r} R Rs) h zero b = root-no-nan d r h.0 R
roots-numbers (more R Rs) h (suc i) b = roots-numbers Rs h.1 i (omega arith)

module _ {l : List Best} {is₀ is : List ℕ} {ds₀ ds : List Float} (W : Written l is₀ is ds₀ ds) where
  indices-length : length (indices_of l) ≡ length l
  indices-length = length-map l (λ (s : Best). s.index)

  roots-count : length W.roots ≡ length l
  roots-count = roots-length W.each_root ∙ length-map l (λ (s : Best). s.d2)

  pub written_room : length l ≤ length is
  written_room = omega (arith, ap length W.indices_are, length-append (indices_of l) (drop (length l) is₀), indices-length)

  distances_room : length l ≤ length ds
  distances_room = omega (arith, ap length W.distances_are, length-append W.roots (drop (length l) ds₀), roots-count)

  index_at : (i : ℕ) → i < length l → get_or is i 0 ≡ get_or (indices_of l) i 0
  index_at i b = ap (λ (z : List ℕ). get_or z i 0) W.indices_are ∙ get_or-append (indices_of l) (drop (length l) is₀) 0 i (omega (arith, indices-length))

  distance-at : (i : ℕ) → i < length l → get_or ds i nan ≡ get_or W.roots i nan
  distance-at i b = ap (λ (z : List Float). get_or z i nan) W.distances_are ∙ get_or-append W.roots (drop (length l) ds₀) nan i (omega (arith, roots-count))

  listed : (letter : ℕ) → Floats ds → Listed letter l (count_line letter (length l) ++ hit_lines (length l) is ds)
  listed letter f = record {
    roots = W.roots;
    each_root = W.each_root;
    floats = λ i b. subst (λ (x : Float). T (fits binary64 x)) (distance-at i (omega (arith, roots-count))) (f i (omega (arith, roots-count, distances_room)));
    text_is = ap (λ (z : List ℕ). count_line letter (length l) ++ z) (lines_same (length l) _ _ (λ i b. cc (index_at i b, distance-at i b)));
  }

  counted : (m : ℕ) → m ≡ length l → length is ≤ 1024 → Each Unsigned l → Countable m is ds
  counted m e h u = record {
    few = omega (arith, written_room);
    indices = omega (arith, written_room);
    distances = omega (arith, distances_room);
    numbers = λ i b.
        subst (λ (x : Float). T (not (is_nan x))) (sym (distance-at i (omega arith)))
        (roots-numbers W.each_root (squares-unsigned l u) i (omega (arith, roots-count)));
  }

module _ {is₀ is : List ℕ} {ds₀ ds : List Float} where
  pub replied : (letter : ℕ) (a : Answer) (r : Result ℕ Refusal) → Answers a is₀ ds₀ r is ds → Floats ds → Replied letter a (found_text letter r is ds)
  replied letter (refused number detail) (Ok m) A f = absurd (subst T A.kind tt)
  replied letter (refused number detail) (Err r) A f = ap (λ (z : Told). error z.number) A.tells
  replied letter damaged (Ok m) A f = absurd (subst T A.kind tt)
  replied letter damaged (Err r) A f = ap (λ (z : Told). error z.number) A.tells
  replied letter (hits l) (Err r) A f = absurd (subst T (sym A.kind) tt)
  replied letter (hits l) (Ok m) A f =
      subst (λ (k : ℕ). Listed letter l (count_line letter k ++ hit_lines k is ds)) (sym (ap (λ (z : Told). z.detail) A.tells)) (listed A.leaves letter f)

  pub countable : (a : Answer) (r : Result ℕ Refusal) → Answers a is₀ ds₀ r is ds → length is ≤ 1024 → ((l : List Best) → a ≡ hits l → Each Unsigned l)
      → (m : ℕ) → r ≡ Ok m → Countable m is ds
  countable (refused number detail) r A h u m e = absurd (subst T (ap gives_hits (sym e) ∙ A.kind) tt)
  countable damaged r A h u m e = absurd (subst T (ap gives_hits (sym e) ∙ A.kind) tt)
  countable (hits l) r A h u m e = counted A.leaves m (ap (λ (z : Result ℕ Refusal). (told z).detail) (sym e) ∙ ap (λ (z : Told). z.detail) A.tells) h (u l refl)

pub found-short : (letter : ℕ) (r : Result ℕ Refusal) (is : List ℕ) (ds : List Float) → ((m : ℕ) → r ≡ Ok m → Countable m is ds) → length (found_text letter r is ds) ≤ 32768
found-short letter (Ok m) is ds h =
    omega (arith, (h m refl).few, length-append (count_line letter m) (hit_lines m is ds), short-count letter m, short-hits m is ds)
found-short letter (Err r) is ds h = omega (arith, short-count 69 (code.number r))

-- ---- for any query that lists hits
module _ {a : Answer} {is₀ is : List ℕ} {ds₀ ds : List Float} {r : Result ℕ Refusal} (A : Answers a is₀ ds₀ r is ds) (most : length is ≤ 1024) (u : (l : List Best) → a ≡ hits l → Each Unsigned l) where
  pub writes : {out : List ℕ} {at : ℕ} → at + 32768 ≤ length out → Writes out at r is ds
  writes h = record { room = h; counts = countable a r A most u }

  pub lists : (what : Record) (p : List Float) (letter : ℕ) {out : List ℕ} {at : ℕ} {out' : List ℕ} {w : ℕ} → Floats ds
      → ((t : List ℕ) → Replied letter a t → Prints p what t) → Put out at (found_text letter r is ds) out' w → Replies what p out at out' w
  lists what p letter f g q = record {
    text = found_text letter r is ds;
    prints = g (found_text letter r is ds) (replied letter a r A f);
    short = found-short letter r is ds (countable a r A most u);
    put = q;
  }
