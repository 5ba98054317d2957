-- Runs of stores, the digits that they store, and how long lines are: a run after another is one run (`then`), a digit more
-- is a number more (`decimal-more`, `hex_more`), a line more is one of the lines (`lines_more`). Assumes nothing.
use Prim.Native.Nat.{ℕ, zero, suc, ◌+◌, ◌-◌, ◌*◌, ◌/◌, ◌%◌, ◌^◌, ◌≤◌, ◌<◌}
use mathlib.Core.Path.{◌≡◌, refl, ap, sym, subst, ◌∙◌}
use mathlib.Core.List.{List, [], ◌∷◌, ◌++◌, append_assoc}
use mathlib.Core.Bool.{Bool, true, false, cond}
use native.Mathlib.Omega.{arith}
use native.Mathlib.Numerals.{unary_clauses, add-one}
use lib.ListN.{length, get_or, set, take, drop, length-append}
use lib.Ieee.{Float, nan, binary64, to_bits}
use lib.Seq.{sets, length-sets, drop-drop, get_or-take, length-take-le}
use lib.Dec.{ltb, eqb}
use borrow.Rule.Slice.PartMut.{put_mid}
use Rattle.std.proofs.lemmas.List.Edits.{sets-eq}
use borrow.Author.Tests.{lt-ltb, le-ltb}
use Rattle.text.specs.Line.{Put, glyph_of, decimals, decimal, hexes, hit_line, count_line, label_line, lines, hit_lines, label_lines, HitsFit, LabelsFit}

pub sets_append : (l : List ℕ) (i : ℕ) (vs ws : List ℕ) → sets (sets l i vs) (i + length vs) ws ≡ sets l i (vs ++ ws)
sets_append l i [] ws = ap (λ (k : ℕ). sets l k ws) (omega arith)
sets_append l i (v ∷ vs) ws =
    ap (λ (k : ℕ). sets (sets (set l i v) (suc i) vs) k ws) (omega arith) ∙ sets_append (set l i v) (suc i) vs ws

pub one : (l : List ℕ) (i a : ℕ) → Put l i (a ∷ []) (set l i a) (i + 1)
one l i a = record { bytes = refl; past = refl }

pub two : (l : List ℕ) (i a b : ℕ) → Put l i (a ∷ b ∷ []) (set (set l i a) (i + 1) b) (i + 2)
two l i a b = record { bytes = simp unary_clauses; past = refl }

-- one run after another is the run of both; a run leaves the slice as long as it was
pub then : {a b d : List ℕ} {i j k : ℕ} {s t : List ℕ} → Put a i s b j → Put b j t d k → Put a i (s ++ t) d k
then {a} {b} {d} {i} {j} {k} {s} {t} p q = record {
  bytes = q.bytes ∙ ap (λ (x : List ℕ). sets x j t) p.bytes ∙ ap (λ (x : ℕ). sets (sets a i s) x t) p.past ∙ sets_append a i s t;
  past = omega (arith, p.past, q.past, length-append s t);
}

pub kept : {a b : List ℕ} {i j : ℕ} {s : List ℕ} → Put a i s b j → length b ≡ length a
kept {a} {b} {i} {j} {s} p = ap length p.bytes ∙ length-sets a i s

-- a copy is its stores one by one
pub copied : (l : List ℕ) (i : ℕ) (vs new : List ℕ) → new ≡ vs → i + length vs ≤ length l → Put l i vs (put_mid i (i + length vs - i) l new) (i + length vs)
copied l i vs new e h = record {
  bytes =
      let k : i + length vs - i ≡ length vs = omega arith in
      ap (λ (x : ℕ). put_mid i x l new) k ∙ ap (put_mid i (length vs) l) e ∙ ap (λ (x : List ℕ). take i l ++ (vs ++ x)) (drop-drop (length vs) i l) ∙ sym (append_assoc (take i l) vs (drop (i + length vs) l)) ∙ sym (sets-eq vs l i h);
  past = refl;
}

-- the same run by another name
pub named : {a b : List ℕ} {i j : ℕ} {s t : List ℕ} → s ≡ t → Put a i s b j → Put a i t b j
named {a} {b} {i} {j} e p = subst (λ (x : List ℕ). Put a i x b j) e p

more : (k n : ℕ) → n < 10 ^ suc k → decimals (suc k) n ≡ decimals (suc (suc k)) n
unfolding decimals
more zero n h = simp (lt-ltb n 10 h)
more (suc k) n h =
    ap (λ (l : List ℕ). cond (ltb n 10) (glyph_of n ∷ []) (l ++ (glyph_of (n % 10) ∷ []))) (more k (n / 10) (omega arith))

pub decimal-small : (n : ℕ) → n < 10 → decimal n ≡ glyph_of n ∷ []
unfolding decimals
decimal-small n h = simp (lt-ltb n 10 h)

pub decimal_step : (n : ℕ) → 10 ≤ n → n < 4294967296 → decimal n ≡ decimal (n / 10) ++ (glyph_of (n % 10) ∷ [])
unfolding decimals
decimal_step n h b = simp (le-ltb n 10 h) (ap (λ (l : List ℕ). l ++ (glyph_of (n % 10) ∷ [])) (more 8 (n / 10) (omega arith)))

length_cond : (t : Bool) (a b : List ℕ) (k : ℕ) → length a ≤ k → length b ≤ k → length (cond t a b) ≤ k
length_cond true a b k h i = h
length_cond false a b k h i = i

pub length-decimals : (k n : ℕ) → length (decimals k n) ≤ k
unfolding decimals
length-decimals zero n = omega arith
length-decimals (suc k) n =
    length_cond (ltb n 10) _ _ (suc k) (omega arith)
    (omega (arith, length-append (decimals k (n / 10)) (glyph_of (n % 10) ∷ []), length-decimals k (n / 10)))

pub length-hexes : (k n : ℕ) → length (hexes k n) ≡ k
unfolding hexes
length-hexes zero n = refl
length-hexes (suc k) n = omega (arith, length-append (hexes k (n / 16)) (glyph_of (n % 16) ∷ []), length-hexes k (n / 16))

pub hex_step : {a b : List ℕ} {i j : ℕ} (k n g : ℕ) → (k ≡ 0 → ⊥) → Put a i (hexes (k - 1) (n / 16)) b j → g ≡ glyph_of (n % 16) → Put a i (hexes k n) (set b j g) (j + 1)
unfolding hexes
hex_step zero n g h p e = absurd (h refl)
hex_step {a} {b} {i} {j} (suc k) n g h p e =
    let d : suc k - 1 ≡ k = omega arith in
    let q : Put a i (hexes k (n / 16)) b j = subst (λ (x : ℕ). Put a i (hexes x (n / 16)) b j) d p in
    then q (named (ap (λ (x : ℕ). x ∷ []) e) (one b j g))

pub decimal-put : {a b : List ℕ} {i j : ℕ} (n g : ℕ) → 10 ≤ n → n < 4294967296 → Put a i (decimal (n / 10)) b j → g ≡ glyph_of (n % 10) → Put a i (decimal n) (set b j g) (j + 1)
decimal-put {a} {b} {i} {j} n g h k p e = named (sym (decimal_step n h k)) (then p (named (ap (λ (x : ℕ). x ∷ []) e) (one b j g)))

-- one digit more
pub hex_more : {a b d : List ℕ} {i j m : ℕ} (k n g : ℕ) → 0 < k → Put a i (hexes (k - 1) (n / 16)) b j → g ≡ glyph_of (n % 16) → Put b j (g ∷ []) d m → Put a i (hexes k n) d m
unfolding hexes
hex_more zero n g h p e q = absurd (omega arith)
hex_more {a} {b} {d} {i} {j} (suc k) n g h p e q =
    let z : suc k - 1 ≡ k = omega arith in
    then (subst (λ (x : ℕ). Put a i (hexes x (n / 16)) b j) z p) (named (ap (λ (x : ℕ). x ∷ []) e) q)

pub hex_none : (l : List ℕ) (i k n : ℕ) → k ≤ 0 → Put l i (hexes k n) l i
unfolding hexes
hex_none l i zero n h = record { bytes = refl; past = omega arith }
hex_none l i (suc k) n h = absurd (omega arith)

pub decimal-more : {a b d : List ℕ} {i j k : ℕ} (n g : ℕ) → 10 ≤ n → n < 4294967296 → Put a i (decimal (n / 10)) b j → g ≡ glyph_of (n % 10) → Put b j (g ∷ []) d k → Put a i (decimal n) d k
decimal-more n g h m p e q = named (sym (decimal_step n h m)) (then p (named (ap (λ (x : ℕ). x ∷ []) e) q))

pub decimal-one : {a d : List ℕ} {i k : ℕ} (n g : ℕ) → n < 10 → g ≡ glyph_of (n % 10) → Put a i (g ∷ []) d k → Put a i (decimal n) d k
decimal-one n g h e q =
    let z : n % 10 ≡ n = omega arith in
    named (ap (λ (x : ℕ). x ∷ []) (e ∙ ap glyph_of z) ∙ sym (decimal-small n h)) q

pub decimal-length : (n : ℕ) → 10 ≤ n → n < 4294967296 → length (decimal n) ≡ length (decimal (n / 10)) + 1
decimal-length n h k = ap length (decimal_step n h k) ∙ length-append (decimal (n / 10)) (glyph_of (n % 10) ∷ [])

-- ---- the lines of hits
pub short-hit : (n : ℕ) (x : Float) → length (hit_line n x) ≤ 28
short-hit n x =
    omega (arith, length-append (decimal n) (32 ∷ (hexes 16 (to_bits binary64 x) ++ (10 ∷ []))), length-append (hexes 16 (to_bits binary64 x)) (10 ∷ []), length-decimals 10 n, length-hexes 16 (to_bits binary64 x))

pub short-label : (l : ℕ) → length (label_line l) ≤ 11
short-label l =
    length_cond (eqb l 4294967295) _ _ 11 (omega arith)
    (omega (arith, length-append (decimal l) (10 ∷ []), length-decimals 10 l))

pub short-count : (letter n : ℕ) → length (count_line letter n) ≤ 13
short-count letter n = omega (arith, length-append (decimal n) (10 ∷ []), length-decimals 10 n)

-- ---- lines in turn
pub lines_same : (k : ℕ) (f g : ℕ → List ℕ) → ((i : ℕ) → i < k → f i ≡ g i) → lines k f ≡ lines k g
unfolding lines
lines_same zero f g h = refl
lines_same (suc k) f g h = cc (lines_same k f g (λ i b. h i (omega arith)), h k (omega arith))

pub short-lines : (b k : ℕ) (f : ℕ → List ℕ) → ((i : ℕ) → length (f i) ≤ b) → length (lines k f) ≤ b * k
unfolding lines
short-lines b zero f h = omega arith
short-lines b (suc k) f h = omega (arith, length-append (lines k f) (f k), short-lines b k f h, h k)

pub short-hits : (k : ℕ) (is : List ℕ) (ds : List Float) → length (hit_lines k is ds) ≤ 28 * k
short-hits k is ds = short-lines 28 k _ (λ i. short-hit (get_or is i 0) (get_or ds i nan))

pub short-labels : (k : ℕ) (ls : List ℕ) → length (label_lines k ls) ≤ 11 * k
short-labels k ls = short-lines 11 k _ (λ i. short-label (get_or ls i 0))

pub lines_none : (l : List ℕ) (at : ℕ) (f : ℕ → List ℕ) → Put l at (lines 0 f) l at
unfolding lines
lines_none l at f = record { bytes = refl; past = omega arith }

pub lines_more : {a b d : List ℕ} {i j m : ℕ} (k : ℕ) (f : ℕ → List ℕ) → Put a i (lines k f) b j → Put b j (f k) d m → Put a i (lines (k + 1) f) d m
unfolding lines
lines_more k f p q = rw (add-one k) (then p q)

pub hits_more : {a b d : List ℕ} {i j m : ℕ} (k n : ℕ) (is : List ℕ) (ds : List Float) (x : ℕ) (y : Float) → n ≡ k + 1 → x ≡ get_or is k 0 → y ≡ get_or ds k nan → Put a i (hit_lines k is ds) b j → Put b j (hit_line x y) d m → Put a i (hit_lines n is ds) d m
hits_more k n is ds x y e f g p q =
    rw e (lines_more k (λ i. hit_line (get_or is i 0) (get_or ds i nan)) p (named (ap (λ z. hit_line z y) f ∙ ap (hit_line (get_or is k 0)) g) q))

-- ---- the lines of a front, for a caller that has `k` entries of a longer slice
pub hit_lines-take : (k : ℕ) (is : List ℕ) (ds : List Float) → hit_lines k (take k is) (take k ds) ≡ hit_lines k is ds
hit_lines-take k is ds = lines_same k _ _ (λ i h. ap (λ z. hit_line z (get_or (take k ds) i nan)) (get_or-take k is i 0 h) ∙ ap (hit_line (get_or is i 0)) (get_or-take k ds i nan h))

pub label_lines-take : (k : ℕ) (ls : List ℕ) → label_lines k (take k ls) ≡ label_lines k ls
label_lines-take k ls = lines_same k _ _ (λ i h. ap label_line (get_or-take k ls i 0 h))

pub hits_fit-take : (out : List ℕ) (at : ℕ) (is : List ℕ) (ds : List Float) (k : ℕ) → HitsFit out at is ds k → HitsFit out at (take k is) (take k ds) k
hits_fit-take out at is ds k p = record {
  indices = omega (arith, length-take-le k is p.indices);
  distances = omega (arith, length-take-le k ds p.distances);
  numbers = λ i h. rw (get_or-take k ds i nan h) (p.numbers i h);
  room = p.room;
}

pub labels_fit-take : (out : List ℕ) (at : ℕ) (ls : List ℕ) (k : ℕ) → LabelsFit out at ls k → LabelsFit out at (take k ls) k
labels_fit-take out at ls k p = record { labels = omega (arith, length-take-le k ls p.labels); room = p.room }
