-- The lines of a text, counted a place at a time. Assumes nothing.
use Rattle.std.proofs.Common.{◌≡◌, ◌≢◌, refl, sym, ap, ◌∙◌, Bool, true, false, cond, List, ℕ, zero, suc, ◌+◌, ◌≤◌, ◌<◌, Option, Some, None, unwrap_or, IfSome, arith, get_or, length}
use native.Mathlib.Numerals.{add-one}
use lib.Dec.{T, eqb, eqb→eq, eqb_refl}
use lib.Ieee.Bits.{is_true}
use mathlib.Core.Bool.{true≢false}
use mathlib.Core.Path.{subst}
use Rattle.replay_answers.specs.Lines.{begins, starts, lines, code, count_of, Tallied}
use Rattle.replay_answers.specs.declared.answers.Tally.{Tally}
use Rattle.replay_answers.specs.declared.recorded.Letter.{Letter}
use Rattle.replay_answers.specs.declared.recorded.Letter.TheVariants.{Map, Nearest, KNearest, Radius, Labels}

lines-next : (s : List ℕ) (c n : ℕ) → lines s c (n + 1) ≡ lines s c n + cond (starts s c n) 1 0
unfolding lines
lines-next s c n = rw (add-one n) refl

at_most_one : (b : Bool) → cond b 1 0 ≤ 1
at_most_one true = omega arith
at_most_one false = omega arith

pub lines-le : (s : List ℕ) (c n : ℕ) → lines s c n ≤ n
unfolding lines
lines-le s c zero = omega arith
lines-le s c (suc n) = omega (arith, lines-le s c n, at_most_one (starts s c n))

-- before the first place nothing is counted
pub tallied_first : {s : List ℕ} {t : Tally} → ((l : Letter) → count_of t l ≡ 0) → t.first_wrong ≡ None → Tallied s 0 t
unfolding lines
tallied_first h f = record { counts = h; first_within = rw f tt; first_begins = rw f tt }

-- no line of a letter that counts begins at n
pub tallied_none : {s : List ℕ} {n : ℕ} {t : Tally} → Tallied s n t → ((l : Letter) → starts s (code l) n ≡ false) → Tallied s (n + 1) t
tallied_none {s} {n} {t} w h =
    record {
      counts = λ l. w.counts l ∙ sym (still l);
      first_within = w.first_within;
      first_begins = w.first_begins;
    }
  where
    still : (l : Letter) → lines s (code l) (n + 1) ≡ lines s (code l) n
    still l = rw (lines-next s (code l) n, h l) (omega arith)

-- a letter is known by its byte
abbrev letter_of : ℕ → Letter
letter_of c = cond (eqb c 77) Map (cond (eqb c 78) Nearest (cond (eqb c 75) KNearest (cond (eqb c 82) Radius Labels)))

letter_of-code : (l : Letter) → letter_of (code l) ≡ l
letter_of-code Map = refl
letter_of-code Nearest = refl
letter_of-code KNearest = refl
letter_of-code Radius = refl
letter_of-code Labels = refl

code-injective : (l m : Letter) → code l ≡ code m → l ≡ m
code-injective l m e = sym (letter_of-code l) ∙ ap letter_of e ∙ letter_of-code m

-- one of the letter l does
pub tallied_one : {s : List ℕ} {n : ℕ} {t u : Tally} (l : Letter) → Tallied s n t → begins s n ≡ true → get_or s n 0 ≡ code l → count_of u l ≡ count_of t l + 1 → ((m : Letter) → m ≢ l → count_of u m ≡ count_of t m) → u.first_wrong ≡ t.first_wrong → Tallied s (n + 1) u
tallied_one {s} {n} {t} {u} l w b e one others f =
    record {
      counts = λ m. more m (eqb (code l) (code m)) refl ∙ ap (λ (k : ℕ). k + cond (eqb (code l) (code m)) 1 0) (w.counts m) ∙ sym (here m);
      first_within = rw f w.first_within;
      first_begins = rw f w.first_begins;
    }
  where
    more : (m : Letter) (c : Bool) → eqb (code l) (code m) ≡ c → count_of u m ≡ count_of t m + cond (eqb (code l) (code m)) 1 0
    more m true q = rw q (subst (λ (k : Letter). count_of u k ≡ count_of t k + 1) (code-injective l m (eqb→eq (code l) (code m) (subst T (sym q) tt))) one)
    more m false q = rw q (others m (λ i. true≢false (sym (is_true (eqb (code l) (code m)) (rw i (eqb_refl (code l)))) ∙ q)) ∙ omega arith)

    here : (m : Letter) → lines s (code m) (n + 1) ≡ lines s (code m) n + cond (eqb (code l) (code m)) 1 0
    here m = rw (lines-next s (code m) n, b, e) refl

-- and it came otherwise than recorded
pub tallied_wrong : {s : List ℕ} {n : ℕ} {t u : Tally} → Tallied s (n + 1) t → n < length s → begins s n ≡ true → ((m : Letter) → count_of u m ≡ count_of t m) → u.first_wrong ≡ Some (unwrap_or t.first_wrong n) → Tallied s (n + 1) u
tallied_wrong {s} {n} {t} {u} w lt b h f =
    record {
      counts = λ m. h m ∙ w.counts m;
      first_within = rw f (either (λ k. k < length s) t.first_wrong w.first_within lt);
      first_begins = rw f (either (λ k. begins s k ≡ true) t.first_wrong w.first_begins b);
    }
  where
    either : (P : ℕ → Type 0) (o : Option ℕ) → IfSome o P → P n → P (unwrap_or o n)
    either P None p q = q
    either P (Some k) p q = p
