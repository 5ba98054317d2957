-- How turns join, and what each way out of one makes of reader and writer. Assumes nothing.
use Rattle.std.proofs.Common.{◌≡◌, ℕ, ◌≤◌, ◌<◌, true, false, List, [], ◌∷◌, ◌++◌, length, take, drop, refl, ap, sym, subst, ◌∙◌, arith, Option, None, Some, eqb, zero, suc}
use borrow.Author.Tests.{eqb-true, eqb-false}
use Rattle.std.proofs.lemmas.List.{append_assoc, append-nil}
use Rattle.std.specs.Io.KnownBytes.{Appends, Consumes, IsAtEnd}
use lib.Ieee.{Float}
use Rattle.stream.specs.declared.Fed.{Fed}
use Rattle.stream.specs.Stream.{Output}
use Rattle.stream.specs.Feeding.{on, FedBy}
use Rattle.serve.specs.Serving.{cut_line, tail, Waits, Came, Moves, Turns, Ends}
use Rattle.serve.proofs.Fed.{tail-none, tail-some, yields, whole}

-- ---- what is written
nothing : (wrote : Option (List ℕ)) → Appends wrote wrote []
nothing None = tt
nothing (Some xs) = sym (append-nil xs)

appends : (x y z : Option (List ℕ)) (a b : List ℕ) → Appends x y a → Appends y z b → Appends x z (a ++ b)
appends None y z a b h k = tt
appends (Some xs) None z a b h k = absurd h
appends (Some xs) (Some ys) None a b h k = absurd k
appends (Some xs) (Some ys) (Some zs) a b h k = k ∙ ap (λ (l : List ℕ). l ++ b) h ∙ append_assoc xs a b

-- ---- one turn after another
moves : (x y z : Option (List ℕ)) (p q r : List Float) (s a s' b s'' : List ℕ) → Moves x y p s a q s' → Moves y z q s' b r s'' → Moves x z p s (a ++ b) r s''
moves None y z p q r s a s' b s'' h k = tt
moves (Some xs) None z p q r s a s' b s'' h k = absurd h
moves (Some xs) (Some ys) None p q r s a s' b s'' h k = absurd k
moves (Some xs) (Some ys) (Some zs) p q r s a s' b s'' h k = λ w o. subst (Output p (s ++ xs)) (sym (append_assoc a b w)) (h (b ++ w) (k w o))

stays : (x : Option (List ℕ)) (p : List Float) (s : List ℕ) → Moves x x p s [] p s
stays None p s = tt
stays (Some xs) p s = λ t o. o

pub begun : (x o : Option (List ℕ)) (p : List Float) (s : List ℕ) → Turns x x o o p s p s
begun x o p s = record { text = []; written = nothing o; moves = stays x p s }

pub joined : {x y z a b c : Option (List ℕ)} {p q r : List Float} {s s' s'' : List ℕ} → Turns x y a b p s q s' → Turns y z b c q s' r s'' → Turns x z a c p s r s''
joined {x} {y} {z} {a} {b} {c} {p} {q} {r} {s} {s'} {s''} h k = record {
  text = h.text ++ k.text;
  written = appends a b c h.text k.text h.written k.written;
  moves = moves x y z p q r s h.text s' k.text s'' h.moves k.moves;
}

-- the last turn
ends_by : (x y a b c : Option (List ℕ)) (p q : List Float) (s t s' : List ℕ) → Appends a b t → Moves x y p s t q s' → Ends y b c q s' → Ends x a c p s
ends_by None y a b c p q s t s' w h k = tt
ends_by (Some xs) None a b c p q s t s' w h k = absurd h
ends_by (Some xs) (Some ys) a b c p q s t s' w h k = (t ++ k.0, h k.0 k.1, appends a b c t k.0 w k.2)

pub ended : {x y a b : Option (List ℕ)} {p q : List Float} {s s' : List ℕ} (c : Option (List ℕ)) → Turns x y a b p s q s' → Ends y b c q s' → Ends x a c p s
ended {x} {y} {a} {b} {p} {q} {s} {s'} c h k = ends_by x y a b c p q s h.text s' h.written h.moves k

-- ---- a piece that was fed, and its lines written
module _ {s : List ℕ} {p : List Float} {out : List ℕ} {p' : List Float} {out' : List ℕ} (f : Fed) (F : FedBy s 0 p out p' out' f) (o o' : Option (List ℕ)) (w : Appends o o' (take f.wrote out')) where
  fed_on : (x : Option (List ℕ)) → on f.stop ≡ true → Moves x x p s (take f.wrote out') p' (drop f.used s)
  fed_on None g = tt
  fed_on (Some xs) g = λ t k. yields s p out f F g xs t k

  pub fed : {x : Option (List ℕ)} {s' : List ℕ} → s' ≡ drop f.used s → on f.stop ≡ true → Turns x x o o' p s p' s'
  fed {x} {s'} e g = record { text = take f.wrote out'; written = w; moves = subst (Moves x x p s (take f.wrote out') p') (sym e) (fed_on x g) }

  pub fed_last : (x : Option (List ℕ)) → on f.stop ≡ false → Ends x o o' p s
  fed_last None g = tt
  fed_last (Some xs) g = (take f.wrote out', whole s p out f F g xs, w)

-- ---- a read
came : (x y : Option (List ℕ)) (p : List Float) (s bs s' : List ℕ) → Consumes x y bs → s' ≡ s ++ bs → Moves x y p s [] p s'
came None y p s bs s' h e = tt
came (Some xs) None p s bs s' h e = absurd h
came (Some xs) (Some ys) p s bs s' h e =
    let same : s' ++ ys ≡ s ++ xs = ap (λ (l : List ℕ). l ++ ys) e ∙ append_assoc s bs ys ∙ ap (λ (l : List ℕ). s ++ l) (sym h) in
    λ t o. subst (λ (l : List ℕ). Output p l t) same o

pub read : {x y : Option (List ℕ)} (o : Option (List ℕ)) (p : List Float) {s s' : List ℕ} {got : ℕ} → Came x y s s' got → Turns x y o o p s p s'
read {x} {y} o p {s} {s'} C = record { text = []; written = nothing o; moves = came x y p s C.bytes s' C.read C.after }

-- ---- the end of all input
none-left : (bs : List ℕ) → length bs ≤ 0 → bs ≡ []
none-left [] h = refl
none-left (b ∷ bs) h = absurd (omega arith)

-- a read of no bytes left what waited, and the reader at its end
module _ {x y : Option (List ℕ)} {p : List Float} {s s' : List ℕ} {got : ℕ} (C : Came x y s s' got) (z : got ≡ 0) (W : Waits p s) where
  same : s' ≡ s
  same = C.after ∙ ap (λ (l : List ℕ). s ++ l) (none-left C.bytes (omega (arith, C.count, z))) ∙ append-nil s

  over : (y : Option (List ℕ)) (o o' : Option (List ℕ)) → IsAtEnd y → Appends o o' (tail s) → Ends y o o' p s'
  over None o o' e a = tt
  over (Some ys) o o' e a = (tail s, subst (λ (l : List ℕ). Output p l (tail s)) (sym (ap (λ (l : List ℕ). s' ++ l) e ∙ append-nil s' ∙ same)) W.prints, a)

  pub over-none : (o : Option (List ℕ)) → eqb (length s') 0 ≡ true → Ends y o o p s'
  over-none o h = over y o o (C.ends z) (subst (Appends o o) (sym (tail-none s (omega (arith, ap length same, eqb-true (length s') 0 h)))) (nothing o))

  pub over-cut : (o o' : Option (List ℕ)) → eqb (length s') 0 ≡ false → Appends o o' cut_line → Ends y o o' p s'
  over-cut o o' h a = over y o o' (C.ends z) (subst (Appends o o') (sym (tail-some s (some (length s) (λ e. eqb-false (length s') 0 h (ap length same ∙ e))))) a)
    where
      some : (n : ℕ) → (n ≡ 0 → ⊥) → 0 < n
      some zero k = absurd (k refl)
      some (suc n) k = omega arith
