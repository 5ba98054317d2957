-- What the loop makes of the bytes that a reader has, and of those that a writer got, where both are known.
--   cut_line                         `E 10`
--   tail s                           what is printed for a rest at the end of all input: an error where a record is cut
--   Waits p s                        s is less than a whole record, and is printed so at the end
--   Came left left' s s' got         a read of `got` bytes put what it took from the reader after s; it was at its end if that is none
--   Moves left left' p s text p' s'  what is printed for s' and all that the reader then has makes, after text, what is for s and
--                                    all that it had
--   Turns ..                         the same, and text was appended to the writer
--   Ends left wrote wrote' p s       a text for s, with all that the reader had, was appended, and nothing else
--   Turned .. on                     the stream goes on after such a turn, or has ended so
--   Less left left' s s'             a turn that goes on took bytes, or read some: what waits, with twice what the reader has, is less
--   Spends .. on                     the same of a turn that goes on
--   Within left left' s s' n         after n turns it is less by n at least
--   EndsSoon ..                      as Ends, where what the reader has fits the turns that are counted
use Rattle.std.specs.Prelude.{◌≡◌, ℕ, ◌+◌, ◌*◌, ◌-◌, ◌^◌, ◌<◌, ◌≤◌, Bool, true, false, List, [], ◌∷◌, ◌++◌, length, Option, None, Some, ⊤, IfSome, Float}
use Rattle.std.specs.Io.KnownBytes.{Appends, Consumes, IsAtEnd}
use Rattle.stream.specs.Stream.{Output}
use Rattle.serve.specs.Waiting.{longest_record}

abbrev pub cut_line : List ℕ
cut_line = 69 ∷ 32 ∷ 49 ∷ 48 ∷ 10 ∷ []

abbrev pub tail : List ℕ → List ℕ
tail [] = []
tail (x ∷ xs) = cut_line

pub record Waits (p : List Float) (s : List ℕ) : Type 0 where
  pub short : length s < longest_record
  pub prints : Output p s (tail s)

pub record Came (left left' : Option (List ℕ)) (s s' : List ℕ) (got : ℕ) : Type 0 where
  pub bytes : List ℕ
  pub read : Consumes left left' bytes
  pub after : s' ≡ s ++ bytes
  pub count : length bytes ≡ got
  pub ends : got ≡ 0 → IsAtEnd left'

abbrev pub Moves : Option (List ℕ) → Option (List ℕ) → List Float → List ℕ → List ℕ → List Float → List ℕ → Type 0
Moves None left' p s text p' s' = ⊤
Moves (Some xs) None p s text p' s' = ⊥
Moves (Some xs) (Some ys) p s text p' s' = (t : List ℕ) → Output p' (s' ++ ys) t → Output p (s ++ xs) (text ++ t)

pub record Turns (left left' wrote wrote' : Option (List ℕ)) (p : List Float) (s : List ℕ) (p' : List Float) (s' : List ℕ) : Type 0 where
  pub text : List ℕ
  pub written : Appends wrote wrote' text
  pub moves : Moves left left' p s text p' s'

abbrev pub Ends : Option (List ℕ) → Option (List ℕ) → Option (List ℕ) → List Float → List ℕ → Type 0
Ends left wrote wrote' p s = IfSome left (λ xs. (text : List ℕ) × Output p (s ++ xs) text × Appends wrote wrote' text)

abbrev pub Turned : Option (List ℕ) → Option (List ℕ) → Option (List ℕ) → Option (List ℕ) → List Float → List ℕ → List Float → List ℕ → Bool → Type 0
Turned left left' wrote wrote' p s p' s' true = Turns left left' wrote wrote' p s p' s'
Turned left left' wrote wrote' p s p' s' false = Ends left wrote wrote' p s

abbrev pub Less : Option (List ℕ) → Option (List ℕ) → List ℕ → List ℕ → Type 0
Less None left' s s' = ⊤
Less (Some xs) None s s' = ⊥
Less (Some xs) (Some ys) s s' = 2 * length ys + length s' < 2 * length xs + length s

abbrev pub Spends : Option (List ℕ) → Option (List ℕ) → List ℕ → List ℕ → Bool → Type 0
Spends left left' s s' true = Less left left' s s'
Spends left left' s s' false = ⊤

abbrev pub Within : Option (List ℕ) → Option (List ℕ) → List ℕ → List ℕ → ℕ → Type 0
Within None left' s s' n = ⊤
Within (Some xs) None s s' n = ⊥
Within (Some xs) (Some ys) s s' n = 2 * length ys + length s' + n ≤ 2 * length xs + length s

abbrev pub EndsSoon : Option (List ℕ) → Option (List ℕ) → Option (List ℕ) → List Float → List ℕ → Type 0
EndsSoon left wrote wrote' p s = IfSome left (λ xs. 2 * length xs + length s < 2 ^ 64 - 1 → (text : List ℕ) × Output p (s ++ xs) text × Appends wrote wrote' text)
