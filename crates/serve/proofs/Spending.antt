-- A turn that goes on takes bytes from what waits, or from the reader; so the turns come to an end. Assumes nothing.
use Rattle.std.proofs.Common.{◌≡◌, ℕ, ◌+◌, ◌-◌, ◌^◌, ◌≤◌, ◌<◌, Bool, List, length, drop, ap, subst, arith, Option, None, Some}
use Rattle.std.proofs.lemmas.List.{length-append}
use Rattle.std.specs.Io.KnownBytes.{Consumes}
use lib.Ieee.{Float}
use lib.ListN.{length-drop}
use Rattle.stream.specs.declared.Fed.{Fed}
use Rattle.stream.specs.declared.Stop.{Stop}
use Rattle.stream.specs.declared.Stop.TheVariants.{Full}
use Rattle.stream.specs.Feeding as feeding
use Rattle.stream.specs.Feeding.{longest, Takes, FedBy}
use Rattle.stream.proofs.Turns.{place}
use Rattle.serve.specs.Serving.{Came, Less, Within, Ends, EndsSoon}

-- ---- records that were taken
module _ {room : ℕ} {s : List ℕ} {from : ℕ} {p : List Float} where
  on-from : {t : List ℕ} {at : ℕ} {q : List Float} {g : Bool} → Takes room s from p t at q g → from ≤ at
  on-from feeding.none = omega arith
  on-from (feeding.then {at = at} {next = next} what u k fits e v) = let h = (place s at what next e).past in omega (arith, on-from k)

  past-from : {t : List ℕ} {at : ℕ} {q : List Float} {g : Bool} → Takes room s from p t at q g → 0 < length t → from < at
  past-from feeding.none h = absurd (omega arith)
  past-from (feeding.then {at = at} {next = next} what u k fits e v) h = let e = (place s at what next e).past in omega (arith, on-from k)

-- ---- one turn
fewer : (x : Option (List ℕ)) (s s' : List ℕ) → length s' < length s → Less x x s s'
fewer None s s' h = tt
fewer (Some xs) s s' h = omega arith

pub taken : (x : Option (List ℕ)) (s : List ℕ) (p : List Float) (out : List ℕ) {p' : List Float} {out' : List ℕ} (f : Fed) (F : FedBy s 0 p out p' out' f)
    → longest ≤ length out → f.stop ≡ Full → (s' : List ℕ) → s' ≡ drop f.used s → Less x x s s'
taken x s p out f F room full s' e =
    let left : length out - f.wrote < longest = subst (λ (z : Stop). feeding.Ends z s f.used (length out - f.wrote)) full F.ends in
    let some : 0 < f.used = past-from F.takes (omega (arith, F.put.past, left)) in
    fewer x s s' (omega (arith, F.inside (omega arith), some, ap length e, length-drop f.used s))

came : (x y : Option (List ℕ)) (s bytes s' : List ℕ) → Consumes x y bytes → 0 < length bytes → length s' ≤ length s + length bytes → Less x y s s'
came None y s bytes s' h some e = tt
came (Some xs) None s bytes s' h some e = absurd h
came (Some xs) (Some ys) s bytes s' h some e = omega (arith, ap length h, length-append bytes ys)

pub read : {x y : Option (List ℕ)} (s : List ℕ) (used : ℕ) {r s' : List ℕ} {got : ℕ} → r ≡ drop used s → Came x y r s' got → 0 < got → Less x y s s'
read {x} {y} s used {r} {s'} e C some =
    came x y s C.bytes s' C.read (omega (arith, C.count, some)) (omega (arith, ap length e, length-drop used s, ap length C.after, length-append r C.bytes))

-- ---- turn after turn
pub begun : (x : Option (List ℕ)) (s : List ℕ) → Within x x s s 0
begun None s = tt
begun (Some xs) s = omega arith

pub again : (x y z : Option (List ℕ)) (s s' s'' : List ℕ) (n : ℕ) → Within x y s s' n → Less y z s' s'' → Within x z s s'' (n + 1)
again None y z s s' s'' n h k = tt
again (Some xs) None z s s' s'' n h k = absurd h
again (Some xs) (Some ys) None s s' s'' n h k = absurd k
again (Some xs) (Some ys) (Some zs) s s' s'' n h k = omega arith

-- an end that came is one that comes soon, and no run makes all turns
pub sooner : (x a b : Option (List ℕ)) (p : List Float) (s : List ℕ) → Ends x a b p s → EndsSoon x a b p s
sooner None a b p s h = tt
sooner (Some xs) a b p s h = λ few. h

pub never : (x y a b : Option (List ℕ)) (p : List Float) (s s' : List ℕ) (n : ℕ) → Within x y s s' n → 2 ^ 64 - 1 ≤ n → EndsSoon x a b p s
never None y a b p s s' n h all = tt
never (Some xs) None a b p s s' n h all = absurd h
never (Some xs) (Some ys) a b p s s' n h all = λ few. absurd (omega arith)
