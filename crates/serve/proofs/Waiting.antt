-- What waits in the buffer, after some of it is taken, and after a read. Assumes nothing.
use Rattle.std.proofs.Common.{◌≡◌, ◌≤◌, ◌+◌, ◌-◌, ℕ, List, ◌++◌, length, take, drop, ap, sym, ◌∙◌, arith}
use Rattle.std.proofs.lemmas.List.{drop-drop, drop-take, length-take-le, length-drop, take-append-le}
use Rattle.std.proofs.lemmas.List.Edits.{take-paste}
use Rattle.std.proofs.Math.Seq.{take-append-add}
use Rattle.std.specs.List.{copy_within}
use borrow.Rule.Slice.PartMut.{put_mid, post_of}
use Rattle.serve.specs.Waiting.{held}

pub held-length : (used have : ℕ) (bytes : List ℕ) → used ≤ have → have ≤ length bytes → length (held used have bytes) ≡ have - used
held-length used have bytes le fits = length-take-le (have - used) (drop used bytes) (omega (arith, length-drop used bytes))

-- after n of them are taken
pub held-on : (used n have : ℕ) (bytes : List ℕ) → used ≤ have → have ≤ length bytes → n ≤ length (held used have bytes)
    → held (used + n) have bytes ≡ drop n (held used have bytes)
held-on used n have bytes le fits few =
    let k : have - used ≡ n + (have - (used + n)) = omega (arith, held-length used have bytes le fits, few) in
    ap (λ (d : List ℕ). take (have - (used + n)) d) (sym (drop-drop n used bytes))
    ∙ sym (drop-take n (have - (used + n)) (drop used bytes)) ∙ ap (λ (i : ℕ). drop n (take i (drop used bytes))) (sym k)

-- after they went to the front and a read came after them
pub refilled : (bytes moved buf : List ℕ) (used have k got : ℕ) → used ≤ have → have ≤ length bytes → moved ≡ copy_within bytes used have 0 → got ≤ length buf
    → length moved ≡ length bytes → held 0 (have - used + got) (put_mid (have - used) k moved buf) ≡ held used have bytes ++ take got buf
refilled bytes moved buf used have k got le fits e few same =
    let n : ℕ = have - used in
    let zero : n ≡ 0 + n = omega arith in
    let front : take n moved ≡ held used have bytes =
    ap (take n) e ∙ ap (λ (i : ℕ). take i (copy_within bytes used have 0)) zero
    ∙ take-paste bytes 0 (drop used bytes) n (omega arith) (omega (arith, length-drop used bytes)) in
    let l : length (take n moved) ≡ n = length-take-le n moved (omega (arith, same)) in
    let i : n + got - 0 ≡ length (take n moved) + got = omega (arith, l) in
    ap (λ (j : ℕ). take j (put_mid n k moved buf)) i
    ∙ take-append-add (take n moved) (buf ++ post_of n k moved) got
    ∙ ap (λ (r : List ℕ). take n moved ++ r) (take-append-le got buf (post_of n k moved) few)
    ∙ ap (λ (r : List ℕ). r ++ take got buf) front
