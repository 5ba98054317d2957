-- The loop of `feed`: what holds at its test, and what a turn and each way out make of it. Assumes nothing.
use Prim.Native.Nat.{ℕ, ◌+◌, ◌-◌, ◌≤◌, ◌<◌}
use mathlib.Core.Path.{◌≡◌, refl, sym, subst, ◌∙◌}
use mathlib.Core.List.{List, [], ◌++◌}
use mathlib.Core.Bool.{Bool, true, false, cond}
use native.Mathlib.Omega.{arith}
use lib.ListN.{length, get_or}
use lib.Dec.{ltb, leb}
use lib.Ieee.{Float}
use borrow.Author.Tests.{ltb-true, leb-true}
use Rattle.records.specs.Record.{read_at, record_at, body_of}
use Rattle.records.specs.declared.Record.{Record}
use Rattle.records.specs.declared.Read.TheVariants.{Whole, Cut, End}
use Rattle.text.specs.Line.{Put}
use Rattle.text.proofs.Laws.{kept, then}
use Rattle.stream.specs.declared.Stop.TheVariants.{Done}
use Rattle.stream.specs.Stream.{goes}
use Rattle.stream.specs.Feeding as f
use Rattle.stream.specs.Feeding.{longest, Stepped, Takes, Wants, FedBy}

whole_cond : (b d : Bool) (r q : Record) (k next : ℕ) → cond b (cond d (Whole r k) Cut) End ≡ Whole q next → (b ≡ true) × (d ≡ true) × (k ≡ next) × (r ≡ q)
whole_cond true true r q k next e = (refl, refl, cc, cc)
whole_cond true false r q k next e = absurd (let z : ◌≡◌ {A = ℕ} 0 1 = cc in omega arith)
whole_cond false d r q k next e = absurd (let z : ◌≡◌ {A = ℕ} 0 1 = cc in omega arith)

-- what a whole record tells of its place
pub record Place (s : List ℕ) (at : ℕ) (what : Record) (next : ℕ) : Type 0 where
  pub before : at < length s
  pub body : body_of (get_or s at 0) ≤ length s - (at + 1)
  pub past : at + 1 + body_of (get_or s at 0) ≡ next
  pub is : record_at s (get_or s at 0) (at + 1) ≡ what

pub place : (s : List ℕ) (at : ℕ) (what : Record) (next : ℕ) → read_at s at ≡ Whole what next → Place s at what next
place s at what next e =
    let w = whole_cond (ltb at (length s)) (leb (body_of (get_or s at 0)) (length s - (at + 1))) (record_at s (get_or s at 0) (at + 1)) what (at + 1 + body_of (get_or s at 0)) next e in
    record { before = ltb-true at (length s) w.0; body = leb-true (body_of (get_or s at 0)) (length s - (at + 1)) w.1; past = w.2; is = w.3 }

pub record Fine (s : List ℕ) (from : ℕ) (p₀ : List Float) (out₀ : List ℕ) (p : List Float) (out : List ℕ) (at w : ℕ) : Type 0 where
  pub text : List ℕ
  pub takes : Takes (length out₀) s from p₀ text at p true
  pub put : Put out₀ 0 text out w
  pub room : w ≤ length out₀
  pub inside : from ≤ length s → at ≤ length s

module _ (s : List ℕ) (from : ℕ) (p₀ : List Float) (out₀ : List ℕ) where
  pub begun : Fine s from p₀ out₀ p₀ out₀ from 0
  begun = record { text = []; takes = f.none; put = record { bytes = refl; past = refl }; room = omega arith; inside = λ k. k }

  module _ {p : List Float} {out : List ℕ} {at w : ℕ} (F : Fine s from p₀ out₀ p out at w) where
    pub same_size : length out ≡ length out₀
    same_size = kept F.put

    module _ (h : 32768 ≤ length out - w) {what : Record} {next : ℕ} (e : read_at s at ≡ Whole what next)
        {p' : List Float} {out' : List ℕ} {w' : ℕ} {going : Bool} (q : Stepped what p out w p' out' w' going) where
      roomy : w' ≤ length out₀
      roomy = omega (arith, same_size, q.replies.put.past, q.replies.short, h)

      within : next ≤ length s
      within = let P = place s at what next e in omega (arith, P.before, P.body, P.past)

      before : length F.text + longest ≤ length out₀
      before = omega (arith, same_size, F.put.past, h)

      taken : (g : Bool) → goes what ≡ g → Takes (length out₀) s from p₀ (F.text ++ q.replies.text) next p' g
      taken g z =
          subst (λ (x : List Float). Takes (length out₀) s from p₀ (F.text ++ q.replies.text) next x g) (sym q.points)
          (subst (Takes (length out₀) s from p₀ (F.text ++ q.replies.text) next _) z (f.then what q.replies.text F.takes before e q.replies.prints))

      pub turn : going ≡ true → Fine s from p₀ out₀ p' out' next w'
      turn g = record {
        text = F.text ++ q.replies.text;
        takes = taken true (sym q.going ∙ g);
        put = then F.put q.replies.put;
        room = roomy;
        inside = λ k. within;
      }

      pub done : going ≡ false → FedBy s from p₀ out₀ p' out' (record { used = next; wrote = w'; stop = Done })
      done g = record {
        text = F.text ++ q.replies.text;
        takes = taken false (sym q.going ∙ g);
        ends = tt;
        put = then F.put q.replies.put;
        inside = λ k. within;
        room = roomy;
      }
