-- `root::square_root` meets its contract: a NaN, the two zeros and the infinity by computation, and the rest by the pattern
-- (`Floats.antt`). Assumes nothing.
use mathlib.Core.Path.{◌≡◌, sym, subst, ◌∙◌}
use mathlib.Core.Logic.{inl, inr}
use lib.Dec.{T}
use lib.Ieee.{binary64, fits, to_bits}
use native.Mathlib.Omega.{arith}
use borrow.Author.Rules.{rules}
use Rattle.root.specs.Steps.{infinity, sign}
use Rattle.root.proofs.Floats.{root-of_nan, root-zero, root-minus_zero, root-infinity, root-positive, root_none, pattern_no-nan}
use Rattle.root.proofs.square_root.Goals as goal
use Rattle.root.proofs.square_root.Goals.{Start}

-- what owning an `f64` tells: the format holds it
held : (c : Start) → T (fits binary64 c.args.x)
held c = subst T (sym c.well_formed.0.1) tt

pub returns-then-is_nan : goal.returns-then-is_nan
returns-then-is_nan c = root-of_nan c.args.x (sym c.is_nan.ensures.value ∙ c.if-is_nan.true)

pub float_from_bits-result : goal.float_from_bits-result
float_from_bits-result c = pattern_no-nan c.root_bits.result (omega (arith, c.root_bits.ensures.high))

pub returns-in-0 : goal.returns-in-0
returns-in-0 c =
    let f = held (goal.at.returns-in-0 c).Start in
    elim c.in-0.is [
      | inl h ↦ root-zero c.args.x f h
      | inr k ↦ elim k [ inl h ↦ root-infinity c.args.x f h | inr h ↦ root-minus_zero c.args.x f h ]
    ]

pub returns-in_default : goal.returns-in_default
returns-in_default c =
    root-positive c.args.x (held (goal.at.returns-in_default c).Start) c.root_bits.result (grind arith) c.if-b-lt-INFINITY.true c.root_bits.ensures

pub returns-in_default-2 : goal.returns-in_default-2
returns-in_default-2 c =
    let x = c.args.x in
    root_none x (held (goal.at.returns-in_default-2 c).Start) (λ (h : to_bits binary64 x ≡ sign). grind arith) (λ (h : to_bits binary64 x ≡ infinity). search rules) c.if-b-lt-INFINITY.false
