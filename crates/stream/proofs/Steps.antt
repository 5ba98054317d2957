-- One record taken, by its kind: what a query asks of the tree, and what it and an unknown kind leave. Assumes nothing.
use Prim.Native.Nat.{ℕ}
use mathlib.Core.Path.{refl}
use mathlib.Core.List.{List}
use mathlib.Core.Bool.{false}
use native.Mathlib.Omega.{arith}
use lib.Ieee.{Float}
use Rattle.records.specs.declared.Record.TheVariants.{Unknown}
use Rattle.text.specs.Line.{Put}
use Rattle.text.proofs.Laws.{short-count}
use Rattle.stream.specs.Prints.{error}
use Rattle.stream.specs.Feeding.{Replies, Stepped}

pub unknown_replies : {q : List Float} {out : List ℕ} {at : ℕ} {out' : List ℕ} {w : ℕ} → Put out at (error 10) out' w → Replies Unknown q out at out' w
unknown_replies q = record { text = error 10; prints = refl; short = omega (arith, short-count 69 10); put = q }

module _ {p : List Float} {out : List ℕ} {at : ℕ} {out' : List ℕ} {w : ℕ} where
  pub unknown_stepped : Put out at (error 10) out' w → Stepped Unknown p out at p out' w false
  unknown_stepped q = record { replies = unknown_replies q; points = refl; going = refl }
