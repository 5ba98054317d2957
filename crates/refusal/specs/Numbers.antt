-- A refusal in numbers, and an answer in numbers.
--   number r, detail r  the number of a refusal, and what is told beside it
--   Told                an answer: whether it is given, the number (0: none) and the detail of a refusal, and the count of what is given
--   given k             an answer that gives k things
--   refused n d         a refusal with the number n and the detail d
--   told a              what an answer with a count tells
--   done a              what an answer without one tells
use Rattle.std.specs.Prelude.{ℕ, Bool, true, false, Result, Ok, Err}
use Rattle.refusal.specs.declared.Refusal.{Refusal}
use Rattle.refusal.specs.declared.Refusal.TheVariants.{OddCoordinates, TooManyPoints, PointNotFinite, PlaceNotFinite, RadiusNotValid, IndicesTooShort, NodesTooShort, NoRoom, DamagedTree, UnknownRecord}

abbrev pub number : Refusal → ℕ
number OddCoordinates = 1
number TooManyPoints = 2
number (PointNotFinite i) = 3
number PlaceNotFinite = 4
number RadiusNotValid = 5
number (IndicesTooShort n) = 6
number (NodesTooShort n) = 7
number (NoRoom n) = 8
number DamagedTree = 9
number UnknownRecord = 10

abbrev pub detail : Refusal → ℕ
detail OddCoordinates = 0
detail TooManyPoints = 0
detail (PointNotFinite i) = i
detail PlaceNotFinite = 0
detail RadiusNotValid = 0
detail (IndicesTooShort n) = n
detail (NodesTooShort n) = n
detail (NoRoom n) = n
detail DamagedTree = 0
detail UnknownRecord = 0

pub record Told : Type 0 where
  pub given : Bool
  pub number : ℕ
  pub detail : ℕ
  pub count : ℕ

abbrev pub given : ℕ → Told
given k = record { given = true; number = 0; detail = 0; count = k }

abbrev pub refused : ℕ → ℕ → Told
refused n d = record { given = false; number = n; detail = d; count = 0 }

abbrev pub told : Result ℕ Refusal → Told
told (Ok k) = given k
told (Err r) = refused (number r) (detail r)

abbrev pub done : Result Unit Refusal → Told
done (Ok u) = given 0
done (Err r) = refused (number r) (detail r)
