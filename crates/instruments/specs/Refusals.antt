-- Each refusal's number, and the year that it reports.
use Rattle.std.specs.Prelude.{ℕ, List, ◌++◌, codes}
use Rattle.std.specs.Fmt.{decimal}
use Rattle.instruments.specs.declared.refusal.Refusal.{Refusal}
use Rattle.instruments.specs.declared.refusal.Refusal.TheVariants.{Malformed, UnknownLetter, OutOfTurn, WrongLength, UnknownKind, BadCode, BadMaturity, BadQuotation, BadPrice, AfterConvergence, MaturityHeld, NoPlaceLeft, NoneHeld, BadYear, BadAmount, FlowHeld, NoFlow, TooShort, ForwardBelowRange, ForwardAboveRange, ForwardTooWide, NotSettled, OutsideHorizon}

-- a refusal as it is answered
pub record Reported : Type 0 where
  pub number : ℕ
  pub year : ℕ

abbrev report : ℕ → ℕ → Reported
report n y = record { number = n; year = y }

-- the number of each case with its year, 0 where the case has none
abbrev pub reported : Refusal → Reported
reported Malformed = report 1 0
reported UnknownLetter = report 2 0
reported OutOfTurn = report 3 0
reported WrongLength = report 4 0
reported UnknownKind = report 5 0
reported BadCode = report 6 0
reported (BadMaturity y) = report 7 y
reported (BadQuotation y) = report 8 y
reported (BadPrice y) = report 9 y
reported (AfterConvergence y) = report 10 y
reported (MaturityHeld y) = report 11 y
reported (NoPlaceLeft y) = report 12 y
reported (NoneHeld y) = report 13 y
reported (BadYear y) = report 14 y
reported (BadAmount y) = report 15 y
reported (FlowHeld y) = report 16 y
reported (NoFlow y) = report 17 y
reported (TooShort y) = report 18 y
reported (ForwardBelowRange y) = report 19 y
reported (ForwardAboveRange y) = report 20 y
reported (ForwardTooWide y) = report 21 y
reported NotSettled = report 22 0
reported (OutsideHorizon y) = report 23 y

-- a refusal as text: its number and its year, in decimal
abbrev pub refusal_text : Refusal → List ℕ
refusal_text r = codes "number " ++ decimal (reported r).number ++ codes ", year " ++ decimal (reported r).year
