-- The promise: what a book's answers owe to every run of calls since it was opened, for every exact curve that its quotations admit.
use Rattle.std.specs.Prelude.{◌≡◌, ℕ, ◌<◌, List, [], ◌∷◌, ◌++◌, ℤ, Some, None, Ok, Err, Option, Result, ◌≢◌}
use Rattle.instruments.specs.Law.{Meaning}
use Rattle.instruments.specs.Refusals.{reported}
use Rattle.instruments.specs.declared.refusal.Refusal.{Refusal}
use Rattle.curve.specs.Exact.{Fraction, ExactCurve, exact_growth, exact_discount, Admitted, Narrow, Rising, ForwardBetween, FactorBetween, RateBetween, ReserveBetween}
use Rattle.book.specs.Register.{Register, opened, told, reply}
use Rattle.book.specs.declared.call.Call.{Call}
use Rattle.book.specs.declared.call.Call.TheVariants.{Settle, Forward, Factor, Rate, Reserve}

-- the register after a list of calls
abbrev pub after : Register → List (Call Meaning) → Register
after R [] = R
after R (call ∷ calls) = after (told R call) calls

-- the answers to a list of calls
abbrev pub replies : Register → List (Call Meaning) → List (Result (Option (ℤ × ℤ)) Refusal)
replies R [] = []
replies R (call ∷ calls) = reply R call ∷ replies (told R call) calls

-- what holds of the figures of an answer: a refusal, or an answer with none, owes nothing
abbrev pub Figured : Result (Option (ℤ × ℤ)) Refusal → (ℤ × ℤ → Type 0) → Type 0
Figured (Ok (Some figures)) P = P figures
Figured (Ok None) P = Unit {0}
Figured (Err refusal) P = Unit {0}

-- quotations in rising order of maturity, one for each, all after year m
abbrev pub Ascending : ℕ → List Meaning → Type 0
Ascending m [] = Unit {0}
Ascending m (x ∷ xs) = (m < x.maturity) × Ascending x.maturity xs

-- the answers of a register enclose the forward, factor and zero rate of each year and the reserve at exact growths
pub record Within (R : Register) (growth : ℕ → Fraction) : Type 0 where
  pub forward : (t : ℕ) → Figured (reply R (Forward t)) (ForwardBetween growth t)
  pub factor : (t : ℕ) → Figured (reply R (Factor t)) (FactorBetween growth t)
  pub rate : (t : ℕ) → Figured (reply R (Rate t)) (RateBetween growth t)
  pub reserve : Figured (reply R Reserve) (ReserveBetween growth R.flows)

-- low is never above high, and the two forwards of a year differ by at most 1,000 units
pub record InOrder (R : Register) : Type 0 where
  pub forward : (t : ℕ) → Figured (reply R (Forward t)) Narrow
  pub factor : (t : ℕ) → Figured (reply R (Factor t)) Rising
  pub rate : (t : ℕ) → Figured (reply R (Rate t)) Rising
  pub reserve : Figured (reply R Reserve) Rising

-- what is owed at a register, for every curve that its quotations admit
pub record Stands (R : Register) : Type 0 where
  pub ascending : Ascending 0 R.quotations
  pub in_order : InOrder R
  pub encloses : (c : ExactCurve) → Admitted R.quotations c → Within R (exact_discount R.span (exact_growth c))
  pub none_admitted : (refusal : Refusal) → reply R Settle ≡ Err refusal → (c : ExactCurve) → Admitted R.quotations c → ((reported refusal).number ≢ 19) × ((reported refusal).number ≢ 20)

-- the promise: it is owed after each call of every list of calls since opening
abbrev pub Promise : Option (ℕ × ℕ) → ℕ → List (Call Meaning) → Type 0
Promise span usable calls = (before rest : List (Call Meaning)) → calls ≡ before ++ rest → Stands (after (opened span usable) before)
