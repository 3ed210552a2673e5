-- What a loan means.
use Rattle.std.specs.Prelude.{ℕ, ◌+◌, ◌*◌, cond, List, Err, Result}
use Rattle.instruments.specs.Law.{Meaning}
use Rattle.instruments.specs.Limits.{within, clamped}
use Rattle.instruments.specs.declared.class.Class.{Class}
use Rattle.instruments.specs.declared.refusal.Refusal.{Refusal}
use Rattle.instruments.specs.declared.refusal.Refusal.TheVariants.{UnknownKind}
use Rattle.trials.specs.declared.loan.Loan.{Loan}
use Rattle.trials.specs.declared.loan.LoanRow.{LoanRow}

-- the payment of a year: in the years 1 to maturity, 100,000 ppm more than in the year before
abbrev pub instalment : ℕ → ℕ → ℕ → ℕ
instalment base maturity year = cond (within 1 maturity year) (base + 100000 * year) 0

-- what a loan means, by its base, maturity and price
abbrev pub loan_meaning : ℕ → ℕ → ℕ → Meaning
loan_meaning base maturity price = record { maturity = maturity; price = price; payment = instalment base maturity }

-- the row of a loan
abbrev pub loan_row : Loan → LoanRow
loan_row l = record { maturity = l.maturity; base = l.base; price = l.price }

abbrev pub loan_means : Loan → Meaning
loan_means l = loan_meaning l.base l.maturity l.price

-- what a row means: each of its numbers is brought to its limits first
abbrev pub loan_read : LoanRow → Meaning
loan_read r = loan_meaning (clamped 0 200000 r.base) (clamped 1 18 r.maturity) (clamped 1 2000000000 r.price)

-- no frame makes a loan
abbrev pub loan_making : Class → List ℕ → Result LoanRow Refusal
loan_making class body = Err UnknownKind
