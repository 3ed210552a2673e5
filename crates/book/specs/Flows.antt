-- What makes a flow.
use Rattle.std.specs.Prelude.{ℕ, ℤ, pos, negsuc, Ok, Result}
use Rattle.instruments.specs.Limits.{within, withinℤ, if_kept}
use Rattle.instruments.specs.declared.refusal.Refusal.{Refusal}
use Rattle.instruments.specs.declared.refusal.Refusal.TheVariants.{BadYear, BadAmount}
use Rattle.book.specs.declared.flow.Flow.{Flow}

-- a flow's year and amount
abbrev pub flow_fields : Flow → ℕ × ℤ
flow_fields f = (f.year, f.amount)

-- the flow of a year 1 to 120, of -10^9 to 10^9 kronor
abbrev pub flow_making : ℕ → ℤ → Result (ℕ × ℤ) Refusal
flow_making t a = if_kept (within 1 120 t) (BadYear t) (if_kept (withinℤ (negsuc 999999999) (pos 1000000000) a) (BadAmount t) (Ok (t, a)))
