-- The register: what someone knows of a book who is told its terms, its usable places and each call with its arguments, but never an answer.
use Rattle.std.specs.Prelude.{ℕ, Bool, true, false, cond, not, List, [], ◌∷◌, length, replicate, ℤ, is_some, Some, None, Ok, Err, Option, Result, ◌==◌, nat_lt, slice_index_or, slice_set}
use Rattle.instruments.specs.Law.{Meaning, ok_map}
use Rattle.instruments.specs.Limits.{if_kept}
use Rattle.instruments.specs.declared.refusal.Refusal.{Refusal}
use Rattle.instruments.specs.declared.refusal.Refusal.TheVariants.{AfterConvergence, MaturityHeld, NoPlaceLeft, NoneHeld, FlowHeld, NoFlow, NotSettled}
use Rattle.curve.specs.Currencies.{after_convergence}
use Rattle.curve.specs.Market.{and_then}
use Rattle.curve.specs.Questions.{asked_forward, asked_factor}
use Rattle.curve.specs.Rates.{asked_rate}
use Rattle.curve.specs.Reserve.{asked_reserve}
use Rattle.curve.specs.Settling.{settled}
use Rattle.curve.specs.declared.tables.Tables.{Tables}
use Rattle.book.specs.Flows.{flow_making}
use Rattle.book.specs.declared.call.Call.{Call}
use Rattle.book.specs.declared.call.Call.TheVariants.{Enter, Withdraw, Post, Strike, Settle, Forward, Factor, Rate, Reserve}

-- the terms as a span, the places that may be used, the held quotations in rising order of maturity, the flows by year 0 to 120, and whether it is settled
pub record Register : Type 0 where
  pub span : Option (ℕ × ℕ)
  pub usable : ℕ
  pub quotations : List Meaning
  pub flows : List (Option ℤ)
  pub is_settled : Bool

-- a book just opened
unfoldable pub opened : Option (ℕ × ℕ) → ℕ → Register
opened span usable = record { span = span; usable = usable; quotations = []; flows = replicate 121 None; is_settled = false }

-- other quotations unsettle the register
abbrev pub requoted : Register → List Meaning → Register
requoted R xs = record { span = R.span; usable = R.usable; quotations = xs; flows = R.flows; is_settled = false }

-- other flows do not
abbrev pub reflowed : Register → List (Option ℤ) → Register
reflowed R xs = record { span = R.span; usable = R.usable; quotations = R.quotations; flows = xs; is_settled = R.is_settled }

abbrev pub marked_settled : Register → Register
marked_settled R = record { span = R.span; usable = R.usable; quotations = R.quotations; flows = R.flows; is_settled = true }

-- whether a quotation of the maturity m is among those in rising order
unfoldable pub is_held : ℕ → List Meaning → Bool
is_held m [] = false
is_held m (x ∷ xs) = cond (nat_lt x.maturity m) (is_held m xs) (x.maturity == m)

-- the quotations with y in its place
unfoldable pub placed : Meaning → List Meaning → List Meaning
placed y [] = y ∷ []
placed y (x ∷ xs) = cond (nat_lt x.maturity y.maturity) (x ∷ placed y xs) (y ∷ (x ∷ xs))

-- the quotations without the one of the maturity m
unfoldable pub taken_out : ℕ → List Meaning → List Meaning
taken_out m [] = []
taken_out m (x ∷ xs) = cond (nat_lt x.maturity m) (x ∷ taken_out m xs) xs

-- the flow of a year
abbrev pub flow_of : Register → ℕ → Option ℤ
flow_of R t = slice_index_or R.flows t None

-- what a call does that is not refused: the register after it, and the figures if it is a question
abbrev pub Outcome : Type 0
Outcome = Result (Register × Option (ℤ × ℤ)) Refusal

abbrev pub changed : Register → Outcome
changed R = Ok (R, None)

-- a question is answered from the curve of the held quotations, once the register is settled
abbrev pub asking : Register → (Tables → Result (ℤ × ℤ) Refusal) → Outcome
asking R question = if_kept R.is_settled NotSettled (ok_map (λ figures. (R, Some figures)) (and_then (settled R.span R.quotations) question))

abbrev pub entering : Register → Meaning → Outcome
entering R x =
    if_kept (not (after_convergence R.span x.maturity)) (AfterConvergence x.maturity)
    (if_kept (not (is_held x.maturity R.quotations)) (MaturityHeld x.maturity)
    (if_kept (nat_lt (length R.quotations) R.usable) (NoPlaceLeft x.maturity) (changed (requoted R (placed x R.quotations)))))

abbrev pub withdrawing : Register → ℕ → Outcome
withdrawing R m = if_kept (is_held m R.quotations) (NoneHeld m) (changed (requoted R (taken_out m R.quotations)))

abbrev pub posting : Register → ℕ → ℤ → Outcome
posting R t a = and_then (flow_making t a) (λ _. if_kept (not (is_some (flow_of R t))) (FlowHeld t) (changed (reflowed R (slice_set R.flows t (Some a)))))

abbrev pub striking : Register → ℕ → Outcome
striking R t = if_kept (is_some (flow_of R t)) (NoFlow t) (changed (reflowed R (slice_set R.flows t None)))

abbrev pub settling : Register → Outcome
settling R = ok_map (λ _. (marked_settled R, None)) (settled R.span R.quotations)

-- what each call comes to
abbrev pub outcome : Register → Call Meaning → Outcome
outcome R (Enter x) = entering R x
outcome R (Withdraw m) = withdrawing R m
outcome R (Post t a) = posting R t a
outcome R (Strike t) = striking R t
outcome R Settle = settling R
outcome R (Forward t) = asking R (λ T. asked_forward T t)
outcome R (Factor t) = asking R (λ T. asked_factor T t)
outcome R (Rate t) = asking R (λ T. asked_rate T t)
outcome R Reserve = asking R (λ T. asked_reserve T R.flows)

-- the register after a call: as it was where the call is refused
abbrev pub register_after : Register → Outcome → Register
register_after R (Ok (after, figures)) = after
register_after R (Err refusal) = R

abbrev pub told : Register → Call Meaning → Register
told R call = register_after R (outcome R call)

-- the answer to a call: figures, none, or a refusal
abbrev pub answered : Outcome → Result (Option (ℤ × ℤ)) Refusal
answered (Ok (after, figures)) = Ok figures
answered (Err refusal) = Err refusal

abbrev pub reply : Register → Call Meaning → Result (Option (ℤ × ℤ)) Refusal
reply R call = answered (outcome R call)
