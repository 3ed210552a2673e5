-- A book by its register.
use Rattle.std.specs.Prelude.{◌≡◌, ℕ, min, Bool, cond, List, map, length, take, ℤ, is_some, IfSome, Some, None, Ok, Err, Option, Result, nat_lt}
use Rattle.std.specs.Borrow.{GName}
use Rattle.std.specs.List.{prefix_len}
use Rattle.instruments.specs.Law.{Meaning}
use Rattle.instruments.specs.declared.kind.Instrument.{Ghosts}
use Rattle.instruments.specs.declared.refusal.Refusal.{Refusal}
use Rattle.instruments.specs.declared.refusal.Refusal.TheVariants.{NotSettled}
use Rattle.curve.specs.Currencies.{span}
use Rattle.curve.specs.Settling.{settled}
use Rattle.book.specs.Register.{Register, told, reply}
use Rattle.book.specs.Rows.{entered, withdrawn}
use Rattle.book.specs.declared.call.Call.{Call}
use Rattle.book.specs.declared.call.Call.TheVariants.{Enter, Withdraw, Post, Strike, Settle, Forward, Factor, Rate, Reserve}
use Rattle.book.specs.declared.settled.Settled.{Settled}
use Rattle.book.specs.declared.volume.Book.{Book}

-- what the places hold
abbrev pub rows_of : {K Row : Type 0} {g : Ghosts K Row} → Book K Row g → List Row
rows_of b = b.rows.now

-- which lent places they are: the name by which the check knows the reference to them
abbrev pub lender_of : {K Row : Type 0} {g : Ghosts K Row} → Book K Row g → GName
lender_of b = b.rows.ghost_name

-- the held quotations, made anew from their rows
abbrev pub quotations_of : {K Row : Type 0} {g : Ghosts K Row} → (Row → Meaning) → Book K Row g → List Meaning
quotations_of read b = map read (take b.len (rows_of b))

-- the register of a book
abbrev pub register_of : {K Row : Type 0} {g : Ghosts K Row} → (Row → Meaning) → Book K Row g → Register
register_of read b =
    record { span = span b.terms; usable = min 60 (length (rows_of b)); quotations = quotations_of read b; flows = b.flows.amounts; is_settled = is_some b.settled }

-- a book is sound if the curve that it keeps is the one of the held quotations: its type says so of every book, by what its own kind reads
abbrev pub Sound : {K Row : Type 0} {g : Ghosts K Row} → (Row → Meaning) → Book K Row g → Type 0
Sound read b = IfSome b.settled (λ s. Ok s.curve.tables ≡ settled (span b.terms) (quotations_of read b))

-- how many rows of a list in rising order have a smaller maturity
unfoldable pub rank : ℕ → List Meaning → ℕ
rank m xs = prefix_len (λ x. nat_lt x.maturity m) xs

-- what the places hold after entering beside the quotations held: the row in its place if it is accepted
abbrev pub entered_rows : {Row : Type 0} → List Meaning → List Row → Meaning → Row → Bool → List Row
entered_rows xs rows x row accepted = cond accepted (entered rows (length xs) (rank x.maturity xs) row) rows

-- after withdrawing
abbrev pub withdrawn_rows : {Row : Type 0} → List Meaning → List Row → ℕ → Bool → List Row
withdrawn_rows xs rows m accepted = cond accepted (withdrawn rows (length xs) (rank m xs)) rows

-- a call that changes the book answers no figures
abbrev pub no_figures : Unit {0} → Option (ℤ × ℤ)
no_figures u = None

-- what a settled book keeps
abbrev pub kept_of : Option Settled → Result Settled Refusal
kept_of None = Err NotSettled
kept_of (Some s) = Ok s

-- a call by what it means
abbrev pub call_means : {K : Type 0} → (K → Meaning) → Call K → Call Meaning
call_means means (Enter x) = Enter (means x)
call_means means (Withdraw m) = Withdraw m
call_means means (Post t a) = Post t a
call_means means (Strike t) = Strike t
call_means means Settle = Settle
call_means means (Forward t) = Forward t
call_means means (Factor t) = Factor t
call_means means (Rate t) = Rate t
call_means means Reserve = Reserve

-- what the places hold after a call, by the quotations held before it and by whether it is accepted
abbrev pub rows_after : {K Row : Type 0} → (K → Row) → (K → Meaning) → List Meaning → List Row → Call K → Bool → List Row
rows_after row means xs rows (Enter x) accepted = entered_rows xs rows (means x) (row x) accepted
rows_after row means xs rows (Withdraw m) accepted = withdrawn_rows xs rows m accepted
rows_after row means xs rows (Post t a) accepted = rows
rows_after row means xs rows (Strike t) accepted = rows
rows_after row means xs rows Settle accepted = rows
rows_after row means xs rows (Forward t) accepted = rows
rows_after row means xs rows (Factor t) accepted = rows
rows_after row means xs rows (Rate t) accepted = rows
rows_after row means xs rows Reserve accepted = rows

-- a call on a book: the register is told it, the answer is the one defined, and the book is sound
pub record Kept {K Row : Type 0} {g : Ghosts K Row} (read : Row → Meaning) (before : Book K Row g) (call : Call Meaning) (answer : Result (Option (ℤ × ℤ)) Refusal) (later : Book K Row g) : Type 0 where
  pub register : register_of read later ≡ told (register_of read before) call
  pub replied : answer ≡ reply (register_of read before) call
  pub sound : Sound read later
