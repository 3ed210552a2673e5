-- A run of calls: its answers, and what it leaves in the places.
use Rattle.std.specs.Prelude.{◌≡◌, ℕ, List, [], ◌∷◌, map, length, take, ℤ, is_ok, vec_items, Option, Result, Vec}
use Rattle.std.specs.declared.alloc.Global.{Global}
use Rattle.instruments.specs.Law.{Meaning}
use Rattle.instruments.specs.declared.refusal.Refusal.{Refusal}
use Rattle.book.specs.Books.{call_means, rows_after}
use Rattle.book.specs.Promise.{replies}
use Rattle.book.specs.Register.{Register, opened, told, reply}
use Rattle.book.specs.declared.call.Call.{Call}

-- the answers are those defined for the register, call by call since opening
abbrev pub Answers : Option (ℕ × ℕ) → ℕ → List (Call Meaning) → Vec (Result (Option (ℤ × ℤ)) Refusal) Global → Type 0
Answers span usable calls v = vec_items v ≡ replies (opened span usable) calls

-- what places hold after a list of calls, from the register and what they held before: a call that the register refuses leaves them as they were
abbrev pub rows_run : {K Row : Type 0} → (K → Row) → (K → Meaning) → Register → List Row → List (Call K) → List Row
rows_run row means R rows [] = rows
rows_run row means R rows (call ∷ calls) =
    rows_run row means (told R (call_means means call)) (rows_after row means R.quotations rows call (is_ok (reply R (call_means means call)))) calls

-- the first places hold the quotations of the register, in their order
abbrev pub Holds : {Row : Type 0} → (Row → Meaning) → Register → List Row → Type 0
Holds read R rows = map read (take (length R.quotations) rows) ≡ R.quotations
