-- What the places hold after a row is entered or withdrawn.
use Rattle.std.specs.Prelude.{ℕ, ◌+◌, ◌-◌, List, ◌∷◌, ◌++◌, take, drop}

-- entering: of the first len places those from the given one on move up one place
abbrev pub entered : {R : Type 0} → List R → ℕ → ℕ → R → List R
entered rows len at row = take at rows ++ (row ∷ (take (len - at) (drop at rows) ++ drop (len + 1) rows))

-- withdrawing: those after it move down one place, and the last of them keeps what it held
abbrev pub withdrawn : {R : Type 0} → List R → ℕ → ℕ → List R
withdrawn rows len at = take at rows ++ (take (len - (at + 1)) (drop (at + 1) rows) ++ drop (len - 1) rows)
