-- What is written while lines are read.
use Rattle.std.specs.Prelude.{◌≡◌, ℕ, List, [], ◌++◌, Some, None, Option}
use Rattle.frames.specs.Inputs.{input_answers}

-- where the bytes to read and those written are known before: all are read, and those written have grown by their answers
abbrev pub Answered : Option (List ℕ) → Option (List ℕ) → Option (List ℕ) → Option (List ℕ) → Type 0
Answered (Some input) (Some before) left now = (left ≡ Some []) × (now ≡ Some (before ++ input_answers input))
Answered (Some input) None left now = Unit {0}
Answered None before left now = Unit {0}
