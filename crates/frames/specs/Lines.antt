-- The lines of an input: each ends at a newline, the last one also at the end of the input unless it is empty.
use Rattle.std.specs.Prelude.{ℕ, suc, cond, List, [], ◌∷◌, length, take, Some, None, Option, ◌==◌}

-- a byte put before the first of some lines
abbrev pub onto : ℕ → List (List ℕ) → List (List ℕ)
onto b [] = (b ∷ []) ∷ []
onto b (line ∷ rest) = (b ∷ line) ∷ rest

-- the lines of an input, without their newlines
abbrev pub lines : List ℕ → List (List ℕ)
lines [] = []
lines (b ∷ bs) = cond (b == 10) ([] ∷ lines bs) (onto b (lines bs))

-- how many bytes stand before the first newline, or the end
abbrev pub line_length : List ℕ → ℕ
line_length [] = 0
line_length (b ∷ bs) = cond (b == 10) 0 (suc (line_length bs))

-- where the next line begins: after the first newline, or at the end
abbrev pub next_line : List ℕ → ℕ
next_line [] = 0
next_line (b ∷ bs) = cond (b == 10) 1 (suc (next_line bs))

-- the first line and where the next begins, unless the input is empty
abbrev pub front_line : List ℕ → Option (List ℕ × ℕ)
front_line input = cond (length input == 0) None (Some (take (line_length input) input, next_line input))
