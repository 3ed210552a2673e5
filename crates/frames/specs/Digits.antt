-- Bytes as hexadecimal digits.
use Rattle.std.specs.Prelude.{ℕ, ◌/◌, ◌%◌, List, [], ◌∷◌, codes, slice_index}

-- the character of a number below 16
abbrev pub digit : ℕ → ℕ
digit n = slice_index (codes "0123456789ABCDEF") n

-- two digits for each byte, the higher first
abbrev pub hex : List ℕ → List ℕ
hex [] = []
hex (b ∷ bs) = digit (b / 16) ∷ digit (b % 16) ∷ hex bs
