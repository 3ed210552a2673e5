-- Lines of hexadecimal digits, and the bytes that they are read as.
use Rattle.std.specs.Prelude.{ℕ, ◌+◌, ◌-◌, ◌*◌, ◌%◌, Bool, true, cond, ◌&&◌, ◌||◌, List, [], ◌∷◌, length, Some, None, Option, ◌==◌, nat_le}
use Rattle.instruments.specs.Limits.{within}

-- whether a byte is a digit: 0 to 9, A to F or a to f
abbrev pub is_digit : ℕ → Bool
is_digit b = within 48 57 b || (within 65 70 b || within 97 102 b)

-- the value of a digit
abbrev pub digit_value : ℕ → ℕ
digit_value b = cond (nat_le b 57) (b - 48) (cond (nat_le b 70) (b - 55) (b - 87))

-- the value of a byte, if it is a digit
abbrev pub digit_read : ℕ → Option ℕ
digit_read b = cond (is_digit b) (Some (digit_value b)) None

-- the byte of two digits, the higher first, if both are digits
abbrev pub pair_value : ℕ → ℕ → Option ℕ
pair_value high low = cond (is_digit high && is_digit low) (Some (16 * digit_value high + digit_value low)) None

-- whether every byte is a digit
abbrev pub all_digits : List ℕ → Bool
all_digits [] = true
all_digits (b ∷ bs) = is_digit b && all_digits bs

-- the bytes of digits, two for each, the higher first
abbrev pub bytes_of : List ℕ → List ℕ
bytes_of [] = []
bytes_of (high ∷ []) = []
bytes_of (high ∷ low ∷ rest) = (16 * digit_value high + digit_value low) ∷ bytes_of rest

-- whether a line is a frame: an even count of digits, 2 to 20
abbrev pub well_formed : List ℕ → Bool
well_formed line = within 2 20 (length line) && (length line % 2 == 0 && all_digits line)

-- the bytes of a line that is a frame
abbrev pub decoded : List ℕ → Option (List ℕ)
decoded line = cond (well_formed line) (Some (bytes_of line)) None
