-- The letters of frames, and their bytes.
use Rattle.std.specs.Prelude.{ℕ, cond, Some, None, Option, ◌==◌}
use Rattle.frames.specs.declared.letter.Letter.{Letter}
use Rattle.frames.specs.declared.letter.Letter.TheVariants.{Open, Quote, Withdraw, Post, Strike, Settle, Forward, Factor, Rate, Reserve}

-- the byte of each letter: O, Q, W, P, X, S, F, D, Z, R
abbrev pub letter_code : Letter → ℕ
letter_code Open = 79
letter_code Quote = 81
letter_code Withdraw = 87
letter_code Post = 80
letter_code Strike = 88
letter_code Settle = 83
letter_code Forward = 70
letter_code Factor = 68
letter_code Rate = 90
letter_code Reserve = 82

-- the letter where a byte is its own, and else what follows
abbrev if_byte_of : Letter → ℕ → Option Letter → Option Letter
if_byte_of letter b else = cond (b == letter_code letter) (Some letter) else

-- the letter of a byte, if it is one
abbrev pub letter_at : ℕ → Option Letter
letter_at b =
    if_byte_of Open b (if_byte_of Quote b (if_byte_of Withdraw b (if_byte_of Post b (if_byte_of Strike b
    (if_byte_of Settle b (if_byte_of Forward b (if_byte_of Factor b (if_byte_of Rate b (if_byte_of Reserve b None)))))))))
