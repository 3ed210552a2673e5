-- Answers, and the line that each is written as.
use Rattle.std.specs.Prelude.{ℕ, ◌/◌, ◌%◌, List, [], ◌∷◌, ◌++◌, ℤ, Some, None, Ok, Err, Option, Result}
use Rattle.std.specs.Int.{w64, cast_unsigned}
use Rattle.instruments.specs.Refusals.{reported}
use Rattle.instruments.specs.declared.refusal.Refusal.{Refusal}
use Rattle.frames.specs.Digits.{hex}
use Rattle.frames.specs.Letters.{letter_code}
use Rattle.frames.specs.declared.answer.Answer.{Answer}
use Rattle.frames.specs.declared.letter.Letter.{Letter}

-- the eight bytes of a number, the highest first
abbrev pub eight_bytes : ℕ → List ℕ
eight_bytes n =
    (n / 72057594037927936 % 256) ∷ (n / 281474976710656 % 256) ∷ (n / 1099511627776 % 256) ∷ (n / 4294967296 % 256)
    ∷ (n / 16777216 % 256) ∷ (n / 65536 % 256) ∷ (n / 256 % 256) ∷ (n % 256) ∷ []

-- the bytes of figures, each in two's complement
abbrev pub figure_bytes : List ℤ → List ℕ
figure_bytes [] = []
figure_bytes (figure ∷ figures) = eight_bytes (cast_unsigned w64 figure) ++ figure_bytes figures

-- the answer to a frame whose letter is read
abbrev pub reply_answer : Letter → Result (Option (ℤ × ℤ)) Refusal → Answer
reply_answer letter reply = record { letter = Some letter; reply = reply }

-- the answer to a line that is refused before a letter is read
abbrev pub unread_answer : Refusal → Answer
unread_answer refusal = record { letter = None; reply = Err refusal }

-- the byte of the letter, a question mark where none was read
abbrev pub letter_byte : Option Letter → ℕ
letter_byte None = 63
letter_byte (Some letter) = letter_code letter

-- the number and the year of a refusal, zeros where nothing is refused, and the bytes of the figures
abbrev pub reply_bytes : Result (Option (ℤ × ℤ)) Refusal → List ℕ
reply_bytes (Ok None) = 0 ∷ 0 ∷ []
reply_bytes (Ok (Some figures)) = 0 ∷ 0 ∷ figure_bytes (figures.0 ∷ figures.1 ∷ [])
reply_bytes (Err refusal) = (reported refusal).number ∷ (reported refusal).year ∷ []

-- the line of an answer: the digits of its bytes, and a newline
abbrev pub answer_line : Answer → List ℕ
answer_line a = hex (letter_byte a.letter ∷ reply_bytes a.reply) ++ 10 ∷ []
