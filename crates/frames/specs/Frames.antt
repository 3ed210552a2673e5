-- Frames: the letter of each, its length, and what its body holds.
use Rattle.std.specs.Prelude.{ℕ, List, [], ◌∷◌, length, Ok, Err, Result, ◌==◌, slice_index}
use Rattle.std.specs.Int.{w32, cast_signed}
use Rattle.std.specs.Option.{ok_or}
use Rattle.instruments.specs.Frames.{big_endian}
use Rattle.instruments.specs.Limits.{if_kept}
use Rattle.instruments.specs.declared.refusal.Refusal.{Refusal}
use Rattle.instruments.specs.declared.refusal.Refusal.TheVariants.{Malformed, UnknownLetter, WrongLength}
use Rattle.frames.specs.Letters.{letter_at}
use Rattle.frames.specs.declared.frame.Frame.{Frame}
use Rattle.frames.specs.declared.frame.Frame.TheVariants as frame
use Rattle.frames.specs.declared.letter.Letter.{Letter}
use Rattle.frames.specs.declared.letter.Letter.TheVariants.{Open, Quote, Withdraw, Post, Strike, Settle, Forward, Factor, Rate, Reserve}

-- the letter of a frame's first byte
abbrev pub frame_letter : List ℕ → Result Letter Refusal
frame_letter [] = Err Malformed
frame_letter (b ∷ bs) = ok_or (letter_at b) UnknownLetter

-- the bytes of a frame of each letter, where a quotation has q
abbrev pub frame_length : Letter → ℕ → ℕ
frame_length Open q = 6
frame_length Quote q = q
frame_length Withdraw q = 2
frame_length Post q = 6
frame_length Strike q = 2
frame_length Settle q = 1
frame_length Forward q = 2
frame_length Factor q = 2
frame_length Rate q = 2
frame_length Reserve q = 1

-- what the bytes of a frame hold: a kind, a class and a code, a year, or a year and an amount of four bytes in two's complement
abbrev pub frame_body : Letter → List ℕ → Frame
frame_body Open bytes = frame.Open (slice_index bytes 1) (slice_index bytes 2) (slice_index bytes 3 ∷ slice_index bytes 4 ∷ slice_index bytes 5 ∷ [])
frame_body Quote bytes = frame.Quote
frame_body Withdraw bytes = frame.Withdraw (slice_index bytes 1)
frame_body Post bytes = frame.Post (slice_index bytes 1) (cast_signed w32 (big_endian bytes 2))
frame_body Strike bytes = frame.Strike (slice_index bytes 1)
frame_body Settle bytes = frame.Settle
frame_body Forward bytes = frame.Forward (slice_index bytes 1)
frame_body Factor bytes = frame.Factor (slice_index bytes 1)
frame_body Rate bytes = frame.Rate (slice_index bytes 1)
frame_body Reserve bytes = frame.Reserve

-- the same where the length is right
abbrev pub frame_read : Letter → List ℕ → ℕ → Result Frame Refusal
frame_read letter bytes q = if_kept (length bytes == frame_length letter q) WrongLength (Ok (frame_body letter bytes))
