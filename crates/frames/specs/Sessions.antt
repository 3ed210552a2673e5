-- What is read of a line, and what it comes to on an open book.
use Rattle.std.specs.Prelude.{ℕ, Bool, cond, List, drop, Some, None, Ok, Err, Option, Result, ◌==◌}
use Rattle.instruments.specs.Law.{Meaning, ok_map}
use Rattle.instruments.specs.declared.refusal.Refusal.{Refusal}
use Rattle.instruments.specs.declared.refusal.Refusal.TheVariants.{Malformed, OutOfTurn}
use Rattle.curve.specs.Market.{and_then}
use Rattle.book.specs.Register.{Register, told, reply}
use Rattle.book.specs.declared.call.Call.{Call}
use Rattle.book.specs.declared.call.Call.TheVariants as call
use Rattle.frames.specs.Answers.{reply_answer, unread_answer}
use Rattle.frames.specs.Frames.{frame_letter, frame_read}
use Rattle.frames.specs.Hex.{decoded}
use Rattle.frames.specs.Letters.{letter_code}
use Rattle.frames.specs.declared.answer.Answer.{Answer}
use Rattle.frames.specs.declared.frame.Frame.{Frame}
use Rattle.frames.specs.declared.frame.Frame.TheVariants as frame
use Rattle.frames.specs.declared.letter.Letter.{Letter}

-- a kind of instrument as frames know it: the length of its quotation frame, and what the body of one makes
pub record Kind : Type 0 where
  pub quote_length : ℕ
  pub quoted : List ℕ → Result Meaning Refusal

-- the letter and the bytes of a line, or the answer that refuses it unread
abbrev pub with_letter : List ℕ → Result Letter Refusal → Result (Letter × List ℕ) Answer
with_letter bytes (Ok l) = Ok (l, bytes)
with_letter bytes (Err refusal) = Err (unread_answer refusal)

abbrev pub read_bytes : Option (List ℕ) → Result (Letter × List ℕ) Answer
read_bytes None = Err (unread_answer Malformed)
read_bytes (Some bytes) = with_letter bytes (frame_letter bytes)

abbrev pub line_read : List ℕ → Result (Letter × List ℕ) Answer
line_read line = read_bytes (decoded line)

-- the call that a frame makes on an open book; a second opening is out of turn whatever its length
abbrev pub call_of : Kind → List ℕ → Frame → Result (Call Meaning) Refusal
call_of k bytes (frame.Open kind class code) = Err OutOfTurn
call_of k bytes frame.Quote = ok_map call.Enter (k.quoted (drop 1 bytes))
call_of k bytes (frame.Withdraw m) = Ok (call.Withdraw m)
call_of k bytes (frame.Post t a) = Ok (call.Post t a)
call_of k bytes (frame.Strike t) = Ok (call.Strike t)
call_of k bytes frame.Settle = Ok call.Settle
call_of k bytes (frame.Forward t) = Ok (call.Forward t)
call_of k bytes (frame.Factor t) = Ok (call.Factor t)
call_of k bytes (frame.Rate t) = Ok (call.Rate t)
call_of k bytes frame.Reserve = Ok call.Reserve

-- whether a letter opens a book
abbrev pub opens : Letter → Bool
opens l = letter_code l == 79

abbrev pub frame_call : Kind → Letter → List ℕ → Result (Call Meaning) Refusal
frame_call k l bytes = cond (opens l) (Err OutOfTurn) (and_then (frame_read l bytes k.quote_length) (call_of k bytes))

-- what a line comes to on an open book: the register after it, and its answer
abbrev pub call_outcome : Register → Letter → Result (Call Meaning) Refusal → Register × Answer
call_outcome R l (Ok c) = (told R c, reply_answer l (reply R c))
call_outcome R l (Err refusal) = (R, reply_answer l (Err refusal))

abbrev pub read_outcome : Kind → Register → Result (Letter × List ℕ) Answer → Register × Answer
read_outcome k R (Ok (l, bytes)) = call_outcome R l (frame_call k l bytes)
read_outcome k R (Err answer) = (R, answer)

abbrev pub line_outcome : Kind → Register → List ℕ → Register × Answer
line_outcome k R line = read_outcome k R (line_read line)
