-- The answers to a whole input.
use Rattle.std.specs.Prelude.{ℕ, cond, List, [], ◌∷◌, ◌++◌, Some, None, Ok, Err, Option, Result}
use Rattle.instruments.specs.Bonds.{bond_read, bond_body}
use Rattle.instruments.specs.Classes.{class_named}
use Rattle.instruments.specs.Law.{ok_map}
use Rattle.instruments.specs.Swaps.{swap_read, swap_body}
use Rattle.instruments.specs.declared.class.Class.{Class}
use Rattle.instruments.specs.declared.refusal.Refusal.{Refusal}
use Rattle.instruments.specs.declared.refusal.Refusal.TheVariants.{OutOfTurn, UnknownKind}
use Rattle.curve.specs.Currencies.{span, span_of}
use Rattle.curve.specs.Market.{and_then}
use Rattle.book.specs.Register.{Register, opened}
use Rattle.frames.specs.Answers.{answer_line, reply_answer}
use Rattle.frames.specs.Frames.{frame_read}
use Rattle.frames.specs.Kinds.{kind_named}
use Rattle.frames.specs.Lines.{lines}
use Rattle.frames.specs.Reads.{kind_of}
use Rattle.frames.specs.Sessions.{Kind, line_read, opens, line_outcome}
use Rattle.frames.specs.declared.answer.Answer.{Answer}
use Rattle.frames.specs.declared.frame.Frame.{Frame}
use Rattle.frames.specs.declared.frame.Frame.TheVariants as frame
use Rattle.frames.specs.declared.letter.Letter.{Letter}
use Rattle.frames.specs.declared.letter.Letter.TheVariants as letter
use Rattle.frames.specs.declared.opening.Named.{Named}
use Rattle.frames.specs.declared.opening.Named.TheVariants.{Swap, Bond}
use Rattle.frames.specs.declared.opening.Opening.{Opening}

-- a kind for a class
abbrev pub kind_for : Named → Class → Kind
kind_for Swap class = kind_of 6 swap_read swap_body class
kind_for Bond class = kind_of 10 bond_read bond_body class

-- an opening by its kind, its class and its terms as a span
abbrev pub opening_means : Opening → Named × Class × Option (ℕ × ℕ)
opening_means o = (o.kind, o.class, span o.terms)

-- what an opening frame opens: kind and class first, then the code
abbrev pub with_class : Named → Option Class → List ℕ → Result (Named × Class × Option (ℕ × ℕ)) Refusal
with_class kind None code = Err UnknownKind
with_class kind (Some class) code = ok_map (λ s. (kind, class, s)) (span_of code)

abbrev pub with_kind : Option Named → Option Class → List ℕ → Result (Named × Class × Option (ℕ × ℕ)) Refusal
with_kind None class code = Err UnknownKind
with_kind (Some kind) class code = with_class kind class code

abbrev pub opening_of : Frame → Result (Named × Class × Option (ℕ × ℕ)) Refusal
opening_of (frame.Open kind class code) = with_kind (kind_named kind) (class_named class) code
opening_of frame.Quote = Err OutOfTurn
opening_of (frame.Withdraw m) = Err OutOfTurn
opening_of (frame.Post t a) = Err OutOfTurn
opening_of (frame.Strike t) = Err OutOfTurn
opening_of frame.Settle = Err OutOfTurn
opening_of (frame.Forward t) = Err OutOfTurn
opening_of (frame.Factor t) = Err OutOfTurn
opening_of (frame.Rate t) = Err OutOfTurn
opening_of frame.Reserve = Err OutOfTurn

-- what a frame comes to before a book is open: only an opening is in turn
abbrev pub frame_opens : Letter → List ℕ → Result (Named × Class × Option (ℕ × ℕ)) Refusal
frame_opens l bytes = cond (opens l) (and_then (frame_read l bytes 0) opening_of) (Err OutOfTurn)

-- what a line comes to before a book is open: what it opens, or its answer
abbrev pub opening_answer : Letter → Result (Named × Class × Option (ℕ × ℕ)) Refusal → Result (Named × Class × Option (ℕ × ℕ)) Answer
opening_answer l (Ok opening) = Ok opening
opening_answer l (Err refusal) = Err (reply_answer l (Err refusal))

abbrev pub read_opens : Result (Letter × List ℕ) Answer → Result (Named × Class × Option (ℕ × ℕ)) Answer
read_opens (Ok (l, bytes)) = opening_answer l (frame_opens l bytes)
read_opens (Err answer) = Err answer

abbrev pub line_opens : List ℕ → Result (Named × Class × Option (ℕ × ℕ)) Answer
line_opens line = read_opens (line_read line)

-- where a dialogue stands: no book is open, or one of a kind, by its register
abbrev pub Stage : Type 0
Stage = Option (Kind × Register)

-- what a line comes to before a book is open: a book of 60 places, or its answer
abbrev pub opened_by : Result (Named × Class × Option (ℕ × ℕ)) Answer → Stage × Answer
opened_by (Ok (kind, class, span)) = (Some (kind_for kind class, opened span 60), reply_answer letter.Open (Ok None))
opened_by (Err answer) = (None, answer)

-- what a line comes to: the stage after it, and its answer
abbrev pub stage_outcome : Stage → List ℕ → Stage × Answer
stage_outcome None line = opened_by (line_opens line)
stage_outcome (Some (k, R)) line = (Some (k, (line_outcome k R line).0), (line_outcome k R line).1)

-- the stage after lines
unfoldable pub stage_after : Stage → List (List ℕ) → Stage
stage_after s [] = s
stage_after s (line ∷ rest) = stage_after (stage_outcome s line).0 rest

-- the answers to lines
unfoldable pub stage_answers : Stage → List (List ℕ) → List ℕ
stage_answers s [] = []
stage_answers s (line ∷ rest) = answer_line (stage_outcome s line).1 ++ stage_answers (stage_outcome s line).0 rest

-- the answers to a whole input
abbrev pub input_answers : List ℕ → List ℕ
input_answers input = stage_answers None (lines input)
