-- What is promised of an input: the calls that its lines make on the book that it opens keep the promise of a run of calls.
use Rattle.std.specs.Prelude.{ℕ, List, [], ◌∷◌, Some, None, Ok, Err, Option, Result}
use Rattle.instruments.specs.Law.{Meaning}
use Rattle.instruments.specs.declared.class.Class.{Class}
use Rattle.instruments.specs.declared.refusal.Refusal.{Refusal}
use Rattle.book.specs.Promise.{Stands, Promise}
use Rattle.book.specs.declared.call.Call.{Call}
use Rattle.frames.specs.Inputs.{kind_for, line_opens, Stage, stage_after}
use Rattle.frames.specs.Lines.{lines}
use Rattle.frames.specs.Sessions.{Kind, line_read, frame_call}
use Rattle.frames.specs.declared.answer.Answer.{Answer}
use Rattle.frames.specs.declared.letter.Letter.{Letter}
use Rattle.frames.specs.declared.opening.Named.{Named}

-- the calls that lines make on an open book: one for each line that reads as one
abbrev pub with_call : Result (Call Meaning) Refusal → List (Call Meaning) → List (Call Meaning)
with_call (Ok call) rest = call ∷ rest
with_call (Err refusal) rest = rest

abbrev pub with_read : Kind → Result (Letter × List ℕ) Answer → List (Call Meaning) → List (Call Meaning)
with_read k (Ok (l, bytes)) rest = with_call (frame_call k l bytes) rest
with_read k (Err answer) rest = rest

unfoldable pub open_calls : Kind → List (List ℕ) → List (Call Meaning)
open_calls k [] = []
open_calls k (line ∷ rest) = with_read k (line_read line) (open_calls k rest)

-- the promise of lines before a book is open: from the first that opens one, that of the calls which the lines after it make on 60 places
abbrev pub after_opening : Result (Named × Class × Option (ℕ × ℕ)) Answer → List (List ℕ) → Type 0 → Type 0
after_opening (Ok (kind, class, span)) rest later = Promise span 60 (open_calls (kind_for kind class) rest)
after_opening (Err answer) rest later = later

unfoldable pub ClosedPromise : List (List ℕ) → Type 0
ClosedPromise [] = Unit {0}
ClosedPromise (line ∷ rest) = after_opening (line_opens line) rest (ClosedPromise rest)

-- the promise of a whole input
abbrev pub InputPromise : List ℕ → Type 0
InputPromise input = ClosedPromise (lines input)

-- what is owed at a stage: where a book is open, what its register owes
abbrev pub StageStands : Stage → Type 0
StageStands None = Unit {0}
StageStands (Some (k, R)) = Stands R

-- it is owed whatever lines come
abbrev pub Keeps : Stage → Type 0
Keeps s = (ls : List (List ℕ)) → StageStands (stage_after s ls)
