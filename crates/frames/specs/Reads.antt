-- What is read of a line, and kinds of instrument as frames know them.
use Rattle.std.specs.Prelude.{ℕ, List, Result}
use Rattle.arrayvec.specs.ArrayVec.{ArrayVec}
use Rattle.instruments.specs.Law.{Meaning, ok_map}
use Rattle.instruments.specs.declared.class.Class.{Class}
use Rattle.instruments.specs.declared.kind.Instrument.{Ghosts}
use Rattle.instruments.specs.declared.refusal.Refusal.{Refusal}
use Rattle.frames.specs.Sessions.{Kind}
use Rattle.frames.specs.declared.letter.Letter.{Letter}

-- a letter with the bytes of its frame
abbrev pub bytes_read : Letter × ArrayVec ℕ → Letter × List ℕ
bytes_read read = (read.0, read.1.items)

-- a kind by the length of its quotation frame, what its rows mean and what its bodies make for a class
abbrev pub kind_of : {Row : Type 0} → ℕ → (Row → Meaning) → (Class → List ℕ → Result Row Refusal) → Class → Kind
kind_of framed read making class = record { quote_length = framed; quoted = λ body. ok_map read (making class body) }

-- the same by the ghost members of a kind
abbrev pub kind_by : {K Row : Type 0} → Ghosts K Row → Class → Kind
kind_by g = kind_of g.LENGTH g.read g.making
