-- The calls of lines keep the promise of a run of calls.
use Rattle.std.proofs.Common.{◌≡◌, ℕ, ◌<◌, ◌≤◌, Bool, true, false, cond, List, [], ◌∷◌, drop, codes, Ok, Err, Option, Result, Some, None, sym, refl, ap, ◌∙◌, subst, arith, rules}
use Rattle.std.proofs.lemmas.List.{append-nil}
use Rattle.std.specs.Str.{bytes_eq}
use Rattle.instruments.specs.Bonds.{bond_read, bond_body}
use Rattle.instruments.specs.Classes.{class_named}
use Rattle.instruments.specs.Law.{Meaning, Lawful, ok_map}
use Rattle.instruments.specs.Limits.{if_kept}
use Rattle.instruments.specs.Swaps.{swap_read, swap_body}
use Rattle.instruments.specs.declared.bond.BondRow.{BondRow}
use Rattle.instruments.specs.declared.class.Class.{Class}
use Rattle.instruments.specs.declared.refusal.Refusal.{Refusal}
use Rattle.instruments.specs.declared.refusal.Refusal.TheVariants.{BadCode, OutOfTurn}
use Rattle.instruments.specs.declared.swap.SwapRow.{SwapRow}
use Rattle.curve.specs.Currencies.{blend_span, currency_span, letters, span}
use Rattle.curve.specs.Market.{and_then}
use Rattle.curve.specs.declared.terms.Blend.{Blend}
use Rattle.curve.specs.declared.terms.Terms.{Terms}
use Rattle.book.specs.Promise.{Promise, after}
use Rattle.book.specs.Register.{Register, opened}
use Rattle.book.specs.declared.call.Call.{Call}
use Rattle.book.specs.declared.call.Call.TheVariants as call
use Rattle.book.proofs.Standing.{LawfulCall, AllLawfulCalls, promised}
use Rattle.frames.specs.Frames.{frame_read}
use Rattle.frames.specs.Inputs.{kind_for, with_class, with_kind, opening_of, frame_opens, opening_answer, read_opens, line_opens, opened_by, stage_after}
use Rattle.frames.specs.Kinds.{kind_named}
use Rattle.frames.specs.Promises.{with_call, with_read, open_calls, after_opening, ClosedPromise, StageStands, Keeps}
use Rattle.frames.specs.Reads.{kind_of}
use Rattle.frames.specs.Sessions.{Kind, line_read, call_of, opens, frame_call, call_outcome, read_outcome, line_outcome}
use Rattle.frames.specs.declared.answer.Answer.{Answer}
use Rattle.frames.specs.declared.frame.Frame.{Frame}
use Rattle.frames.specs.declared.frame.Frame.TheVariants as frame
use Rattle.frames.specs.declared.letter.Letter.{Letter}
use Rattle.frames.specs.declared.opening.Named.{Named}
use Rattle.frames.specs.declared.opening.Named.TheVariants.{Swap, Bond}

-- what is made is lawful
abbrev LawfulMade : Result Meaning Refusal → Type 0
LawfulMade (Ok x) = Lawful x
LawfulMade (Err refusal) = Unit {0}

abbrev LawfulRead : Result (Call Meaning) Refusal → Type 0
LawfulRead (Ok call) = LawfulCall call
LawfulRead (Err refusal) = Unit {0}

module _ (k : Kind) (made : (body : List ℕ) → LawfulMade (k.quoted body)) where
  call_lawful : (bytes : List ℕ) (f : Frame) → LawfulRead (call_of k bytes f)
  call_lawful bytes (frame.Open kind class code) = tt
  call_lawful bytes frame.Quote = go (k.quoted (drop 1 bytes)) (made (drop 1 bytes))
    where
      go : (w : Result Meaning Refusal) → LawfulMade w → LawfulRead (ok_map call.Enter w)
      go (Ok x) law = law
      go (Err refusal) law = tt
  call_lawful bytes (frame.Withdraw m) = tt
  call_lawful bytes (frame.Post t a) = tt
  call_lawful bytes (frame.Strike t) = tt
  call_lawful bytes frame.Settle = tt
  call_lawful bytes (frame.Forward t) = tt
  call_lawful bytes (frame.Factor t) = tt
  call_lawful bytes (frame.Rate t) = tt
  call_lawful bytes frame.Reserve = tt

  frame_lawful : (bytes : List ℕ) (b : Bool) (w : Result Frame Refusal) → LawfulRead (cond b (Err OutOfTurn) (and_then w (call_of k bytes)))
  frame_lawful bytes true w = tt
  frame_lawful bytes false (Ok f) = call_lawful bytes f
  frame_lawful bytes false (Err refusal) = tt

  with_lawful : (w : Result (Call Meaning) Refusal) (rest : List (Call Meaning)) → LawfulRead w → AllLawfulCalls rest → AllLawfulCalls (with_call w rest)
  with_lawful (Ok call) rest law laws = (law, laws)
  with_lawful (Err refusal) rest law laws = laws

  read_lawful : (w : Result (Letter × List ℕ) Answer) (rest : List (Call Meaning)) → AllLawfulCalls rest → AllLawfulCalls (with_read k w rest)
  read_lawful (Ok (l, bytes)) rest laws = with_lawful (frame_call k l bytes) rest (frame_lawful bytes (opens l) (frame_read l bytes k.quote_length)) laws
  read_lawful (Err answer) rest laws = laws

  pub lines_lawful : (ls : List (List ℕ)) → AllLawfulCalls (open_calls k ls)
  unfolding open_calls
  lines_lawful [] = tt
  lines_lawful (line ∷ rest) = read_lawful (line_read line) (open_calls k rest) (lines_lawful rest)

-- a span that some blend has
Spans : Option (ℕ × ℕ) → Type 0
Spans span = (b : Option Blend) × (blend_span b ≡ span)

blend : (liquid convergence : ℕ) → 1 ≤ liquid → liquid < convergence → convergence ≤ 90 → Spans (Some (liquid, convergence))
unfolding Spans
blend liquid convergence begins rises ends = (Some (record { liquid = liquid; convergence = convergence; begins = begins; rises = rises; ends = ends }), refl)

either : (b : Bool) (x y : Option (ℕ × ℕ)) → Spans x → Spans y → Spans (cond b x y)
either true x y s t = s
either false x y s t = t

currency_spans : (code : List ℕ) → Spans (currency_span code)
unfolding Spans
currency_spans code =
    either (bytes_eq code (codes "XXX")) _ _ (None, refl)
    (either (bytes_eq code (codes "DKK")) _ _ (blend 20 30 (omega arith) (omega arith) (omega arith))
    (either (bytes_eq code (codes "EUR")) _ _ (blend 20 60 (omega arith) (omega arith) (omega arith))
    (either (bytes_eq code (codes "GBP")) _ _ (blend 50 90 (omega arith) (omega arith) (omega arith))
    (either (bytes_eq code (codes "USD")) _ _ (blend 30 70 (omega arith) (omega arith) (omega arith)) (blend 10 20 (omega arith) (omega arith) (omega arith))))))

-- what is opened has such a span
abbrev Opens : {E : Type 0} → Result (Named × Class × Option (ℕ × ℕ)) E → Type 0
Opens (Ok opening) = Spans opening.2
Opens (Err e) = Unit {0}

class_opens : (kind : Named) (class : Option Class) (code : List ℕ) → Opens (with_class kind class code)
class_opens kind None code = tt
class_opens kind (Some class) code = go (letters code)
  where
    go : (b : Bool) → Opens (ok_map (λ s. (kind, class, s)) (if_kept b BadCode (Ok (currency_span code))))
    go true = currency_spans code
    go false = tt

kind_opens : (kind : Option Named) (class : Option Class) (code : List ℕ) → Opens (with_kind kind class code)
kind_opens None class code = tt
kind_opens (Some kind) class code = class_opens kind class code

opening_opens : (f : Frame) → Opens (opening_of f)
opening_opens (frame.Open kind class code) = kind_opens (kind_named kind) (class_named class) code
opening_opens frame.Quote = tt
opening_opens (frame.Withdraw m) = tt
opening_opens (frame.Post t a) = tt
opening_opens (frame.Strike t) = tt
opening_opens frame.Settle = tt
opening_opens (frame.Forward t) = tt
opening_opens (frame.Factor t) = tt
opening_opens (frame.Rate t) = tt
opening_opens frame.Reserve = tt

frame_spans : (b : Bool) (w : Result Frame Refusal) → Opens (cond b (and_then w opening_of) (Err OutOfTurn))
frame_spans true (Ok f) = opening_opens f
frame_spans true (Err refusal) = tt
frame_spans false w = tt

answer_opens : (l : Letter) (w : Result (Named × Class × Option (ℕ × ℕ)) Refusal) → Opens w → Opens (opening_answer l w)
answer_opens l (Ok opening) s = s
answer_opens l (Err refusal) s = tt

read_spans : (w : Result (Letter × List ℕ) Answer) → Opens (read_opens w)
read_spans (Ok (l, bytes)) = answer_opens l (frame_opens l bytes) (frame_spans (opens l) (frame_read l bytes 0))
read_spans (Err answer) = tt

-- every swap and every bond that a body makes is lawful
swap_lawful : (r : SwapRow) → Lawful (swap_read r)
swap_lawful r = search rules

bond_lawful : (r : BondRow) → Lawful (bond_read r)
bond_lawful r = search rules

-- the calls of lines at a kind of instrument with the law
pub lines_promised : {Row : Type 0} (framed : ℕ) (read : Row → Meaning) (making : Class → List ℕ → Result Row Refusal) (class : Class) → ((r : Row) → Lawful (read r)) → (terms : Terms) (ls : List (List ℕ))
    → Promise (span terms) 60 (open_calls (kind_of framed read making class) ls)
lines_promised {Row} framed read making class law terms ls = promised terms.blend 60 (open_calls k ls) (lines_lawful k made ls)
  where
    k : Kind
    k = kind_of framed read making class

    go : (w : Result Row Refusal) → LawfulMade (ok_map read w)
    go (Ok r) = law r
    go (Err refusal) = tt

    made : (body : List ℕ) → LawfulMade (k.quoted body)
    made body = go (making class body)

-- the calls of lines on a book that is opened
kind_promised : (kind : Named) (class : Class) (terms : Terms) (ls : List (List ℕ)) → Promise (span terms) 60 (open_calls (kind_for kind class) ls)
kind_promised Swap class = lines_promised 6 swap_read swap_body class swap_lawful
kind_promised Bond class = lines_promised 10 bond_read bond_body class bond_lawful

opened_promised : (kind : Named) (class : Class) (s : Option (ℕ × ℕ)) → Spans s → (ls : List (List ℕ)) → Promise s 60 (open_calls (kind_for kind class) ls)
unfolding Spans
opened_promised kind class s b ls = subst (λ s. Promise s 60 (open_calls (kind_for kind class) ls)) b.1 (kind_promised kind class (record { blend = b.0 }) ls)

pub closed_promised : (ls : List (List ℕ)) → ClosedPromise ls
unfolding ClosedPromise
closed_promised [] = tt
closed_promised (line ∷ rest) = go (line_opens line) (read_spans (line_read line)) (closed_promised rest)
  where
    go : (w : Result (Named × Class × Option (ℕ × ℕ)) Answer) → Opens w → ClosedPromise rest → after_opening w rest (ClosedPromise rest)
    go (Ok (kind, class, span)) s later = opened_promised kind class span s rest
    go (Err answer) s later = later

-- the register after lines is that after the calls which they make
register_is : (k : Kind) (R : Register) (ls : List (List ℕ)) → stage_after (Some (k, R)) ls ≡ Some (k, after R (open_calls k ls))
unfolding open_calls stage_after
register_is k R [] = refl
register_is k R (line ∷ rest) = register_is k (line_outcome k R line).0 rest ∙ ap (λ S. Some (k, S)) (go (line_read line))
  where
    call : (l : Letter) (w : Result (Call Meaning) Refusal) → after (call_outcome R l w).0 (open_calls k rest) ≡ after R (with_call w (open_calls k rest))
    call l (Ok c) = refl
    call l (Err refusal) = refl

    go : (w : Result (Letter × List ℕ) Answer) → after (read_outcome k R w).0 (open_calls k rest) ≡ after R (with_read k w (open_calls k rest))
    go (Ok (l, bytes)) = call l (frame_call k l bytes)
    go (Err answer) = refl

pub kept : Keeps None
unfolding stage_after
kept [] = tt
kept (line ∷ rest) = go (line_opens line) (read_spans (line_read line)) (kept rest)
  where
    go : (w : Result (Named × Class × Option (ℕ × ℕ)) Answer) → Opens w → StageStands (stage_after None rest) → StageStands (stage_after (opened_by w).0 rest)
    go (Ok (kind, class, span)) s later =
        let calls = open_calls (kind_for kind class) rest in
        subst StageStands (sym (register_is (kind_for kind class) (opened span 60) rest)) (opened_promised kind class span s rest calls [] (sym (append-nil calls)))
    go (Err answer) s later = later
