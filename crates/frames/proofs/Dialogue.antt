-- A dialogue: lines are read and answered, and their answers written.
use Rattle.std.proofs.Common.{◌≡◌, ℕ, suc, ◌+◌, Bool, true, false, cond, if◌then◌else◌, eqb, List, [], ◌∷◌, ◌++◌, length, take, drop, Some, None, Option, IfSome, sym, refl, ap, ◌∙◌, subst, arith}
use Rattle.std.proofs.lemmas.Bool.{cond-true, cond-false}
use Rattle.std.proofs.lemmas.List.{append_assoc, append-nil}
use Rattle.std.specs.Io.BufRead.{take_through, drop_through, DropsThrough, DropsConsumable}
use Rattle.std.specs.Io.KnownBytes.{Appends, prepend_known}
use Rattle.std.specs.List.{position}
use Rattle.frames.specs.Answers.{answer_line}
use Rattle.frames.specs.Dialogues.{Answered}
use Rattle.frames.specs.Inputs.{Stage, stage_outcome, stage_answers, input_answers}
use Rattle.frames.specs.Lines.{lines, line_length, next_line, front_line}
use Rattle.frames.specs.Promises.{InputPromise}
use Rattle.frames.specs.declared.answer.Answer.{Answer}
use Rattle.frames.proofs.Cut.{lines_step, ended, stands}
use Rattle.frames.proofs.Promised.{closed_promised}
use Rattle.frames.proofs.Served.{served_turn}

-- what is read up to a newline has the same first line
through_front : (xs : List ℕ) → take (line_length (take_through 10 xs)) (take_through 10 xs) ≡ take (line_length xs) xs
through_front [] = refl
through_front (b ∷ bs) = go (eqb b 10) refl (through_front bs)
  where
    go : (t : Bool) → eqb b 10 ≡ t → take (line_length (take_through 10 bs)) (take_through 10 bs) ≡ take (line_length bs) bs
        → take (line_length (take_through 10 (b ∷ bs))) (take_through 10 (b ∷ bs)) ≡ take (line_length (b ∷ bs)) (b ∷ bs)
    go true e rest =
        ap (λ l. take (line_length l) l) (cond-true (eqb b 10) (b ∷ []) (b ∷ take_through 10 bs) e)
        ∙ ap (λ n. take n (b ∷ [])) (cond-true (eqb b 10) 0 (suc (line_length [])) e)
        ∙ sym (ap (λ n. take n (b ∷ bs)) (cond-true (eqb b 10) 0 (suc (line_length bs)) e))
    go false e rest =
        ap (λ l. take (line_length l) l) (cond-false (eqb b 10) (b ∷ []) (b ∷ take_through 10 bs) e)
        ∙ ap (λ n. take n (b ∷ take_through 10 bs)) (cond-false (eqb b 10) 0 (suc (line_length (take_through 10 bs))) e)
        ∙ ap (λ l. b ∷ l) rest
        ∙ sym (ap (λ n. take n (b ∷ bs)) (cond-false (eqb b 10) 0 (suc (line_length bs)) e))

-- and what is left begins at the next line
through_rest : (xs : List ℕ) → drop_through 10 xs ≡ drop (next_line xs) xs
through_rest [] = refl
through_rest (b ∷ bs) =
    let rest = through_rest bs in
    elim (eqb b 10) as (λ t. cond t bs (drop_through 10 bs) ≡ drop (cond t 1 (suc (next_line bs))) (b ∷ bs)) [ true ↦ refl | false ↦ rest ]

-- nothing is read only where nothing is left
none_read : (xs : List ℕ) → take_through 10 xs ≡ [] → xs ≡ []
none_read [] e = refl
none_read (b ∷ bs) e = go (eqb b 10) e
  where
    go : (t : Bool) → cond t (b ∷ []) (b ∷ take_through 10 bs) ≡ [] → b ∷ bs ≡ []
    go true f = cc
    go false f = cc

line_read : (xs line front : List ℕ) → line ≡ take_through 10 xs → front ≡ take (line_length line) line → eqb (length line) 0 ≡ false → lines xs ≡ front ∷ lines (drop_through 10 xs)
line_read [] line front is cut some = absurd (go line is some)
  where
    go : (line : List ℕ) → line ≡ [] → eqb (length line) 0 ≡ false → ⊥
    go [] e f = cc
    go (b ∷ bs) e f = cc
line_read (b ∷ bs) line front is cut some =
    let xs = b ∷ bs in
    lines_step b bs ∙ ap (λ l. l ∷ lines (drop (next_line xs) xs)) (sym (cut ∙ ap (λ l. take (line_length l) l) is ∙ through_front xs)) ∙ ap (λ l. front ∷ lines l) (sym (through_rest xs))

-- all answers are those that are written, those that are to be, and those to the lines that are left
pub record Gone (input before : List ℕ) (left now : Option (List ℕ)) (pending : List ℕ) (s : Stage) : Type 0 where
  pub rest : List ℕ
  pub written : List ℕ
  pub left_is : left ≡ Some rest
  pub now_is : now ≡ Some written
  pub all : written ++ (pending ++ stage_answers s (lines rest)) ≡ before ++ input_answers input

abbrev pub Going : Option (List ℕ) → Option (List ℕ) → Option (List ℕ) → Option (List ℕ) → List ℕ → Stage → Type 0
Going (Some input) (Some before) left now pending s = Gone input before left now pending s
Going (Some input) None left now pending s = Unit {0}
Going None before left now pending s = Unit {0}

-- a line is answered
pub answers_next : (input before left left' now : Option (List ℕ)) (front pending pending' : List ℕ) (s t : Stage) (a : Answer)
    → IfSome left (λ xs. (rest : List ℕ) × (left' ≡ Some rest) × (lines xs ≡ front ∷ lines rest))
    → (t, a) ≡ stage_outcome s front → pending' ≡ pending ++ answer_line a → Going input before left now pending s → Going input before left' now pending' t
answers_next None before left left' now front pending pending' s t a next outcome more g = tt
answers_next (Some input) None left left' now front pending pending' s t a next outcome more g = tt
answers_next (Some input) (Some before) left left' now front pending pending' s t a next outcome more g =
    let n = subst (λ l. IfSome l (λ xs. (rest : List ℕ) × (left' ≡ Some rest) × (lines xs ≡ front ∷ lines rest))) g.left_is next in record {
      rest = n.0;
      written = g.written;
      left_is = n.1;
      now_is = g.now_is;
      all = ap (λ l. g.written ++ l) (served_turn s t front (lines n.0) (lines g.rest) pending pending' a outcome n.2 more) ∙ g.all;
    }

-- a line is read and answered
pub answers_more : (input before left left' now : Option (List ℕ)) (line front pending pending' : List ℕ) (s t : Stage) (a : Answer)
    → IfSome left (λ xs. line ≡ take_through 10 xs) → DropsThrough left left' 10 → front ≡ take (line_length line) line → eqb (length line) 0 ≡ false
    → (t, a) ≡ stage_outcome s front → pending' ≡ pending ++ answer_line a → Going input before left now pending s → Going input before left' now pending' t
answers_more input before left left' now line front pending pending' s t a read dropped cut some = answers_next input before left left' now front pending pending' s t a (next left read dropped)
  where
    next : (left : Option (List ℕ)) → IfSome left (λ xs. line ≡ take_through 10 xs) → DropsThrough left left' 10 → IfSome left (λ xs. (rest : List ℕ) × (left' ≡ Some rest) × (lines xs ≡ front ∷ lines rest))
    next None read dropped = tt
    next (Some xs) read dropped = (drop_through 10 xs, dropped, line_read xs line front read cut some)

-- a whole line that stands in what is read already
pub taken : (none : Bool) (buffer : List ℕ) (inner left' : Option (List ℕ)) (front : List ℕ) (end : ℕ) → Some end ≡ position (λ b. eqb b 10) buffer → front ≡ take end buffer
    → DropsConsumable (if none then None else prepend_known buffer inner) left' (Some (length buffer)) (end + 1)
    → IfSome (if none then None else prepend_known buffer inner) (λ xs. (rest : List ℕ) × (left' ≡ Some rest) × (lines xs ≡ front ∷ lines rest))
taken true buffer inner left' front end found is drops = tt
taken false buffer None left' front end found is drops = tt
taken false buffer (Some rest) left' front end found is drops =
    (drop (end + 1) (buffer ++ rest), drops (omega (arith, (ended buffer end found).0)), stands buffer rest front end found is)

-- what is to be written is
wrote : (written bs : List ℕ) (now : Option (List ℕ)) → Appends (Some written) now bs → now ≡ Some (written ++ bs)
wrote written bs (Some ys) e = ap Some e
wrote written bs None e = absurd e

pub writes : (input before left now now' : Option (List ℕ)) (pending pending' : List ℕ) (s : Stage) → Appends now now' pending → pending' ≡ [] → Going input before left now pending s → Going input before left now' pending' s
writes None before left now now' pending pending' s w none g = tt
writes (Some input) None left now now' pending pending' s w none g = tt
writes (Some input) (Some before) left now now' pending pending' s w none g = record {
  rest = g.rest;
  written = g.written ++ pending;
  left_is = g.left_is;
  now_is = wrote g.written pending now' (subst (λ n. Appends n now' pending) g.now_is w);
  all = ap (λ l. (g.written ++ pending) ++ (l ++ stage_answers s (lines g.rest))) none ∙ append_assoc g.written pending (stage_answers s (lines g.rest)) ∙ g.all;
}

-- where nothing is left to read, all is written
pub ends : (input before left left' now now' : Option (List ℕ)) (line pending : List ℕ) (s : Stage) → IfSome left (λ xs. line ≡ take_through 10 xs) → DropsThrough left left' 10 → line ≡ [] → Appends now now' pending
    → Going input before left now pending s → Answered input before left' now'
unfolding stage_answers
ends None before left left' now now' line pending s read dropped none w g = tt
ends (Some input) None left left' now now' line pending s read dropped none w g = tt
ends (Some input) (Some before) left left' now now' line pending s read dropped none w g =
    let line_is : line ≡ take_through 10 g.rest = subst (λ l. IfSome l (λ xs. line ≡ take_through 10 xs)) g.left_is read in
    let over : g.rest ≡ [] = none_read g.rest (sym line_is ∙ none) in
    let all : g.written ++ pending ≡ before ++ input_answers input =
    ap (λ l. g.written ++ l) (sym (append-nil pending) ∙ ap (λ r. pending ++ stage_answers s (lines r)) (sym over)) ∙ g.all in
    (subst (λ l. DropsThrough l left' 10) g.left_is dropped ∙ ap (λ r. Some (drop_through 10 r)) over, wrote g.written pending now' (subst (λ n. Appends n now' pending) g.now_is w) ∙ ap Some all)

-- what a read appends to an empty line is the line
pub read_is : (left : Option (List ℕ)) (cleared items line : List ℕ) → cleared ≡ [] → line ≡ items → IfSome left (λ xs. items ≡ cleared ++ take_through 10 xs) → IfSome left (λ xs. line ≡ take_through 10 xs)
read_is (Some xs) cleared items line none same read = same ∙ read ∙ ap (λ l. l ++ take_through 10 xs) none
read_is None cleared items line none same read = tt

pub front_is : (line front : List ℕ) (n : ℕ) → Some (front, n) ≡ front_line line → (front ≡ take (line_length line) line) × (eqb (length line) 0 ≡ false)
front_is line front n e = go (eqb (length line) 0) refl e
  where
    go : (t : Bool) → eqb (length line) 0 ≡ t → ◌≡◌ {A = Option (List ℕ × ℕ)} (Some (front, n)) (cond t None (Some (take (line_length line) line, next_line line))) → (front ≡ take (line_length line) line) × (eqb (length line) 0 ≡ false)
    go true t e = cc
    go false t e = let pair : ◌≡◌ {A = List ℕ × ℕ} (front, n) (take (line_length line) line, next_line line) = cc in (ap (λ p. p.0) pair, t)

pub known_promised : (known : Option (List ℕ)) → IfSome known (λ bytes. InputPromise bytes)
known_promised (Some bytes) = closed_promised (lines bytes)
known_promised None = tt
