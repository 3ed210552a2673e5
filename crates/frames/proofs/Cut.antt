-- The first line of an input, found by its newline.
use Rattle.std.proofs.Common.{◌≡◌, ℕ, suc, min, ◌+◌, ◌<◌, ◌≤◌, Bool, true, false, cond, eqb, List, [], ◌∷◌, ◌++◌, length, take, drop, Some, None, sym, refl, ap, ◌∙◌, arith}
use Rattle.std.specs.List.{position, position_or_len}
use Rattle.std.proofs.lemmas.Bool.{cond-false}
use Rattle.std.proofs.lemmas.Grind.{common_steps}
use Rattle.std.proofs.lemmas.List.{take-append-le}
use Rattle.std.proofs.lemmas.List.Recursion.{is_position_or_len}
use Rattle.frames.specs.Lines.{onto, lines, line_length, next_line, front_line}

-- the first line, then the lines of the rest
pub lines_step : (b : ℕ) (bs : List ℕ) → lines (b ∷ bs) ≡ take (line_length (b ∷ bs)) (b ∷ bs) ∷ lines (drop (next_line (b ∷ bs)) (b ∷ bs))
lines_step b [] =
    elim (eqb b 10) as (λ t. cond t ([] ∷ lines []) (onto b (lines [])) ≡ take (cond t 0 (suc (line_length []))) (b ∷ []) ∷ lines (drop (cond t 1 (suc (next_line []))) (b ∷ [])))
    [ true ↦ refl | false ↦ refl ]
lines_step b (d ∷ ds) =
    elim (eqb b 10) as (λ t. cond t ([] ∷ lines (d ∷ ds)) (onto b (lines (d ∷ ds))) ≡ take (cond t 0 (suc (line_length (d ∷ ds)))) (b ∷ d ∷ ds) ∷ lines (drop (cond t 1 (suc (next_line (d ∷ ds)))) (b ∷ d ∷ ds)))
    [ true ↦ refl | false ↦ ap (onto b) (lines_step d ds) ]

pub lines_of : (input : List ℕ) → eqb (length input) 0 ≡ false → lines input ≡ take (line_length input) input ∷ lines (drop (next_line input) input)
lines_of [] h = cc
lines_of (b ∷ bs) h = lines_step b bs

-- a line that is cut at its place
pub cut : (input line : List ℕ) (n k : ℕ) → eqb (length input) 0 ≡ false → line ≡ take n input → (line_length input ≡ n) × (next_line input ≡ k)
    → (Some (line, k) ≡ front_line input) × (lines input ≡ line ∷ lines (drop k input))
cut input line n k h e places =
    let same : line ≡ take (line_length input) input = e ∙ sym (ap (λ m. take m input) places.0) in (
      ap (λ l. Some (l, k)) same ∙ ap (λ m. Some (take (line_length input) input, m)) (sym places.1)
          ∙ sym (cond-false (eqb (length input) 0) None (Some (take (line_length input) input, next_line input)) h),
      lines_of input h ∙ ap (λ l. l ∷ lines (drop (next_line input) input)) (sym same) ∙ ap (λ m. line ∷ lines (drop m input)) places.1,
    )

-- the next line begins after the newline, if there is one
next_is : (bs : List ℕ) → next_line bs ≡ min (line_length bs + 1) (length bs)
next_is [] = refl
next_is (b ∷ bs) =
    let rest = next_is bs in
    elim (eqb b 10) as (λ t. cond t 1 (suc (next_line bs)) ≡ min (cond t 0 (suc (line_length bs)) + 1) (suc (length bs)))
    [ true ↦ omega arith | false ↦ omega (arith, rest) ]

length_is : (bs : List ℕ) → line_length bs ≡ position_or_len (λ b. eqb b 10) bs
length_is = is_position_or_len line_length (λ b. eqb b 10) refl (λ b bs. grind arith)

short : (bs : List ℕ) → line_length bs ≤ length bs
short [] = omega arith
short (b ∷ bs) =
    let rest = short bs in
    elim (eqb b 10) as (λ t. cond t 0 (suc (line_length bs)) ≤ suc (length bs)) [ true ↦ omega arith | false ↦ omega (arith, rest) ]

-- a newline
pub ended : (input : List ℕ) (end : ℕ) → Some end ≡ position (λ b. eqb b 10) input → (end < length input) × (eqb (length input) 0 ≡ false) × (line_length input ≡ end) × (next_line input ≡ end + 1)
ended input end e = grind (arith, common_steps, next_is input, length_is input)

-- no newline at all
pub whole : (input : List ℕ) → None ≡ position (λ b. eqb b 10) input → (line_length input ≡ length input) × (next_line input ≡ length input)
whole input e = grind (arith, common_steps, next_is input, length_is input, short input)

-- the same before more bytes
before_more : (bs rest : List ℕ) → line_length bs < length bs → (line_length (bs ++ rest) ≡ line_length bs) × (next_line (bs ++ rest) ≡ line_length bs + 1)
before_more [] rest h = absurd (omega (arith, h))
before_more (b ∷ bs) rest h = go (eqb b 10) h (before_more bs rest)
  where
    go : (t : Bool) → cond t 0 (suc (line_length bs)) < suc (length bs) → (line_length bs < length bs → (line_length (bs ++ rest) ≡ line_length bs) × (next_line (bs ++ rest) ≡ line_length bs + 1))
        → (cond t 0 (suc (line_length (bs ++ rest))) ≡ cond t 0 (suc (line_length bs))) × (cond t 1 (suc (next_line (bs ++ rest))) ≡ cond t 0 (suc (line_length bs)) + 1)
    go true h later = (refl, omega arith)
    go false h later = let more = later (omega (arith, h)) in (ap suc more.0, omega (arith, more.1))

-- a whole line at the front of some bytes is the first line of these and more
pub stands : (bytes rest line : List ℕ) (end : ℕ) → Some end ≡ position (λ b. eqb b 10) bytes → line ≡ take end bytes → lines (bytes ++ rest) ≡ line ∷ lines (drop (end + 1) (bytes ++ rest))
stands bytes rest line end found is =
    let at = ended bytes end found in
    let more = before_more bytes rest (omega (arith, at.0, at.2)) in
    (cut (bytes ++ rest) line end (end + 1) (some bytes at.1) (is ∙ sym (take-append-le end bytes rest (omega (arith, at.0)))) (more.0 ∙ at.2, more.1 ∙ ap (λ n. n + 1) at.2)).1
  where
    some : (bytes : List ℕ) → eqb (length bytes) 0 ≡ false → eqb (length (bytes ++ rest)) 0 ≡ false
    some [] e = cc
    some (b ∷ bs) e = grind arith
