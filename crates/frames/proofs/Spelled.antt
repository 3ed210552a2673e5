-- Digits that are written byte by byte.
use Rattle.std.proofs.Common.{◌≡◌, ℕ, ◌+◌, ◌*◌, ◌/◌, ◌%◌, ◌<◌, ◌≤◌, List, [], ◌∷◌, ◌++◌, length, get_or, take, ℤ, sym, refl, ap, ◌∙◌, append_assoc, arith, length-append, w64, of_z}
use Rattle.std.proofs.lemmas.List.{take_more, length-take-le}
use Rattle.frames.specs.Answers.{eight_bytes, figure_bytes}
use Rattle.frames.specs.Digits.{digit, hex}

hex_append : (xs ys : List ℕ) → hex (xs ++ ys) ≡ hex xs ++ hex ys
hex_append [] ys = refl
hex_append (x ∷ xs) ys = ap (λ ds. digit (x / 16) ∷ digit (x % 16) ∷ ds) (hex_append xs ys)

hex_length : (bs : List ℕ) → length (hex bs) ≡ 2 * length bs
hex_length [] = refl
hex_length (b ∷ bs) = omega (arith, hex_length bs)

-- room for the digits of one byte more
pub room : (before line bytes : List ℕ) (i : ℕ) → line ≡ before ++ hex (take i bytes) → i < length bytes → length before + 2 * length bytes ≤ 39 → length line + 2 ≤ 39
room before line bytes i e h fits =
    omega (arith, ap length e, length-append before (hex (take i bytes)), hex_length (take i bytes), length-take-le i bytes)

-- the digits of one byte more
pub spelled_more : (before line first second bytes : List ℕ) (i : ℕ) → line ≡ before ++ hex (take i bytes) → i < length bytes
    → first ≡ line ++ digit (get_or bytes i 0 / 16) ∷ [] → second ≡ first ++ digit (get_or bytes i 0 % 16) ∷ [] → second ≡ before ++ hex (take (i + 1) bytes)
spelled_more before line first second bytes i e h high low =
    let b = get_or bytes i 0 in
    low ∙ ap (λ l. l ++ digit (b % 16) ∷ []) high
    ∙ append_assoc line (digit (b / 16) ∷ []) (digit (b % 16) ∷ [])
    ∙ ap (λ l. l ++ hex (b ∷ [])) e
    ∙ append_assoc before (hex (take i bytes)) (hex (b ∷ []))
    ∙ ap (λ l. before ++ l) (sym (hex_append (take i bytes) (b ∷ [])) ∙ sym (ap hex (take_more bytes i 0 h)))

-- the figures of an answer, one after another
figure_bytes_push : (zs : List ℤ) (z : ℤ) → figure_bytes (zs ++ z ∷ []) ≡ figure_bytes zs ++ eight_bytes (of_z w64 z)
figure_bytes_push [] z = refl
figure_bytes_push (y ∷ zs) z = ap (λ bs. eight_bytes (of_z w64 y) ++ bs) (figure_bytes_push zs z)

figure_bytes_length : (zs : List ℤ) → length (figure_bytes zs) ≡ 8 * length zs
figure_bytes_length [] = refl
figure_bytes_length (z ∷ zs) = omega (arith, figure_bytes_length zs)

-- how long a line is after so many figures
pub line_length : (head line : List ℕ) (figures : List ℤ) (i : ℕ) → line ≡ hex (head ++ figure_bytes (take i figures)) → length head ≡ 3 → i ≤ length figures → length line ≡ 6 + 16 * i
line_length head line figures i e three h =
    omega (arith, ap length e, hex_length (head ++ figure_bytes (take i figures)), length-append head (figure_bytes (take i figures)), figure_bytes_length (take i figures), length-take-le i figures)

-- the digits of one figure more
pub figure_more : (head line later xs : List ℕ) (figures : List ℤ) (i : ℕ) (d : ℤ) → line ≡ hex (head ++ figure_bytes (take i figures)) → i < length figures
    → xs ≡ eight_bytes (of_z w64 (get_or figures i d)) → later ≡ line ++ hex xs → later ≡ hex (head ++ figure_bytes (take (i + 1) figures))
figure_more head line later xs figures i d e h is spelled =
    let before = figure_bytes (take i figures) in
    let figure = eight_bytes (of_z w64 (get_or figures i d)) in
    spelled ∙ (λ j. e j ++ hex (is j)) ∙ sym (hex_append (head ++ before) figure)
    ∙ ap hex (append_assoc head before figure
    ∙ ap (λ bs. head ++ bs) (sym (figure_bytes_push (take i figures) (get_or figures i d)) ∙ sym (ap figure_bytes (take_more figures i d h))))
