-- What entering and withdrawing leave in the places, and in those that are used.
use Rattle.std.proofs.Common.{◌≡◌, ℕ, suc, ◌+◌, ◌-◌, ◌<◌, ◌≤◌, List, [], ◌∷◌, ◌++◌, length, get_or, take, drop, set, sym, ap, ◌∙◌, add-one, arith}
use lib.Seq.{paste}
use Rattle.std.proofs.lemmas.List.{append_assoc, length-take, length-take-le, length-drop, length-append, take_more, take-take, take_at, drop-take, set_at}
use Rattle.std.specs.List.{copy_within, insert, remove}
use Rattle.book.specs.Rows.{entered, withdrawn}

module _ {R : Type 0} (rows : List R) (len : ℕ) where
  module _ (at : ℕ) where
    pub cut_is : at < len → copy_within rows (at + 1) len at ≡ withdrawn rows len at
    cut_is h =
        let e : at + (len - (at + 1)) ≡ len - 1 = omega arith in
        append_assoc (take at rows) (take (len - (at + 1)) (drop (at + 1) rows)) (drop (at + (len - (at + 1))) rows)
        ∙ ap (λ k. take at rows ++ (take (len - (at + 1)) (drop (at + 1) rows) ++ drop k rows)) e

    pub put_is : (row : R) → at ≤ len → len < length rows → set (copy_within rows at len (at + 1)) at row ≡ entered rows len at row
    put_is row h within =
        let B = take (len - at) (drop at rows) in
        let e : at + 1 + (len - at) ≡ len + 1 = omega arith in
        let here : take (at + 1) rows ≡ take at rows ++ (get_or rows at row ∷ []) = take_more rows at row (omega arith) in
        let whole : paste rows (at + 1) (drop at rows) (len - at) ≡ take at rows ++ (get_or rows at row ∷ (B ++ drop (len + 1) rows)) =
        ap (λ k. take (at + 1) rows ++ B ++ drop k rows) e ∙ append_assoc (take (at + 1) rows) B (drop (len + 1) rows) ∙ ap (λ k. k ++ (B ++ drop (len + 1) rows)) here
        ∙ append_assoc (take at rows) (get_or rows at row ∷ []) (B ++ drop (len + 1) rows) in
        ap (λ k. set k at row) whole ∙ set_at (take at rows) (get_or rows at row) (B ++ drop (len + 1) rows) row at (length-take-le at rows (omega arith))

    -- the parts of the rows used
    front : at ≤ len → take at rows ≡ take at (take len rows)
    front h = sym (take-take at len rows h)

    back : at ≤ len → take (len - at) (drop at rows) ≡ drop at (take len rows)
    back h = let e : at + (len - at) ≡ len = omega arith in sym (drop-take at (len - at) rows) ∙ ap (λ k. drop at (take k rows)) e

    -- the rows used after entering
    pub entered_used : (row : R) → at ≤ len → len < length rows → take (len + 1) (entered rows len at row) ≡ insert (take len rows) at row
    entered_used row h within =
        let B = take (len - at) (drop at rows) in
        let long : length (take at rows ++ (row ∷ B)) ≡ len + 1 =
        length-append (take at rows) (row ∷ B) ∙ omega (arith, length-take-le at rows (omega arith), length-take (len - at) (drop at rows), length-drop at rows) in
        ap (take (len + 1)) (sym (append_assoc (take at rows) (row ∷ B) (drop (len + 1) rows))) ∙ take_at (take at rows ++ (row ∷ B)) (drop (len + 1) rows) (len + 1) long
        ∙ (λ i. front h i ++ (row ∷ back h i))

  -- and after withdrawing
  pub withdrawn_used : (at : ℕ) → at < len → len ≤ length rows → take (len - 1) (withdrawn rows len at) ≡ remove (take len rows) at
  withdrawn_used at h within =
      let B = take (len - (at + 1)) (drop (at + 1) rows) in
      let long : length (take at rows ++ B) ≡ len - 1 =
      length-append (take at rows) B ∙ omega (arith, length-take-le at rows (omega arith), length-take (len - (at + 1)) (drop (at + 1) rows), length-drop (at + 1) rows) in
      let after : B ≡ drop (suc at) (take len rows) = back (at + 1) (omega arith) ∙ ap (λ k. drop k (take len rows)) (add-one at) in
      ap (take (len - 1)) (sym (append_assoc (take at rows) B (drop (len - 1) rows))) ∙ take_at (take at rows ++ B) (drop (len - 1) rows) (len - 1) long
      ∙ (λ i. front at (omega arith) i ++ after i)
