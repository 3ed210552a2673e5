-- Digits that are read two by two.
use Rattle.std.proofs.Common.{◌≡◌, ℕ, ◌+◌, ◌*◌, ◌&&◌, List, [], ◌∷◌, ◌++◌, length, get_or, Some, sym, ap, ◌∙◌, append_assoc, arith, length-append}
use Rattle.std.proofs.lemmas.Bool.{and_parts}
use Rattle.std.proofs.lemmas.Option.{cond_some}
use Rattle.frames.specs.Hex.{is_digit, digit_value, pair_value, all_digits, bytes_of}

-- one byte more: of the digits left, two are read
pub decoded_more : (line left pair next items later : List ℕ) (v : ℕ) → left ≡ pair ++ next → length pair ≡ 2 → Some v ≡ pair_value (get_or pair 0 0) (get_or pair 1 0) → later ≡ items ++ v ∷ []
    → all_digits left ≡ all_digits line → items ++ bytes_of left ≡ bytes_of line → 2 * length items + length left ≡ length line
    → (all_digits next ≡ all_digits line) × (later ++ bytes_of next ≡ bytes_of line) × (2 * length later + length next ≡ length line)
decoded_more line left [] next items later v split two e pushed digits before count = absurd (omega arith)
decoded_more line left (high ∷ []) next items later v split two e pushed digits before count = absurd (omega arith)
decoded_more line left (high ∷ low ∷ c ∷ cs) next items later v split two e pushed digits before count = absurd (omega arith)
decoded_more line left (high ∷ low ∷ []) next items later v split two e pushed digits before count =
    let p = cond_some (is_digit high && is_digit low) (16 * digit_value high + digit_value low) v (sym e) in
    let both = and_parts (is_digit high) (is_digit low) p.0 in (
      sym (ap (λ a. a && (is_digit low && all_digits next)) both.0 ∙ ap (λ a. a && all_digits next) both.1) ∙ sym (ap all_digits split) ∙ digits,
      ap (λ bs. bs ++ bytes_of next) pushed
          ∙ append_assoc items (v ∷ []) (bytes_of next)
          ∙ ap (λ b. items ++ b ∷ bytes_of next) (sym p.1)
          ∙ sym (ap (λ ds. items ++ bytes_of ds) split) ∙ before,
      omega (arith, ap length pushed, length-append items (v ∷ []), ap length split, count),
    )
