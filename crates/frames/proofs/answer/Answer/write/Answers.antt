use Rattle.std.proofs.Common.{◌≡◌, ℕ, List, ◌∷◌, [], ◌++◌, cond, is_ok, Some, Ok, vec_items, sym, ap, ◌∙◌, w64, SFits, rules}
use Rattle.std.proofs.lemmas.Int.{to_z-of_z}
use Rattle.frames.specs.Answers.{letter_byte, figure_bytes, reply_bytes}
use Rattle.frames.specs.Digits.{hex}
use Rattle.frames.proofs.answer.Answer.write.Goals as goal

pub returns-in-Ok-Some : goal.returns-in-Ok-Some
returns-in-Ok-Some c =
    let low = c.in-Ok-Some.low in
    let high = c.in-Ok-Some.high in
    let figures : c.args.self.now.reply ≡ Ok (Some (low, high)) = search rules in
    let letter : c.map_or-letter.result ≡ letter_byte c.args.self.now.letter = search rules in
    let low_fits : SFits w64 low = search rules in
    let high_fits : SFits w64 high = search rules in
    let written : List ℕ → List ℕ = λ bytes. cond (is_ok c.write_line-in-Ok-Some.result) (vec_items c.args.out.now ++ (hex bytes ++ 10 ∷ [])) (vec_items c.args.out.now) in
    c.write_line-in-Ok-Some.ensures
    ∙ (λ i. written (letter i ∷ 0 ∷ 0 ∷ figure_bytes (to_z-of_z w64 low low_fits i ∷ to_z-of_z w64 high high_fits i ∷ [])))
    ∙ sym (ap (λ r. written (letter_byte c.args.self.now.letter ∷ reply_bytes r)) figures)
