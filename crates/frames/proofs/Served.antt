-- One line more.
use Rattle.std.proofs.Common.{◌≡◌, ℕ, List, ◌∷◌, ◌++◌, sym, ap, ◌∙◌}
use Rattle.std.proofs.lemmas.List.{append_assoc}
use Rattle.frames.specs.Answers.{answer_line}
use Rattle.frames.specs.Inputs.{Stage, stage_outcome, stage_answers}
use Rattle.frames.specs.declared.answer.Answer.{Answer}

pub served_turn : (s t : Stage) (line : List ℕ) (rest ls : List (List ℕ)) (items later : List ℕ) (a : Answer) → (t, a) ≡ stage_outcome s line
    → ls ≡ line ∷ rest → later ≡ items ++ answer_line a → later ++ stage_answers t rest ≡ items ++ stage_answers s ls
unfolding stage_answers
served_turn s t line rest ls items later a outcome split written =
    ap (λ l. l ++ stage_answers t rest) written
    ∙ append_assoc items (answer_line a) (stage_answers t rest)
    ∙ ap (λ o. items ++ (answer_line o.1 ++ stage_answers o.0 rest)) outcome
    ∙ sym (ap (λ l. items ++ stage_answers s l) split)
