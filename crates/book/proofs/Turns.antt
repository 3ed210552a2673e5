-- One turn of a run: the next call moves from those left to those made.
use Rattle.std.proofs.Common.{◌≡◌, ℕ, ◌+◌, ◌<◌, List, [], ◌∷◌, ◌++◌, map, length, drop, get_or, ℤ, is_ok, Option, Result, sym, ap, ◌∙◌}
use Rattle.std.proofs.lemmas.List.{append_assoc, at_drop_more}
use Rattle.instruments.specs.Law.{Meaning}
use Rattle.instruments.specs.declared.refusal.Refusal.{Refusal}
use Rattle.book.specs.Books.{call_means, rows_after}
use Rattle.book.specs.Promise.{after, replies}
use Rattle.book.specs.Register.{Register, told, reply}
use Rattle.book.specs.Runs.{rows_run}
use Rattle.book.specs.declared.call.Call.{Call}

abbrev pub Reply : Type 0
Reply = Result (Option (ℤ × ℤ)) Refusal

-- the calls left from the next one on, made from R and before, are that call and those after it, made from S and later
pub record Turned {K Row : Type 0} (row : K → Row) (means : K → Meaning) (R S : Register) (before later : List Row) (made now : List Reply) (left rest : List (Call K)) : Type 0 where
  pub replied : now ++ replies S (map (call_means means) rest) ≡ made ++ replies R (map (call_means means) left)
  pub placed : rows_run row means S later rest ≡ rows_run row means R before left
  pub told : after S (map (call_means means) rest) ≡ after R (map (call_means means) left)

module _ {K Row : Type 0} (row : K → Row) (means : K → Meaning) (calls : List (Call K)) (i : ℕ) (call : Call K) (within : i < length calls) (is : call ≡ get_or calls i call) where
  abbrev rest : List (Call K)
  rest = drop (i + 1) calls

  next : {A : Type 0} (F : List (Call K) → A) → F (call ∷ drop (i + 1) calls) ≡ F (drop i calls)
  next F = ap (λ k. F (k ∷ drop (i + 1) calls)) is ∙ sym (at_drop_more F calls i call within)

  pub turned : (R S : Register) (before later : List Row) (made now : List Reply) (answer : Reply)
      → S ≡ told R (call_means means call) → answer ≡ reply R (call_means means call) → later ≡ rows_after row means R.quotations before call (is_ok answer) → now ≡ made ++ (answer ∷ [])
      → Turned row means R S before later made now (drop i calls) (drop (i + 1) calls)
  turned R S before later made now answer told_so replied moved pushed = record {
    replied =
        ap (λ l. l ++ replies S (map (call_means means) rest)) pushed ∙ append_assoc made (answer ∷ []) (replies S (map (call_means means) rest))
        ∙ ap (λ l. made ++ l) ((λ j. replied j ∷ replies (told_so j) (map (call_means means) rest)) ∙ next (λ l. replies R (map (call_means means) l)));
    placed =
        (λ j. rows_run row means (told_so j) (moved j) rest)
        ∙ ap (λ a. rows_run row means (told R (call_means means call)) (rows_after row means R.quotations before call (is_ok a)) rest) replied
        ∙ next (rows_run row means R before);
    told = (λ j. after (told_so j) (map (call_means means) rest)) ∙ next (λ l. after R (map (call_means means) l));
  }
