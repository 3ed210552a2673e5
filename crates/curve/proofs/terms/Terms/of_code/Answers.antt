use Rattle.std.proofs.Common.{◌≡◌, ℕ, Bool, true, false, ◌&&◌, List, [], ◌∷◌, length, Ok, sym, refl, ap, ◌∙◌, rules, tests, arith}
use Rattle.std.proofs.lemmas.Iterator.{YieldsList-from_slice}
use Rattle.std.proofs.lemmas.Iterator.Search.{all_from_yields_List}
use Rattle.std.specs.List.{list_all}
use Rattle.std.specs.Char.{is_ascii_uppercase}
use Rattle.instruments.specs.Limits.{if_kept}
use Rattle.instruments.specs.declared.refusal.Refusal.TheVariants.{BadCode}
use Rattle.curve.specs.Currencies.{letters, currency_span}
use Rattle.curve.proofs.terms.Terms.of_code.Goals as goal

regrouped : (p q r : Bool) → (p && (q && (r && true))) ≡ ((p && q) && r)
regrouped false q r = refl
regrouped true false r = refl
regrouped true true false = refl
regrouped true true true = refl

-- each letter of a code of three
three : (code : List ℕ) → length code ≡ 3 → list_all is_ascii_uppercase code ≡ letters code
three [] long = absurd (omega arith)
three (a ∷ []) long = absurd (omega arith)
three (a ∷ (b ∷ [])) long = absurd (omega arith)
three (a ∷ (b ∷ (d ∷ []))) long = regrouped (is_ascii_uppercase a) (is_ascii_uppercase b) (is_ascii_uppercase d)
three (a ∷ (b ∷ (d ∷ (e ∷ rest)))) long = absurd (omega arith)

pub returns-else-all : goal.returns-else-all
returns-else-all c =
    let all = all_from_yields_List is_ascii_uppercase _ _ c.all.result c.all.ensures.ran (YieldsList-from_slice c.args.code cc) (λ x b q k. search (rules, tests)) in
    let long : length c.args.code ≡ 3 = search rules in
    ap (λ b. if_kept b BadCode (Ok (currency_span c.args.code))) (sym c.if-all.false ∙ all ∙ three c.args.code long)
