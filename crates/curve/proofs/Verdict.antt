-- What the search of a gap's growths answers in each case, and what is known where it answers two growths.
use Rattle.std.proofs.Common.{◌≡◌, ℕ, ◌+◌, ◌<◌, ◌≤◌, Bool, true, false, cond, ltb, leb, Ok, Err, Result, sym, refl, ap, ◌∙◌, inl, inr, arith}
use Rattle.std.proofs.lemmas.Bool.{cases_lt, cond-true, cond-false, lt-ltb, le-ltb, le-leb, lt-leb, ltb-true, leb-true, ltb-false, leb-false}
use Rattle.instruments.specs.Law.{Meaning}
use Rattle.instruments.specs.Refusals.{reported}
use Rattle.instruments.specs.declared.refusal.Refusal.{Refusal}
use Rattle.instruments.specs.declared.refusal.Refusal.TheVariants.{ForwardBelowRange, ForwardAboveRange, ForwardTooWide}
use Rattle.curve.specs.Range.{least, most}
use Rattle.curve.specs.Steps.{reaches, reaching, pair}
use Rattle.curve.specs.Market.{admitted, limit, found, found_growths}
use Rattle.curve.specs.declared.side.Side.{Side}
use Rattle.curve.specs.declared.side.Side.TheVariants.{Low, High}
use Rattle.curve.proofs.Edges.{edge_passes, edge_last}

module _ (w : Side → ℕ → ℕ) (x : Meaning) where
  -- the high growth is the least of the range if even that is too large, and only then
  pub below_range : found w x.price High ≡ least → w High least < admitted Low x.price
  below_range e = elim (edge_passes High (reaching High (w High) (limit High x.price))) [
    | inl none ↦ absurd (omega arith)
    | inr pass ↦ ltb-true _ _ (ap (λ g. ltb (w High g) (admitted Low x.price)) (sym e) ∙ pass)
  ]

  pub not_below : (found w x.price High ≡ least → ⊥) → admitted Low x.price ≤ w High least
  not_below other = elim (cases_lt (w High least) (admitted Low x.price)) [
    | inl less ↦ absurd (other (edge_last High (reaching High (w High) (limit High x.price)) (lt-ltb _ _ less)))
    | inr enough ↦ enough
  ]

  -- and the low growth the greatest if even that is too small
  pub above_range : found w x.price Low ≡ most → admitted High x.price < w Low most
  above_range e = elim (edge_passes Low (reaching Low (w Low) (limit Low x.price))) [
    | inl none ↦ absurd (omega arith)
    | inr pass ↦ omega (arith, leb-true _ _ (ap (λ g. leb (admitted High x.price + 1) (w Low g)) (sym e) ∙ pass))
  ]

  pub not_above : (found w x.price Low ≡ most → ⊥) → w Low most ≤ admitted High x.price
  not_above other = elim (cases_lt (admitted High x.price) (w Low most)) [
    | inl more ↦ absurd (other (edge_last Low (reaching Low (w Low) (limit Low x.price)) (le-leb _ _ (omega arith))))
    | inr not_more ↦ not_more
  ]

  pub refused_below : w High least < admitted Low x.price → Err (ForwardBelowRange x.maturity) ≡ found_growths w x
  unfolding found_growths
  refused_below h = sym (cond-true (ltb (w High least) (admitted Low x.price)) _ _ (lt-ltb _ _ h))

  module _ (enough : admitted Low x.price ≤ w High least) where
    past_below : {v : Result (ℕ × ℕ) Refusal} → v ≡ cond (leb (admitted High x.price + 1) (w Low most)) (Err (ForwardAboveRange x.maturity))
        (cond (ltb (found w x.price Low + 1000) (found w x.price High)) (Err (ForwardTooWide x.maturity)) (Ok (pair (found w x.price)))) → v ≡ found_growths w x
    unfolding found_growths
    past_below e = e ∙ sym (cond-false (ltb (w High least) (admitted Low x.price)) _ _ (le-ltb _ _ enough))

    pub refused_above : admitted High x.price < w Low most → Err (ForwardAboveRange x.maturity) ≡ found_growths w x
    refused_above h = past_below (sym (cond-true (leb (admitted High x.price + 1) (w Low most)) _ _ (le-leb _ _ (omega arith))))

    module _ (not_more : w Low most ≤ admitted High x.price) (low high : ℕ) (low_is : low ≡ found w x.price Low) (high_is : high ≡ found w x.price High) where
      pub refused_wide : low + 1000 < high → Err (ForwardTooWide x.maturity) ≡ found_growths w x
      refused_wide h = past_below (sym (cond-false (leb (admitted High x.price + 1) (w Low most)) _ _ (lt-leb _ _ (omega arith))
          ∙ cond-true (ltb (found w x.price Low + 1000) (found w x.price High)) _ _ (lt-ltb _ _ (omega arith))))

      pub accepted_pair : high ≤ low + 1000 → Ok (low, high) ≡ found_growths w x
      accepted_pair h = past_below (ap Ok (λ i. (low_is i, high_is i)) ∙ sym (cond-false (leb (admitted High x.price + 1) (w Low most)) _ _ (lt-leb _ _ (omega arith))
          ∙ cond-false (ltb (found w x.price Low + 1000) (found w x.price High)) _ _ (le-ltb _ _ (omega arith))))

-- what is known of two growths that are answered
pub record Accepted (w : Side → ℕ → ℕ) (x : Meaning) (growths : ℕ × ℕ) : Type 0 where
  pub enough : admitted Low x.price ≤ w High least
  pub not_more : w Low most ≤ admitted High x.price
  pub low_is : growths.0 ≡ found w x.price Low
  pub high_is : growths.1 ≡ found w x.price High
  pub near : growths.1 ≤ growths.0 + 1000

pub accepted : (w : Side → ℕ → ℕ) (x : Meaning) (growths : ℕ × ℕ) → found_growths w x ≡ Ok growths → Accepted w x growths
unfolding found_growths
accepted w x growths e = go (ltb (w High least) (admitted Low x.price)) refl (leb (admitted High x.price + 1) (w Low most)) refl (ltb (found w x.price Low + 1000) (found w x.price High)) refl e
  where
    go : (a : Bool) → ltb (w High least) (admitted Low x.price) ≡ a → (b : Bool) → leb (admitted High x.price + 1) (w Low most) ≡ b
        → (d : Bool) → ltb (found w x.price Low + 1000) (found w x.price High) ≡ d
        → cond a (Err (ForwardBelowRange x.maturity)) (cond b (Err (ForwardAboveRange x.maturity)) (cond d (Err (ForwardTooWide x.maturity)) (Ok (pair (found w x.price))))) ≡ Ok growths
        → Accepted w x growths
    go true p b q d r e = cc
    go false p true q d r e = cc
    go false p false q true r e = cc
    go false p false q false r e =
        let same : pair (found w x.price) ≡ growths = cc in
        let low_is : found w x.price Low ≡ growths.0 = ap (λ v. v.0) same in
        let high_is : found w x.price High ≡ growths.1 = ap (λ v. v.1) same in
        record {
          enough = ltb-false _ _ p;
          not_more = omega (arith, leb-false _ _ q);
          low_is = sym low_is;
          high_is = sym high_is;
          near = omega (arith, ltb-false _ _ r);
        }

-- why a search is refused because no growth of the range fits
pub refused_why : (w : Side → ℕ → ℕ) (x : Meaning) (r : Refusal) → found_growths w x ≡ Err r
    → ((reported r).number ≡ 19 → reaches High (w High least) (limit High x.price) ≡ true) × ((reported r).number ≡ 20 → reaches Low (w Low most) (limit Low x.price) ≡ true)
unfolding found_growths
refused_why w x r e = go (ltb (w High least) (admitted Low x.price)) refl (leb (admitted High x.price + 1) (w Low most)) refl (ltb (found w x.price Low + 1000) (found w x.price High)) e
  where
    number_of : Refusal → ℕ
    number_of q = (reported q).number

    go : (a : Bool) → ltb (w High least) (admitted Low x.price) ≡ a → (b : Bool) → leb (admitted High x.price + 1) (w Low most) ≡ b → (d : Bool)
        → cond a (Err (ForwardBelowRange x.maturity)) (cond b (Err (ForwardAboveRange x.maturity)) (cond d (Err (ForwardTooWide x.maturity)) (Ok (pair (found w x.price))))) ≡ Err r
        → ((reported r).number ≡ 19 → ltb (w High least) (admitted Low x.price) ≡ true) × ((reported r).number ≡ 20 → leb (admitted High x.price + 1) (w Low most) ≡ true)
    go true p b q d e =
        let is : ForwardBelowRange x.maturity ≡ r = cc in
        ((λ n. p), (λ n. absurd (omega (arith, n, ap number_of is))))
    go false p true q d e =
        let is : ForwardAboveRange x.maturity ≡ r = cc in
        ((λ n. absurd (omega (arith, n, ap number_of is))), (λ n. q))
    go false p false q true e =
        let is : ForwardTooWide x.maturity ≡ r = cc in
        ((λ n. absurd (omega (arith, n, ap number_of is))), (λ n. absurd (omega (arith, n, ap number_of is))))
    go false p false q false e = cc
