-- The marked figures hold: no search is run, but each is known by the figures on both sides of where it ends.
use Rattle.std.proofs.Common.{◌≡◌, ℕ, ◌+◌, ◌-◌, ◌≤◌, Bool, true, ◌&&◌, ◌||◌, eqb, ltb, leb, [], ◌∷◌, ℤ, is_ok, Ok, Err, Result, sym, refl, ap, ◌∙◌, subst, inl, inr, arith}
use Rattle.std.proofs.lemmas.Bool.{and_parts, or_cases, leb-true, ltb-true, eqb-true}
use Rattle.instruments.specs.Law.{Meaning, ok_map}
use Rattle.instruments.specs.Limits.{within}
use Rattle.instruments.specs.declared.refusal.Refusal.{Refusal}
use Rattle.curve.specs.Blending.{blended_growth}
use Rattle.curve.specs.Figures.{AllHold, marked, RefusedAs, one_swap, one_bond}
use Rattle.curve.specs.Market.{admitted, limit, worth_at, found_growths, stepped, tightened, by_year, extended, with_gap, and_then, strip_from, stripped, unstripped}
use Rattle.curve.specs.Questions.{asked, forward_of}
use Rattle.curve.specs.Range.{least, most, edge}
use Rattle.curve.specs.Rates.{compounded, rate_limit, asked_rate}
use Rattle.curve.specs.Reserve.{portion, reserve_from, flows_within}
use Rattle.curve.specs.Steps.{quotient, step, reaching, Falls}
use Rattle.curve.specs.Worths.{continued, level, worth}
use Rattle.curve.specs.declared.side.Side.{Side}
use Rattle.curve.specs.declared.side.Side.TheVariants.{Low, High}
use Rattle.curve.specs.declared.tables.Tables.{Tables}
use Rattle.curve.proofs.Compounding.{compounded_falls}
use Rattle.curve.proofs.Continuation.{under_self, continued_under, worth_rises}
use Rattle.curve.proofs.Edges.{ended, edge_ended}
use Rattle.curve.proofs.Verdict.{refused_below, refused_above, accepted_pair}

-- a falling figure comes below the limit at b: up to b it reaches the limit, unless b is the lower end; at b it is below, unless b is past the range
abbrev turns : (ℕ → ℕ) → ℕ → ℕ → Bool
turns value limit b = within least (most + 1) b && ((eqb b least || leb limit (value (b - 1))) && (eqb b (most + 1) || ltb (value b) limit))

edge_turns : (value : ℕ → ℕ) → Falls value → (limit b : ℕ) → turns value limit b ≡ true → (σ : Side) → edge σ (reaching σ value limit) ≡ ended σ b
edge_turns value falls limit b t =
    let parts = and_parts (within least (most + 1) b) _ t in
    let ends = and_parts (leb least b) _ parts.0 in
    let sides = and_parts (eqb b least || leb limit (value (b - 1))) _ parts.1 in
    let from : least ≤ b = leb-true _ _ ends.0 in
    let to : b ≤ most + 1 = leb-true _ _ ends.1 in
    edge_ended value limit b from to
    (λ g l m. elim (or_cases (eqb b least) _ sides.0) [
      | inl none ↦ absurd (omega (arith, eqb-true b least none))
      | inr reached ↦ omega (arith, leb-true _ _ reached, falls g (b - 1) (omega arith) (omega arith))
    ])
    (λ g l m. elim (or_cases (eqb b (most + 1)) _ sides.1) [
      | inl none ↦ absurd (omega (arith, eqb-true b (most + 1) none))
      | inr less ↦ omega (arith, ltb-true _ _ less, falls b g (omega arith) l)
    ])

worth_at_falls : (T : Tables) (x : Meaning) (σ : Side) → Falls (worth_at T x σ)
unfolding worth_at
worth_at_falls T x σ g h one le = worth_rises x.payment _ _ x.maturity
    (λ t a. continued_under σ σ (under_self σ) _ _ T.last (level h) (level g) t (λ _ _. omega arith) (λ _ _ _. one) (λ _ _ _. le))

-- a single quotation
module _ (x : Meaning) where
  abbrev w : Side → ℕ → ℕ
  w = worth_at unstripped x

  refuses_with : (r : Refusal) → Err r ≡ found_growths w x → stripped (x ∷ []) ≡ Err r
  unfolding strip_from with_gap
  refuses_with r e = ap (λ q. and_then (ok_map (extended unstripped x) q) (λ N. strip_from N [])) (sym e)

  -- the two searches turn at these growths, and find two that are near
  abbrev finds : ℕ → ℕ → Bool
  finds low high =
      (leb (admitted Low x.price) (w High least) && leb (w Low most) (admitted High x.price))
      && ((turns (w Low) (limit Low x.price) low && turns (w High) (limit High x.price) high) && leb (ended High high) (ended Low low + 1000))

  module _ (low high : ℕ) (f : finds low high ≡ true) where
    abbrev made : Tables
    made = extended unstripped x (ended Low low, ended High high)

    strips_to : stripped (x ∷ []) ≡ Ok made
    unfolding strip_from with_gap
    strips_to =
        let parts = and_parts (leb (admitted Low x.price) (w High least) && leb (w Low most) (admitted High x.price)) _ f in
        let ends = and_parts (leb (admitted Low x.price) (w High least)) _ parts.0 in
        let rest = and_parts (turns (w Low) (limit Low x.price) low && turns (w High) (limit High x.price) high) _ parts.1 in
        let both = and_parts (turns (w Low) (limit Low x.price) low) _ rest.0 in
        let low_is = sym (edge_turns (w Low) (worth_at_falls unstripped x Low) _ low both.0 Low) in
        let high_is = sym (edge_turns (w High) (worth_at_falls unstripped x High) _ high both.1 High) in
        let pair_is = accepted_pair w x (leb-true _ _ ends.0) (leb-true _ _ ends.1) (ended Low low) (ended High high) low_is high_is (leb-true _ _ rest.1) in
        ap (λ r. and_then (ok_map (extended unstripped x) r) (λ N. strip_from N [])) (sym pair_is)

    -- what the curve is asked
    asks : {A : Type 0} (f : Tables → Result A Refusal) (a : A) → f made ≡ Ok a → and_then (stripped (x ∷ [])) f ≡ Ok a
    asks f a e = ap (λ r. and_then r f) strips_to ∙ e

    -- its rates, from where their two searches turn
    asks_rate : (t down up : ℕ) (a : ℤ × ℤ) → turns (compounded t Low) (rate_limit made t Low) down ≡ true → turns (compounded t High) (rate_limit made t High) up ≡ true
        → asked made 1 t (forward_of (ended Low down), forward_of (ended High up)) ≡ Ok a → and_then (stripped (x ∷ [])) (λ T. asked_rate T t) ≡ Ok a
    asks_rate t down up a p q e = asks (λ T. asked_rate T t) a
        ((λ i. asked made 1 t (forward_of (edge_turns (compounded t Low) (compounded_falls t Low) _ down p Low i), forward_of (edge_turns (compounded t High) (compounded_falls t High) _ up q High i))) ∙ e)

    strips_so : is_ok (stripped (x ∷ [])) ≡ true
    strips_so = ap is_ok strips_to

infixr 5 ◌then◌
◌then◌ : {A B : Type 0} → A → B → A × B
a then b = (a, b)

pub all_marked : AllHold marked
unfolding blended_growth quotient worth_at unstripped worth continued step extended by_year stepped tightened portion reserve_from flows_within
all_marked =
    let swap_at_20_000 = asks (one_swap 23500) 1019999999 1020000002 refl {A = ℤ × ℤ} in
    refl then refl then refl then refl
    then refl then refl then refl
    then refl then refl
    then asks (one_swap 3500) 1000000000 1000000003 refl _ _ refl
    then asks (one_swap 3500) 1000000000 1000000003 refl _ _ refl
    then swap_at_20_000 _ _ refl
    then swap_at_20_000 _ _ refl
    then swap_at_20_000 _ _ refl
    then swap_at_20_000 _ _ refl
    then asks (one_bond 800000000) 1249999997 1250000001 refl _ _ refl
    then asks_rate (one_bond 800000000) 1249999997 1250000001 refl 1 1249999999 1250000000 _ refl refl refl
    then strips_so (one_bond 799999999) 1249999999 1250000001 refl
    then subst (RefusedAs 20 1) (sym (refuses_with (one_bond 799999998) _ (refused_above _ _ (omega arith) (omega arith)))) (refl, refl)
    then strips_so (one_bond 1000000001) 1000000000 1000000002 refl
    then subst (RefusedAs 19 1) (sym (refuses_with (one_bond 1000000002) _ (refused_below _ _ (omega arith)))) (refl, refl)
    then tt
