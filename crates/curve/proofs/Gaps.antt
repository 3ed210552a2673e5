-- What holds of a gap whose two growths are answered: they lie in the range, and the factors that follow stay in order.
use Rattle.std.proofs.Common.{◌≡◌, ℕ, ◌+◌, ◌-◌, ◌*◌, ◌<◌, ◌≤◌, Bool, ◌&&◌, eqb, ltb, leb, ◌⊎◌, sym, ◌∙◌, inl, inr, arith}
use mathlib.Core.Path.{fun_ext}
use Rattle.std.proofs.lemmas.List.FromFn.{get_or-map-range_with_len}
use Rattle.std.proofs.lemmas.Bool.{cases_lt, cond_both, leb-true, ltb-true}
use Rattle.instruments.specs.Law.{Meaning, Lawful}
use Rattle.curve.specs.Range.{unit, least, most}
use Rattle.curve.specs.Steps.{side_of, opposite, pair, quotient, reaching}
use Rattle.curve.specs.Worths.{continued, level, worth, gap_worth}
use Rattle.curve.specs.Market.{by_year, entry, factor_of, admitted, limit, worth_at, stepped, tightened, extended, extended_growths, extended_factors, Ordered, InRange}
use Rattle.curve.specs.declared.side.Side.{Side}
use Rattle.curve.specs.declared.side.Side.TheVariants.{Low, High}
use Rattle.curve.specs.declared.tables.Tables.{Tables}
use Rattle.curve.proofs.Outward.{Outside, quotient_outside, quotient_rises, quotient_sides}
use Rattle.curve.proofs.Continuation.{Under, continued_known, continued_under, continued_small, worth_rises, worth_same, worth_turn, worth_from_is}
use Rattle.curve.proofs.Enclosure.{outside_cancel}
use Rattle.curve.proofs.Edges.{edge_passes, edge_range}
use Rattle.curve.proofs.Verdict.{Accepted}

pub entry_by_year : (f : ℕ → ℕ × ℕ) (t : ℕ) → t ≤ 120 → entry (by_year f) t ≡ f t
unfolding by_year
entry_by_year f t h = get_or-map-range_with_len f 0 121 t t (0, 0) (omega arith) (omega arith)

module _ (T : Tables) (o : Ordered T) (x : Meaning) where
  factors_under : (σ τ : Side) → Under σ τ → (t : ℕ) → t ≤ T.last → factor_of T σ t ≤ factor_of T τ t
  factors_under Low Low u t h = omega arith
  factors_under Low High u t h = (o.discounting t (omega (arith, o.ends))).0
  factors_under High Low u t h = absurd u
  factors_under High High u t h = omega arith

  -- a worth at no smaller a growth, on no higher a side, is no larger
  pub worth_at_under : (σ τ : Side) → Under σ τ → (g h : ℕ) → 1 ≤ h → h ≤ g → worth_at T x σ g ≤ worth_at T x τ h
  unfolding worth_at
  worth_at_under σ τ u g h one le = worth_rises x.payment _ _ x.maturity
      (λ t a. continued_under σ τ u (factor_of T σ) (factor_of T τ) T.last (level g) (level h) t (factors_under σ τ u) (λ _ _ _. one) (λ _ _ _. le))

  -- the gap's worth in two parts is the worth
  pub gap_worth_is : Lawful x → (known start : ℕ × ℕ) → known ≡ pair (λ σ. worth x.payment (factor_of T σ) T.last) → start ≡ entry T.factors T.last
      → gap_worth known start T.last x ≡ worth_at T x
  unfolding worth_at
  gap_worth_is law known start k s = fun_ext (λ σ. fun_ext (λ g. (λ i. gap_worth (k i) (s i) T.last x σ g) ∙ side σ g))
    where
      side : (σ : Side) (g : ℕ) → gap_worth (pair (λ τ. worth x.payment (factor_of T τ) T.last)) (entry T.factors T.last) T.last x σ g ≡ worth x.payment (continued σ (factor_of T σ) T.last (level g)) x.maturity
      side Low g = worth_from_is Low (factor_of T Low) T.last x.payment x.maturity g law.none_after
      side High g = worth_from_is High (factor_of T High) T.last x.payment x.maturity g law.none_after

  module _ (law : Lawful x) (growths : ℕ × ℕ) (a : Accepted (worth_at T x) x growths) where
    abbrev test : Side → ℕ → Bool
    test σ = reaching σ (worth_at T x σ) (limit σ x.price)

    -- the low growth is the lower end, or even the low worth at it is more than is admitted
    low_passes : (growths.0 ≡ least) ⊎ (admitted High x.price < worth_at T x Low growths.0)
    low_passes = elim (edge_passes Low (test Low)) [
      | inl first ↦ inl (omega (arith, a.low_is, first))
      | inr pass ↦ inr (rw a.low_is (omega (arith, leb-true _ _ pass)))
    ]

    high_passes : (growths.1 ≡ most) ⊎ (worth_at T x High growths.1 < admitted Low x.price)
    high_passes = elim (edge_passes High (test High)) [
      | inl first ↦ inl (omega (arith, a.high_is, first))
      | inr pass ↦ inr (rw a.high_is (ltb-true _ _ pass))
    ]

    pub growths_range : InRange growths
    growths_range =
        let low = edge_range Low (test Low) in
        let high = edge_range High (test High) in
        (omega (arith, a.low_is, low.0), ordered, omega (arith, a.high_is, high.1))
      where
        ordered : growths.0 ≤ growths.1
        ordered = elim low_passes [
          | inl first ↦ omega (arith, (edge_range High (test High)).0, a.high_is, first)
          | inr dear ↦ elim high_passes [
            | inl end ↦ omega (arith, (edge_range Low (test Low)).1, a.low_is, end)
            | inr cheap ↦ elim (cases_lt growths.1 growths.0) [
              | inl less ↦ absurd (omega (arith, worth_at_under Low High tt growths.0 growths.1 (omega (arith, (edge_range High (test High)).0, a.high_is)) (omega arith), dear, cheap))
              | inr fine ↦ fine
            ]
          ]
        ]

    -- an answered gap has a year of its own: else its worth would be the same at every growth, and the two growths the ends of the range
    pub gap_rises : T.last < x.maturity
    unfolding worth_at
    gap_rises = elim (cases_lt T.last x.maturity) [
      | inl rises ↦ rises
      | inr none ↦ absurd (omega (arith, a.near, low_end none, high_end none))
    ]
      where
        flat : x.maturity ≤ T.last → (σ : Side) (g h : ℕ) → worth_at T x σ g ≡ worth_at T x σ h
        flat none σ g h = worth_same x.payment _ _ x.maturity (λ t b. continued_known σ (factor_of T σ) T.last (level g) t (omega arith) ∙ sym (continued_known σ (factor_of T σ) T.last (level h) t (omega arith)))

        low_end : x.maturity ≤ T.last → growths.0 ≡ least
        low_end none = elim low_passes [ inl end ↦ end | inr dear ↦ absurd (omega (arith, dear, a.not_more, flat none Low growths.0 most)) ]

        high_end : x.maturity ≤ T.last → growths.1 ≡ most
        high_end none = elim high_passes [ inl end ↦ end | inr cheap ↦ absurd (omega (arith, cheap, a.enough, flat none High growths.1 least)) ]

    -- the steps' own worth lies outside what is admitted
    steps_outside : (σ : Side) → Outside σ (worth_at T x σ (side_of (opposite σ) growths)) (admitted (opposite σ) x.price)
    steps_outside Low = elim high_passes [
      | inl end ↦ rw end a.not_more
      | inr cheap ↦ omega (arith, cheap, worth_at_under Low High tt growths.1 growths.1 (omega (arith, growths_range)) (omega arith))
    ]
    steps_outside High = elim low_passes [
      | inl end ↦ rw end a.enough
      | inr dear ↦ omega (arith, dear, worth_at_under Low High tt growths.0 growths.0 (omega (arith, growths_range)) (omega arith))
    ]

    pub stepped_order : (t : ℕ) → stepped T growths Low t ≤ stepped T growths High t
    unfolding stepped
    stepped_order t = continued_under Low High tt (factor_of T Low) (factor_of T High) T.last (level growths.1) (level growths.0) t (factors_under Low High tt) (λ _ _ _. omega (arith, growths_range)) (λ _ _ _. growths_range.1)

    pub stepped_small : (t : ℕ) → stepped T growths High t ≤ unit
    unfolding stepped
    stepped_small t = continued_small High (factor_of T High) T.last (level growths.0) unit t (λ u h. (o.discounting u (omega (arith, o.ends))).1) (λ _ _ _. growths_range.0)

    pub stepped_unit : (σ : Side) (t : ℕ) → stepped T growths σ t ≤ unit
    stepped_unit Low t = omega (arith, stepped_order t, stepped_small t)
    stepped_unit High t = stepped_small t

    -- the worth at the steps, taken apart at maturity
    pub steps_worth : (σ : Side) → worth_at T x σ (side_of (opposite σ) growths) ≡ worth x.payment (stepped T growths σ) (x.maturity - 1) + x.payment x.maturity * stepped T growths σ x.maturity
    unfolding worth_at stepped
    steps_worth σ = worth_turn x.payment (continued σ (factor_of T σ) T.last (level (side_of (opposite σ) growths))) x.maturity law.one_year

    -- what the price leaves for the factor at maturity
    left_over : Side → ℕ
    left_over σ = quotient σ (admitted σ x.price - worth x.payment (stepped T growths (opposite σ)) (x.maturity - 1)) (x.payment x.maturity)

    left_over_outside : (σ : Side) → Outside σ (left_over σ) (stepped T growths (opposite σ) x.maturity)
    unfolding left_over
    left_over_outside Low = outside_cancel Low _ _ (x.payment x.maturity) law.pays
        (omega (arith, quotient_outside Low (admitted Low x.price - worth x.payment (stepped T growths High) (x.maturity - 1)) (x.payment x.maturity) law.pays, steps_outside High, steps_worth High))
    left_over_outside High = outside_cancel High _ _ (x.payment x.maturity) law.pays
        (omega (arith, quotient_outside High (admitted High x.price - worth x.payment (stepped T growths Low) (x.maturity - 1)) (x.payment x.maturity) law.pays, steps_outside Low, steps_worth Low))

    left_over_order : left_over Low ≤ left_over High
    unfolding left_over
    left_over_order =
        let rests = worth_rises x.payment (stepped T growths Low) (stepped T growths High) (x.maturity - 1) (λ t h. stepped_order t) in
        omega (
          arith,
          quotient_rises Low (admitted Low x.price - worth x.payment (stepped T growths High) (x.maturity - 1)) (admitted High x.price - worth x.payment (stepped T growths Low) (x.maturity - 1)) (x.payment x.maturity) law.pays (omega (arith, rests)),
          quotient_sides (admitted High x.price - worth x.payment (stepped T growths Low) (x.maturity - 1)) (x.payment x.maturity) law.pays,
        )

    pub tightened_order : (tightened T x growths Low ≤ tightened T x growths High) × (tightened T x growths High ≤ unit)
    unfolding tightened left_over
    tightened_order = (omega (arith, left_over_order, left_over_outside Low, left_over_outside High, stepped_order x.maturity), omega (arith, stepped_small x.maturity))

    pub growths_entry : (t : ℕ) → t ≤ 120 → entry (extended T x growths).growths t ≡ extended_growths T growths t
    unfolding extended
    growths_entry t h = entry_by_year (extended_growths T growths) t h

    pub factors_entry : (t : ℕ) → t ≤ 120 → entry (extended T x growths).factors t ≡ extended_factors T x growths t
    unfolding extended
    factors_entry t h = entry_by_year (extended_factors T x growths) t h

    abbrev Fine : ℕ × ℕ → Type 0
    Fine p = (p.0 ≤ p.1) × (p.1 ≤ unit)

    pub extended_ordered : Ordered (extended T x growths)
    unfolding extended
    extended_ordered = record {
      ends = omega (arith, law.ninety_years);
      growing = λ t h. rw (growths_entry t h) (cond_both (leb t T.last) (entry T.growths t) growths InRange (λ e. o.growing t h) (λ e. growths_range));
      near = λ t h. rw (growths_entry t h) (cond_both (leb t T.last) (entry T.growths t) growths (λ p. p.1 ≤ p.0 + 1000) (λ e. o.near t h) (λ e. a.near));
      discounting = λ t h. rw (factors_entry t h) (cond_both (eqb t x.maturity) (pair (tightened T x growths)) _ Fine
          (λ e. tightened_order)
          (λ e. cond_both (ltb T.last t && leb t x.maturity) (pair (λ σ. stepped T growths σ t)) (entry T.factors t) Fine (λ d. (stepped_order t, stepped_small t)) (λ d. o.discounting t h)));
    }
