-- Every admitted curve lies between the two figures of a stripped curve, and none is admitted where stripping is refused because no growth of the range fits.
use Rattle.std.proofs.Common.{◌≡◌, ℕ, zero, suc, ◌+◌, ◌-◌, ◌*◌, ◌<◌, ◌≤◌, min, max, true, sym, refl, ap, subst, inl, inr, mul-le-mul_right, mul-le-mul, arith}
use Rattle.std.proofs.lemmas.Bool.{cases_lt, leb-true, ltb-true}
use Rattle.instruments.specs.Law.{Meaning, Lawful}
use Rattle.curve.specs.Range.{unit, least, most, place}
use Rattle.curve.specs.Steps.{side_of, opposite, quotient, reaches, reaching}
use Rattle.curve.specs.Worths.{continued, level, worth}
use Rattle.curve.specs.Market.{admitted, limit, factor_of, worth_at, found, stepped, tightened, inner}
use Rattle.curve.specs.Exact.{Fraction, fraction, Between, ExactCurve, exact_growth, exact_factor, exact_worth, Priced}
use Rattle.curve.specs.declared.side.Side.{Side}
use Rattle.curve.specs.declared.side.Side.TheVariants.{Low, High}
use Rattle.curve.specs.declared.tables.Tables.{Tables}
use Rattle.curve.proofs.Outward.{Outside, quotient_outside}
use Rattle.curve.proofs.Edges.{edge_passes, edge_range}
use Rattle.curve.proofs.Enclosure.{Bounds, outside_cancel, outside_either, continued_bounds, worth_bounds}

-- positive bottoms
pub growth_bottom : (c : ExactCurve) → 1 ≤ c.whole → (t : ℕ) → (1 ≤ (exact_growth c t).bottom) × (1 ≤ (exact_growth c t).top)
growth_bottom c one t = (one, omega arith)

pub factor_bottom : (growth : ℕ → Fraction) → ((t : ℕ) → 1 ≤ t → 1 ≤ (growth t).top) → (t : ℕ) → 1 ≤ (exact_factor growth t).bottom
unfolding exact_factor
factor_bottom growth one zero = omega arith
factor_bottom growth one (suc t) = mul-le-mul {n₁ = 1} {m₁ = 1} {n₂ = (exact_factor growth t).bottom} {m₂ = (growth (suc t)).top} (factor_bottom growth one t) (one (suc t) (omega arith))

pub worth_bottom : (pay : ℕ → ℕ) (factor : ℕ → Fraction) → ((t : ℕ) → 1 ≤ (factor t).bottom) → (t : ℕ) → 1 ≤ (exact_worth pay factor t).bottom
unfolding exact_worth
worth_bottom pay factor one zero = omega arith
worth_bottom pay factor one (suc t) = mul-le-mul {n₁ = 1} {m₁ = 1} {n₂ = (exact_worth pay factor t).bottom} {m₂ = (factor (suc t)).bottom} (worth_bottom pay factor one t) (one (suc t))

-- a worth that passes the search's test cannot bound a worth that is admitted
refute : (σ : Side) (w p : ℕ) (x : Fraction) → 1 ≤ x.bottom → reaches σ w (limit σ p) ≡ true → Bounds σ w x → Between (admitted Low p, admitted High p) x → ⊥
refute Low w p x one pass by between = omega (arith, mul-le-mul_right x.bottom (leb-true _ _ pass), by, between.1)
refute High w p x one pass by between = omega (arith, mul-le-mul_right x.bottom (ltb-true _ _ pass), by, between.0)

-- the end of the range at which the search of a side begins
ends_bound : (σ : Side) (x : Fraction) → Between (least, most) x → Bounds σ (place σ 0) x
ends_bound Low x between = between.0
ends_bound High x between = between.1

pub exact_worth_turn : (pay : ℕ → ℕ) (factor : ℕ → Fraction) (t : ℕ) → 1 ≤ t
    → exact_worth pay factor t ≡ fraction ((exact_worth pay factor (t - 1)).top * (factor t).bottom + pay t * (factor t).top * (exact_worth pay factor (t - 1)).bottom) ((exact_worth pay factor (t - 1)).bottom * (factor t).bottom)
unfolding exact_worth
exact_worth_turn pay factor zero h = absurd (omega arith)
exact_worth_turn pay factor (suc t) h = let e : suc t - 1 ≡ t = omega arith in rw e refl

-- what a price leaves for the factor F at maturity, where R lies on the other side of what the payments before are worth
left_over_bounds : (σ : Side) (A R pay q : ℕ) (V F : Fraction) → 1 ≤ pay → 1 ≤ V.bottom → Outside σ (q * pay) (A - R) → Bounds (opposite σ) R V
    → Outside σ (A * (V.bottom * F.bottom)) (unit * (V.top * F.bottom + pay * F.top * V.bottom)) → Bounds σ q F
left_over_bounds σ A R pay q V F paid one quotient rest priced =
    outside_cancel σ (q * F.bottom) (unit * F.top) (pay * V.bottom) (mul-le-mul {n₁ = 1} {m₁ = 1} {n₂ = pay} {m₂ = V.bottom} paid one) (elim (cases_lt A R) [ inl more ↦ short σ more quotient rest priced | inr fits ↦ long σ fits quotient rest priced ])
  where
    long : (τ : Side) → R ≤ A → Outside τ (q * pay) (A - R) → Bounds (opposite τ) R V → Outside τ (A * (V.bottom * F.bottom)) (unit * (V.top * F.bottom + pay * F.top * V.bottom)) → Outside τ (q * F.bottom * (pay * V.bottom)) (unit * F.top * (pay * V.bottom))
    long Low h u r v =
        let split : A ≡ R + (A - R) = omega arith in
        omega (arith, mul-le-mul_right (V.bottom * F.bottom) u, mul-le-mul_right F.bottom r, v, ap (λ n. n * (V.bottom * F.bottom)) split)
    long High h u r v =
        let split : A ≡ R + (A - R) = omega arith in
        omega (arith, mul-le-mul_right (V.bottom * F.bottom) u, mul-le-mul_right F.bottom r, v, ap (λ n. n * (V.bottom * F.bottom)) split)

    short : (τ : Side) → A < R → Outside τ (q * pay) (A - R) → Bounds (opposite τ) R V → Outside τ (A * (V.bottom * F.bottom)) (unit * (V.top * F.bottom + pay * F.top * V.bottom)) → Outside τ (q * F.bottom * (pay * V.bottom)) (unit * F.top * (pay * V.bottom))
    short Low h u r v =
        let none : q * pay ≤ 0 = omega arith in
        omega (arith, mul-le-mul_right (V.bottom * F.bottom) none)
    short High h u r v =
        let less : A ≤ R = omega arith in
        omega (arith, mul-le-mul_right (V.bottom * F.bottom) less, mul-le-mul_right F.bottom r, v)

inner_bounds : (σ : Side) (a b : ℕ) (x : Fraction) → Bounds σ a x → Bounds σ b x → Bounds σ (inner σ a b) x
inner_bounds Low a b x p q = elim (cases_lt a b) [
  | inl less ↦ let e : max a b ≡ b = omega arith in rw e q
  | inr more ↦ let e : max a b ≡ a = omega arith in rw e p
]
inner_bounds High a b x p q = elim (cases_lt a b) [
  | inl less ↦ let e : min a b ≡ a = omega arith in rw e p
  | inr more ↦ let e : min a b ≡ b = omega arith in rw e q
]

price_bounds : (σ : Side) (p : ℕ) (x : Fraction) → Between (admitted Low p, admitted High p) x → Bounds σ (admitted σ p) x
price_bounds Low p x between = between.0
price_bounds High p x between = between.1

module _ (T : Tables) (x : Meaning) (law : Lawful x) (c : ExactCurve) (one : 1 ≤ c.whole) (same : (t : ℕ) → T.last < t → t ≤ x.maturity → c.part t ≡ c.part x.maturity)
    (range : Between (least, most) (exact_growth c x.maturity)) (price : Priced c x)
    (known : (σ : Side) (t : ℕ) → t ≤ T.last → Bounds σ (factor_of T σ t) (exact_factor (exact_growth c) t)) where
  abbrev F : ℕ → Fraction
  F = exact_factor (exact_growth c)

  abbrev W : ℕ → Fraction
  W = exact_worth x.payment F

  F_bottom : (t : ℕ) → 1 ≤ (F t).bottom
  F_bottom = factor_bottom (exact_growth c) (λ t h. (growth_bottom c one t).1)

  W_bottom : (t : ℕ) → 1 ≤ (W t).bottom
  W_bottom = worth_bottom x.payment F F_bottom

  -- steps by a growth beyond the gap's bound its factors
  gap_bounds : (σ : Side) (g : ℕ) → 1 ≤ g → Bounds (opposite σ) g (exact_growth c x.maturity) → (t : ℕ) → t ≤ x.maturity → Bounds σ (continued σ (factor_of T σ) T.last (level g) t) (F t)
  gap_bounds σ g pos by t h = continued_bounds σ (factor_of T σ) T.last (level g) (exact_growth c) t (known σ) (λ _ _ _. pos)
      (λ u a b. subst (λ n. Bounds (opposite σ) g (fraction (c.whole + n) c.whole)) (sym (same u a (omega arith))) by)

  gap_worth_bounds : (σ : Side) (g : ℕ) → 1 ≤ g → Bounds (opposite σ) g (exact_growth c x.maturity) → Bounds σ (worth_at T x σ g) (W x.maturity)
  unfolding worth_at
  gap_worth_bounds σ g pos by = worth_bounds σ x.payment (continued σ (factor_of T σ) T.last (level g)) F x.maturity (gap_bounds σ g pos by)

  -- no growth beyond the gap's passes the test
  pub test_fails : (σ : Side) (g : ℕ) → 1 ≤ g → Bounds (opposite σ) g (exact_growth c x.maturity) → reaching σ (worth_at T x σ) (limit σ x.price) g ≡ true → ⊥
  test_fails σ g pos by pass = refute σ (worth_at T x σ g) x.price (W x.maturity) (W_bottom x.maturity) pass (gap_worth_bounds σ g pos by) price

  -- so the growth found lies outside the gap's
  pub found_bounds : (σ : Side) → Bounds σ (found (worth_at T x) x.price σ) (exact_growth c x.maturity)
  found_bounds σ = elim (edge_passes σ (reaching σ (worth_at T x σ) (limit σ x.price))) [
    | inl first ↦ rw first (ends_bound σ (exact_growth c x.maturity) range)
    | inr pass ↦ elim (outside_either σ (found (worth_at T x) x.price σ * (exact_growth c x.maturity).bottom) (unit * (exact_growth c x.maturity).top)) [
      | inl fine ↦ fine
      | inr beyond ↦ absurd (test_fails σ (found (worth_at T x) x.price σ) (omega (arith, (edge_range σ (reaching σ (worth_at T x σ) (limit σ x.price))).0)) beyond pass)
    ]
  ]

  module _ (growths : ℕ × ℕ) (growths_are : (σ : Side) → side_of σ growths ≡ found (worth_at T x) x.price σ) where
    pub growths_bound : (σ : Side) → Bounds σ (side_of σ growths) (exact_growth c x.maturity)
    growths_bound σ = rw (growths_are σ) (found_bounds σ)

    growths_positive : (σ : Side) → 1 ≤ side_of σ growths
    growths_positive σ = omega (arith, growths_are σ, (edge_range σ (reaching σ (worth_at T x σ) (limit σ x.price))).0)

    pub stepped_bounds : (σ : Side) (t : ℕ) → t ≤ x.maturity → Bounds σ (stepped T growths σ t) (F t)
    unfolding stepped
    stepped_bounds σ t h = gap_bounds σ (side_of (opposite σ) growths) (growths_positive (opposite σ)) (growths_bound (opposite σ)) t h

    pub tightened_bounds : (σ : Side) → Bounds σ (tightened T x growths σ) (F x.maturity)
    unfolding tightened
    tightened_bounds σ =
        let R = worth x.payment (stepped T growths (opposite σ)) (x.maturity - 1) in
        let q = quotient σ (admitted σ x.price - R) (x.payment x.maturity) in
        inner_bounds σ (stepped T growths σ x.maturity) q (F x.maturity) (stepped_bounds σ x.maturity (omega arith))
        (left_over_bounds σ (admitted σ x.price) R (x.payment x.maturity) q (W (x.maturity - 1)) (F x.maturity) law.pays (W_bottom (x.maturity - 1))
        (quotient_outside σ (admitted σ x.price - R) (x.payment x.maturity) law.pays)
        (worth_bounds (opposite σ) x.payment (stepped T growths (opposite σ)) F (x.maturity - 1) (λ t a. stepped_bounds (opposite σ) t (omega arith)))
        (subst (λ (v : Fraction). Bounds σ (admitted σ x.price) v) (exact_worth_turn x.payment F x.maturity law.one_year) (price_bounds σ x.price (W x.maturity) price)))
