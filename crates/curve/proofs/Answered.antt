-- What holds of the figures that a curve answers: low at most high, and every enclosed curve between.
use Rattle.std.proofs.Common.{◌≡◌, ℕ, ◌+◌, ◌*◌, ◌^◌, ◌<◌, ◌≤◌, leb, pos, ◌+ℤ◌, ◌≤ℤ◌, IfOk, Ok, Err, Result, sym, subst, inl, inr, mul-le-mul_right, mul-le-mul_left, mul-add, arith}
use native.Mathlib.Nat.{one-le-pow, pow-lt-pow_left}
use Rattle.std.proofs.lemmas.Int.{ints}
use Rattle.std.proofs.lemmas.Bool.{cases_lt, and_parts, leb-true, ltb-true, cond_both}
use Rattle.instruments.specs.Limits.{within}
use Rattle.instruments.specs.declared.refusal.Refusal.{Refusal}
use Rattle.instruments.specs.declared.refusal.Refusal.TheVariants.{OutsideHorizon}
use Rattle.curve.specs.Range.{unit}
use Rattle.curve.specs.Steps.{reaching}
use Rattle.curve.specs.Market.{entry, growth_of, factor_of, Ordered}
use Rattle.curve.specs.Questions.{asked, signed_pair, forward_of, asked_forward, asked_factor}
use Rattle.curve.specs.Rates.{compounded, rate_limit, rate_growth, asked_rate}
use Rattle.curve.specs.Exact.{Fraction, Between, exact_factor, Possible, Encloses, Rising, Narrow, one_plus, ForwardBetween, FactorBetween, RateBetween}
use Rattle.curve.specs.declared.side.Side.TheVariants.{Low, High}
use Rattle.curve.specs.declared.tables.Tables.{Tables}
use Rattle.curve.proofs.Edges.{edge_passes, edge_range}
use Rattle.curve.proofs.RateBounds.{rate_bounds, compounded_bounds, one_plus_forward}

-- what holds of the answer to a year within the horizon holds of every answer
pub asked_made : {A : Type 0} (T : Tables) (first t : ℕ) (answer : A) (P : A → Type 0) → (first ≤ t → t ≤ T.last → P answer) → IfOk (asked T first t answer) P
asked_made T first t answer P h = cond_both (within first T.last t) (Ok answer) (Err (OutsideHorizon t)) (λ r. IfOk r P)
    (λ e. let both = and_parts (leb first t) (leb t T.last) e in h (leb-true _ _ both.0) (leb-true _ _ both.1)) (λ e. tt)

forward_rises : (a b : ℕ) → a ≤ b → forward_of a ≤ℤ forward_of b
forward_rises a b h = omega (arith, ints)

pub forward_ordered : (T : Tables) → Ordered T → (t : ℕ) → IfOk (asked_forward T t) Narrow
forward_ordered T o t = asked_made T 1 t (signed_pair (λ σ. forward_of (growth_of T σ t))) Narrow
    (λ one last. let in_horizon : t ≤ 120 = omega (arith, o.ends) in
    (forward_rises (growth_of T Low t) (growth_of T High t) (o.growing t in_horizon).1, near (growth_of T Low t) (growth_of T High t) (o.near t in_horizon)))
  where
    near : (a b : ℕ) → b ≤ a + 1000 → forward_of b ≤ℤ (forward_of a +ℤ pos 1000)
    near a b h = omega (arith, ints)

pub forward_between : (T : Tables) → Ordered T → (t : ℕ) (growth : ℕ → Fraction) → Encloses T growth → IfOk (asked_forward T t) (ForwardBetween growth t)
forward_between T o t growth e = asked_made T 1 t (signed_pair (λ σ. forward_of (growth_of T σ t))) (ForwardBetween growth t)
    (λ one last. let figures : (one_plus (forward_of (growth_of T Low t)), one_plus (forward_of (growth_of T High t))) ≡ entry T.growths t = λ i. (one_plus_forward (growth_of T Low t) i, one_plus_forward (growth_of T High t) i) in
    subst (λ (p : ℕ × ℕ). Between p (growth t)) (sym figures) (e.forwards (omega arith) t one (omega (arith, o.ends))))

pub factor_ordered : (T : Tables) → Ordered T → (t : ℕ) → IfOk (asked_factor T t) Rising
factor_ordered T o t = asked_made T 0 t (signed_pair (λ σ. pos (factor_of T σ t))) Rising (λ zero last. rises (factor_of T Low t) (factor_of T High t) (o.discounting t (omega (arith, o.ends))).0)
  where
    rises : (a b : ℕ) → a ≤ b → pos a ≤ℤ pos b
    rises a b h = omega (arith, ints)

pub factor_between : (T : Tables) (t : ℕ) (growth : ℕ → Fraction) → Encloses T growth → IfOk (asked_factor T t) (FactorBetween growth t)
factor_between T t growth e = asked_made T 0 t (signed_pair (λ σ. pos (factor_of T σ t))) (FactorBetween growth t) (λ zero last. e.factors t last)

squeezed : (d e a b w : ℕ) → a + 1 ≤ b → e ≤ d → d * b ≤ w → w ≤ e * a → 1 ≤ w → ⊥
squeezed d e a b w more fewer over under one =
    let none : e ≤ 0 = omega (arith, mul-le-mul_left d more, mul-le-mul_right a fewer, mul-add d a 1) in
    omega (arith, mul-le-mul_right a none)

-- the low rate is at most the high one: where neither is an end of the range, the steps by the low one reach the high factor and those by the high one no more than the low factor
pub rates_order : (T : Tables) → Ordered T → (t : ℕ) → 1 ≤ t → t ≤ T.last → rate_growth T t Low ≤ rate_growth T t High
rates_order T o t one last = elim (edge_passes Low (reaching Low (compounded t Low) (rate_limit T t Low))) [
  | inl end ↦ omega (arith, end, (edge_range High (reaching High (compounded t High) (rate_limit T t High))).0)
  | inr low ↦ elim (edge_passes High (reaching High (compounded t High) (rate_limit T t High))) [
    | inl end ↦ omega (arith, end, (edge_range Low (reaching Low (compounded t Low) (rate_limit T t Low))).1)
    | inr high ↦ elim (cases_lt g f) [ inl less ↦ absurd (apart less (leb-true _ _ low) (ltb-true _ _ high)) | inr fine ↦ fine ]
  ]
]
  where
    f : ℕ
    f = rate_growth T t Low

    g : ℕ
    g = rate_growth T t High

    apart : g < f → factor_of T High t ≤ compounded t Low f → compounded t High g < factor_of T Low t + 1 → ⊥
    apart less low high =
        let d = compounded t Low f in
        let more : g ^ t + 1 ≤ f ^ t = omega (arith, pow-lt-pow_left {a = g} {b = f} {n = t} less (λ none. omega arith)) in
        let positive : 1 ≤ unit ^ t = one-le-pow t unit (omega arith) in
        let fewer : compounded t High g ≤ d = omega (arith, low, high, (o.discounting t (omega (arith, o.ends))).0) in
        squeezed d (compounded t High g) (g ^ t) (f ^ t) (unit * unit ^ t) more fewer
        (compounded_bounds Low t f (omega (arith, (edge_range Low (reaching Low (compounded t Low) (rate_limit T t Low))).0)))
        (compounded_bounds High t g (omega (arith, (edge_range High (reaching High (compounded t High) (rate_limit T t High))).0))) (omega (arith, positive))

pub rate_ordered : (T : Tables) → Ordered T → (t : ℕ) → IfOk (asked_rate T t) Rising
rate_ordered T o t = asked_made T 1 t (signed_pair (λ σ. forward_of (rate_growth T t σ))) Rising (λ one last. forward_rises (rate_growth T t Low) (rate_growth T t High) (rates_order T o t one last))

pub rate_between : (T : Tables) (t : ℕ) (growth : ℕ → Fraction) → Possible growth → Encloses T growth → IfOk (asked_rate T t) (RateBetween growth t)
rate_between T t growth possible e = asked_made T 1 t (signed_pair (λ σ. forward_of (rate_growth T t σ))) (RateBetween growth t)
    (λ one last. (low last, high last))
  where
    low : t ≤ T.last → one_plus (forward_of (rate_growth T t Low)) ^ t * (exact_factor growth t).top ≤ unit ^ t * (exact_factor growth t).bottom
    low last = rw (one_plus_forward (rate_growth T t Low)) (rate_bounds Low T growth possible e t last)

    high : t ≤ T.last → unit ^ t * (exact_factor growth t).bottom ≤ one_plus (forward_of (rate_growth T t High)) ^ t * (exact_factor growth t).top
    high last = rw (one_plus_forward (rate_growth T t High)) (rate_bounds High T growth possible e t last)

-- what follows of an answer that is the one defined
pub follows : {A : Type 0} (r v : Result A Refusal) → r ≡ v → (P : A → Type 0) → IfOk v P → IfOk r P
follows r v e P h = subst (λ w. IfOk w P) (sym e) h
