-- The theorem of stripping, gap by gap: every admitted curve is enclosed, and there is none where no growth of the range fits.
use Rattle.std.proofs.Common.{◌≡◌, ℕ, ◌+◌, ◌<◌, ◌≤◌, ◌&&◌, eqb, ltb, leb, List, [], ◌∷◌, map, Ok, Err, Result, sym, refl, ap, ◌∙◌, subst, inl, inr, arith}
use Rattle.std.proofs.lemmas.Bool.{cases_lt, cond_both, cond-true, cond-false, leb-false, le-leb, lt-leb, ltb-false, eqb-true, and_cases}
use Rattle.instruments.specs.Law.{Meaning, Lawful, ok_map}
use Rattle.instruments.specs.declared.refusal.Refusal.{Refusal}
use Rattle.curve.specs.Range.{unit, least, most}
use Rattle.curve.specs.Steps.{side_of, pair}
use Rattle.curve.specs.Market.{entry, factor_of, growth_of, worth_at, found, found_growths, stepped, tightened, extended, extended_factors, with_gap, and_then, strip_from, stripped, unstripped, Ordered}
use Rattle.curve.specs.Gaps.{held_on}
use Rattle.curve.specs.Exact.{fraction, Between, ExactCurve, exact_growth, exact_factor, Level, AllPriced, Admitted, Encloses, Tells}
use Rattle.curve.specs.declared.side.Side.{Side}
use Rattle.curve.specs.declared.side.Side.TheVariants.{Low, High}
use Rattle.curve.specs.declared.tables.Tables.{Tables}
use Rattle.curve.proofs.Enclosure.{Bounds}
use Rattle.curve.proofs.Verdict.{Accepted, accepted, refused_why}
use Rattle.curve.proofs.Gaps.{extended_ordered, gap_rises, growths_entry, factors_entry}
use Rattle.curve.proofs.Bounds.{start_ordered}
use Rattle.curve.proofs.Held.{start_held}
use Rattle.curve.proofs.Admission.{test_fails, growths_bound, stepped_bounds, tightened_bounds}

abbrev pub AllLawful : List Meaning → Type 0
AllLawful [] = Unit {0}
AllLawful (x ∷ xs) = Lawful x × AllLawful xs

pub all_lawful : {Row : Type 0} (read : Row → Meaning) → ((r : Row) → Lawful (read r)) → (rows : List Row) → AllLawful (map read rows)
all_lawful read law [] = tt
all_lawful read law (r ∷ rows) = (law r, all_lawful read law rows)

module _ (c : ExactCurve) (one : 1 ≤ c.whole) (range : (t : ℕ) → 1 ≤ t → Between (least, most) (exact_growth c t)) where
  -- what the curve so far encloses
  record Held (T : Tables) : Type 0 where
    factors : (σ : Side) (t : ℕ) → t ≤ T.last → Bounds σ (factor_of T σ t) (exact_factor (exact_growth c) t)
    growths : (σ : Side) (t : ℕ) → 1 ≤ t → t ≤ T.last → Bounds σ (growth_of T σ t) (exact_growth c t)
    goes_on : (σ : Side) (t : ℕ) → 1 ≤ T.last → T.last < t → t ≤ 120 → Bounds σ (growth_of T σ t) (exact_growth c T.last)

  held_start : Held unstripped
  unfolding unstripped exact_factor
  held_start = record {
    factors = λ σ t h. let e : t ≡ 0 = omega arith in rw e (start σ);
    growths = λ σ t h l. absurd (omega arith);
    goes_on = λ σ t h l m. absurd (omega arith);
  }
    where
      start : (σ : Side) → Bounds σ (side_of σ (unit, unit)) (fraction 1 1)
      start Low = omega arith
      start High = omega arith

  same_growth : (σ : Side) (g a b : ℕ) → c.part a ≡ c.part b → Bounds σ g (exact_growth c b) → Bounds σ g (exact_growth c a)
  same_growth σ g a b e by = subst (λ n. Bounds σ g (fraction (c.whole + n) c.whole)) (sym e) by

  module _ (T : Tables) (o : Ordered T) (held : Held T) (x : Meaning) (law : Lawful x) (same : (t : ℕ) → T.last < t → t ≤ x.maturity → c.part t ≡ c.part x.maturity)
      (price : Rattle.curve.specs.Exact.Priced c x) (growths : ℕ × ℕ) (a : Accepted (worth_at T x) x growths) where
    are : (σ : Side) → side_of σ growths ≡ found (worth_at T x) x.price σ
    are Low = a.low_is
    are High = a.high_is

    new_growth : (σ : Side) → Bounds σ (side_of σ growths) (exact_growth c x.maturity)
    new_growth = growths_bound T x law c one same (range x.maturity law.one_year) price held.factors growths are

    late_growth : (t : ℕ) → t ≤ 120 → T.last < t → entry (extended T x growths).growths t ≡ growths
    late_growth t h late = growths_entry T o x law growths a t h ∙ cond-false (leb t T.last) (entry T.growths t) growths (lt-leb _ _ late)

    factor_at : (σ : Side) (t : ℕ) → t ≤ x.maturity → Bounds σ (side_of σ (extended_factors T x growths t)) (exact_factor (exact_growth c) t)
    factor_at σ t h = cond_both (eqb t x.maturity) (pair (tightened T x growths)) _ (λ p. Bounds σ (side_of σ p) (exact_factor (exact_growth c) t))
        (λ e. at_maturity σ (eqb-true _ _ e))
        (λ e. cond_both (ltb T.last t && leb t x.maturity) (pair (λ τ. stepped T growths τ t)) (entry T.factors t) (λ p. Bounds σ (side_of σ p) (exact_factor (exact_growth c) t))
        (λ d. inside σ) (λ d. elim (and_cases (ltb T.last t) (leb t x.maturity) d) [ inl yet ↦ held.factors σ t (ltb-false _ _ yet) | inr past ↦ absurd (omega (arith, leb-false _ _ past)) ]))
      where
        tight : (τ : Side) → Bounds τ (tightened T x growths τ) (exact_factor (exact_growth c) x.maturity)
        tight = tightened_bounds T x law c one same (range x.maturity law.one_year) price held.factors growths are

        at_maturity : (τ : Side) → t ≡ x.maturity → Bounds τ (side_of τ (pair (tightened T x growths))) (exact_factor (exact_growth c) t)
        at_maturity Low e = rw e (tight Low)
        at_maturity High e = rw e (tight High)

        inside : (τ : Side) → Bounds τ (side_of τ (pair (λ τ. stepped T growths τ t))) (exact_factor (exact_growth c) t)
        inside Low = stepped_bounds T x law c one same (range x.maturity law.one_year) price held.factors growths are Low t h
        inside High = stepped_bounds T x law c one same (range x.maturity law.one_year) price held.factors growths are High t h

    extended_last : (extended T x growths).last ≡ x.maturity
    unfolding extended
    extended_last = refl

    held_extended : Held (extended T x growths)
    held_extended = record {
      factors = λ σ t h. let within : t ≤ x.maturity = omega (arith, extended_last) in rw (factors_entry T o x law growths a t (omega (arith, law.ninety_years))) (factor_at σ t within);
      growths = λ σ t pos h. let within : t ≤ x.maturity = omega (arith, extended_last) in elim (cases_lt T.last t) [
        | inl late ↦ rw (late_growth t (omega (arith, law.ninety_years)) late) (same_growth σ (side_of σ growths) t x.maturity (same t late within) (new_growth σ))
        | inr yet ↦ rw (growths_entry T o x law growths a t (omega (arith, law.ninety_years)) ∙ cond-true (leb t T.last) (entry T.growths t) growths (le-leb _ _ yet)) (held.growths σ t pos yet)
      ];
      goes_on = λ σ t pos late h. rw (late_growth t h (omega (arith, extended_last, gap_rises T o x law growths a)), extended_last) (new_growth σ);
    }

  -- from a curve that encloses on, what stripping the rest tells
  strip_tells : (xs : List Meaning) (T : Tables) → Ordered T → Held T → AllLawful xs → Level c T.last xs → AllPriced c xs → Tells (exact_growth c) (strip_from T xs)
  unfolding strip_from with_gap
  strip_tells [] T o held laws level priced = record {
    forwards = λ held_one t pos h. elim (cases_lt T.last t) [
      | inl late ↦ (same_growth Low _ t T.last (level t late) (held.goes_on Low t held_one late h), same_growth High _ t T.last (level t late) (held.goes_on High t held_one late h))
      | inr yet ↦ (held.growths Low t pos yet, held.growths High t pos yet)
    ];
    factors = λ t h. (held.factors Low t h, held.factors High t h);
  }
  strip_tells (x ∷ xs) T o held laws level priced = go (strip_tells xs) (found_growths (worth_at T x) x) refl
    where
      go : ((N : Tables) → Ordered N → Held N → AllLawful xs → Level c N.last xs → AllPriced c xs → Tells (exact_growth c) (strip_from N xs)) → (v : Result (ℕ × ℕ) Refusal) → found_growths (worth_at T x) x ≡ v
          → Tells (exact_growth c) (and_then (ok_map (extended T x) v) (λ N. strip_from N xs))
      go rest (Ok growths) e =
          let a = accepted (worth_at T x) x growths e in
          rest (extended T x growths) (extended_ordered T o x laws.0 growths a) (held_extended T o held x laws.0 level.0 priced.0 growths a) laws.1 (rw (extended_last T o held x laws.0 level.0 priced.0 growths a) level.1) priced.1
      go rest (Err r) e =
          let why = refused_why (worth_at T x) x r e in
          let at_end = range x.maturity laws.0.one_year in
          let fails = test_fails T x laws.0 c one level.0 at_end priced.0 held.factors in
          ((λ n. fails High least (omega arith) at_end.0 (why.0 n)), (λ n. fails Low most (omega arith) at_end.1 (why.1 n)))

pub stripped_tells : (xs : List Meaning) → AllLawful xs → Ordered unstripped → (c : ExactCurve) → Admitted xs c → Tells (exact_growth c) (strip_from unstripped xs)
unfolding unstripped
stripped_tells xs laws o c a = strip_tells c a.one_whole a.in_range xs unstripped o (held_start c a.one_whole a.in_range) laws a.level a.priced

-- the equation with the definition, and what it tells of an admitted curve
pub record Promised {Row : Type 0} (read : Row → Meaning) (rows : List Row) (v : Result Tables Refusal) : Type 0 where
  pub curve : v ≡ stripped (map read rows)
  pub encloses : (c : ExactCurve) → Admitted (map read rows) c → Tells (exact_growth c) v

-- so is what the code strips from its first curve
pub promised : {Row : Type 0} (read : Row → Meaning) (lawful : (r : Row) → Lawful (read r)) (rows : List Row) (v : Result Tables Refusal) → v ≡ strip_from (held_on unstripped) (map read rows) → Promised read rows v
promised read lawful rows v start =
    let e : v ≡ stripped (map read rows) = start ∙ ap (λ T. strip_from T (map read rows)) start_held in
    record { curve = e; encloses = λ c a. subst (Tells (exact_growth c)) (sym e) (stripped_tells (map read rows) (all_lawful read lawful rows) start_ordered c a) }
