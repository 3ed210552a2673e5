-- The code's gap and tables against the definition of a curve with one gap more.
use Rattle.std.proofs.Common.{◌≡◌, ℕ, ◌+◌, ◌-◌, ◌<◌, ◌≤◌, true, false, cond, ◌&&◌, eqb, ltb, leb, ◌≢◌, List, length, replicate, set, Ok, Err, sym, refl, ap, ◌∙◌, subst, inl, inr, arith, length-set, get_or-set_other, get_or-set_same}
use borrow.Rule.Slice.PartMut.{put_mid}
use mathlib.Core.Path.{fun_ext}
use Rattle.std.proofs.lemmas.List.{places}
use Rattle.std.proofs.lemmas.List.FromFn.{fill_by_all}
use Rattle.std.proofs.lemmas.Bool.{cases_lt, cond_both, cond-true, le-leb, and_parts, and_cases, leb-true, ltb-false, leb-false, eqb-true, eqb-false}
use Rattle.instruments.specs.Law.{Meaning, Lawful, ok_map}
use Rattle.instruments.specs.declared.refusal.Refusal.{Refusal}
use Rattle.curve.specs.Steps.{side_of, opposite, pair}
use Rattle.curve.specs.Worths.{continued, level, worth, gap_worth}
use Rattle.curve.specs.Market.{by_year, entry, factor_of, worth_at, found_growths, discounted_on, stepped, tightened, tightened_by, extended, extended_growths, extended_factors, with_gap, InRange, Discounting, Ordered}
use Rattle.curve.specs.Gaps.{worth_of, held_on}
use Rattle.curve.specs.declared.discount.Curve.{Curve}
use Rattle.curve.specs.declared.gap.Gap.{Gap}
use Rattle.curve.specs.declared.side.Side.{Side}
use Rattle.curve.specs.declared.side.Side.TheVariants.{Low, High}
use Rattle.curve.specs.declared.tables.Tables.{Tables}
use Rattle.curve.proofs.Continuation.{continued_known, continued_same, worth_same}
use Rattle.curve.proofs.Verdict.{Accepted, accepted}
use Rattle.curve.proofs.Gaps.{gap_worth_is}
use Rattle.curve.proofs.Shares.{pair_side}

-- a table that has f t in each year t is the table of f
pub table_is : (f : ℕ → ℕ × ℕ) (table : List (ℕ × ℕ)) → length table ≡ 121 → ((t : ℕ) → t < 121 → entry table t ≡ f t) → table ≡ by_year f
unfolding by_year
table_is f table long same = fill_by_all f table 121 (0, 0) long same

-- the worths w of a gap, whose instrument means y, are those of x at the curve
pub record Opened (T : Tables) (x : Meaning) (w : Side → ℕ → ℕ) (y : Meaning) : Type 0 where
  worths : w ≡ worth_at T x
  pub same : y ≡ x

-- those of a new gap are
pub opened : {K : Type 0} (means : K → Meaning) (curve : Curve) (i : K) → Lawful (means i) → (gap : Gap K)
    → record { same : gap.instrument ≡ i; year : gap.last ≡ curve.tables.last; begun : gap.start ≡ entry curve.tables.factors curve.tables.last; summed : gap.known ≡ pair (λ σ. worth (means i).payment (factor_of curve.tables σ) curve.tables.last) }
    → Opened curve.tables (means i) (worth_of means gap) (means gap.instrument)
opened means curve i law gap n = record {
  worths = (λ j. gap_worth gap.known gap.start (n.year j) (means (n.same j))) ∙ gap_worth_is curve.tables curve.ordered (means i) law gap.known gap.start n.summed n.begun;
  same = ap means n.same;
}

module _ {T : Tables} {x : Meaning} {w : Side → ℕ → ℕ} {y : Meaning} (gap_is : Opened T x w y) where
  verdict : found_growths w y ≡ found_growths (worth_at T x) x
  verdict = λ i. found_growths (gap_is.worths i) (gap_is.same i)

  pub refused_alike : (r : Refusal) → Err r ≡ found_growths w y → Err r ≡ with_gap T x
  unfolding with_gap
  refused_alike r e = ap (ok_map (extended T x)) (e ∙ verdict)

  pub accepted_alike : (growths : ℕ × ℕ) → Ok growths ≡ found_growths w y → Accepted (worth_at T x) x growths
  accepted_alike growths e = accepted (worth_at T x) x growths (sym (e ∙ verdict))

  pub extends_alike : (growths : ℕ × ℕ) → Ok growths ≡ found_growths w y → Ok (extended T x growths) ≡ with_gap T x
  unfolding with_gap
  extends_alike growths e = ap (ok_map (extended T x)) (e ∙ verdict)

  -- tables whose factors go on to maturity by its steps
  module _ (growths : ℕ × ℕ) (D : Tables) (on : (t : ℕ) → t ≤ x.maturity → entry D.factors t ≡ pair (λ σ. stepped T growths σ t)) where
    pub step_is : (σ : Side) (t : ℕ) → t ≤ x.maturity → factor_of D σ t ≡ stepped T growths σ t
    step_is σ t h = ap (side_of σ) (on t h) ∙ pair_side (λ τ. stepped T growths τ t) σ

    -- up to the curve's last year they are the curve's
    pub known_alike : T.last ≤ x.maturity → (known : ℕ × ℕ) → known ≡ pair (λ σ. worth x.payment (factor_of T σ) T.last) → known ≡ pair (λ σ. worth x.payment (factor_of D σ) T.last)
    unfolding stepped
    known_alike within known is = is ∙ (λ i. (side Low i, side High i))
      where
        side : (σ : Side) → worth x.payment (factor_of T σ) T.last ≡ worth x.payment (factor_of D σ) T.last
        side σ = sym (worth_same x.payment (factor_of D σ) (factor_of T σ) T.last (λ t h. step_is σ t (omega arith) ∙ continued_known σ (factor_of T σ) T.last (level (side_of (opposite σ) growths)) t h))

    pub tightened_alike : pair (λ σ. tightened_by y σ (factor_of D σ y.maturity) (worth y.payment (factor_of D (opposite σ)) (y.maturity - 1))) ≡ pair (tightened T x growths)
    unfolding tightened
    tightened_alike =
        (λ i. pair (λ σ. tightened_by (gap_is.same i) σ (factor_of D σ (gap_is.same i).maturity) (worth (gap_is.same i).payment (factor_of D (opposite σ)) ((gap_is.same i).maturity - 1)))) ∙ (λ i. (side Low i, side High i))
      where
        rest : (σ : Side) → worth x.payment (factor_of D σ) (x.maturity - 1) ≡ worth x.payment (stepped T growths σ) (x.maturity - 1)
        rest σ = worth_same x.payment (factor_of D σ) (stepped T growths σ) (x.maturity - 1) (λ t h. step_is σ t (omega arith))

        side : (σ : Side) → tightened_by x σ (factor_of D σ x.maturity) (worth x.payment (factor_of D (opposite σ)) (x.maturity - 1)) ≡ tightened T x growths σ
        side σ = λ i. tightened_by x σ (step_is σ x.maturity (omega arith) i) (rest (opposite σ) i)

-- the code's tables, entry by entry
-- growths that are those of a curve up to its last year and after year m, and the gap's between
pub record Spread (T : Tables) (growths : ℕ × ℕ) (m : ℕ) (table : List (ℕ × ℕ)) : Type 0 where
  pub rises : T.last < m
  pub kept : (t : ℕ) → t ≤ T.last → entry table t ≡ entry T.growths t
  pub late : (t : ℕ) → T.last < t → t ≤ m → entry table t ≡ growths
  pub past : (t : ℕ) → m < t → t ≤ 120 → entry table t ≡ entry T.growths t

module _ {T : Tables} {growths : ℕ × ℕ} {m : ℕ} {table : List (ℕ × ℕ)} (over : Spread T growths m table) where
  -- what holds of all of them
  pub spread_all : (P : ℕ × ℕ → Type 0) → ((t : ℕ) → t ≤ 120 → P (entry T.growths t)) → P growths → (t : ℕ) → t ≤ 120 → P (entry table t)
  spread_all P each gap t h = elim (cases_lt T.last t) [
    | inl more ↦ elim (cases_lt m t) [ inl past ↦ subst P (sym (over.past t past h)) (each t h) | inr within ↦ subst P (sym (over.late t more within)) gap ]
    | inr early ↦ subst P (sym (over.kept t early)) (each t h)
  ]

  -- once those of year m hold from there on
  spread_held : (t : ℕ) → cond (leb t m) (entry table t) (entry table m) ≡ extended_growths T growths t
  spread_held t = cond_both (leb t T.last) (entry T.growths t) growths (λ z. cond (leb t m) (entry table t) (entry table m) ≡ z)
      (λ e. cond-true (leb t m) (entry table t) (entry table m) (le-leb t m (omega (arith, leb-true _ _ e, over.rises))) ∙ over.kept t (leb-true _ _ e))
      (λ e. cond_both (leb t m) (entry table t) (entry table m) (λ z. z ≡ growths) (λ d. over.late t (leb-false _ _ e) (leb-true _ _ d)) (λ d. over.late m over.rises (omega arith)))

-- the growths of k years after the last, written over
abbrev pub spread : Tables → ℕ × ℕ → ℕ → ℕ → List (ℕ × ℕ)
spread T growths k n = put_mid (T.last + 1) k T.growths (replicate n growths)

module _ (T : Tables) (growths : ℕ × ℕ) where
  module _ (k n : ℕ) (within : T.last + k ≤ 120) (long : length T.growths ≡ 121) (rest : n ≡ k) where
    spread_long : length (spread T growths k n) ≡ 121
    spread_long = grind (arith, places)

    spread_kept : (t : ℕ) → t ≤ T.last → entry (spread T growths k n) t ≡ entry T.growths t
    spread_kept t h = grind (arith, places)

    spread_late : (t : ℕ) → T.last < t → t ≤ T.last + k → entry (spread T growths k n) t ≡ growths
    spread_late t h e = grind (arith, places)

    spread_past : (t : ℕ) → T.last + k < t → t ≤ 120 → entry (spread T growths k n) t ≡ entry T.growths t
    spread_past t h e = grind (arith, places)

    pub spread_over : (m : ℕ) → T.last < m → m ≡ T.last + k → Spread T growths m (spread T growths k n)
    spread_over m rises all = record { rises = rises; kept = spread_kept; late = λ t h e. spread_late t h (omega arith); past = λ t h e. spread_past t (omega arith) e }

    pub spread_alike : k ≡ 120 - T.last → spread T growths k n ≡ by_year (extended_growths T growths)
    spread_alike all = table_is (extended_growths T growths) (spread T growths k n) spread_long
        (λ t h. cond_both (leb t T.last) (entry T.growths t) growths (λ z. entry (spread T growths k n) t ≡ z) (λ e. spread_kept t (leb-true _ _ e)) (λ e. spread_late t (leb-false _ _ e) (omega arith)))

  -- a gap whose years have its growths goes on by its steps
  pub steps_alike : (table : List (ℕ × ℕ)) (t : ℕ) → ((u : ℕ) → T.last < u → u ≤ t → entry table u ≡ growths)
      → discounted_on (record { last = T.last; growths = table; factors = T.factors }) T.last t ≡ pair (λ σ. stepped T growths σ t)
  unfolding stepped
  steps_alike table t are = λ i. (side Low i, side High i)
    where
      side : (σ : Side) → continued σ (factor_of T σ) T.last (λ u. side_of (opposite σ) (entry table u)) t ≡ stepped T growths σ t
      side σ = continued_same σ (factor_of T σ) (factor_of T σ) T.last _ _ t (λ u b. refl) (λ u late b. ap (side_of (opposite σ)) (are u late b))

module _ (T : Tables) (x : Meaning) (law : Lawful x) (growths : ℕ × ℕ) where
  pub factors_alike : (table : List (ℕ × ℕ)) (tight : ℕ × ℕ) → length table ≡ 121 → ((t : ℕ) → t ≤ x.maturity → entry table t ≡ pair (λ σ. stepped T growths σ t))
      → ((t : ℕ) → x.maturity < t → entry table t ≡ entry T.factors t) → tight ≡ pair (tightened T x growths) → set table x.maturity tight ≡ by_year (extended_factors T x growths)
  unfolding stepped
  factors_alike table tight long reached later is-tight = table_is (extended_factors T x growths) (set table x.maturity tight) (length-set table x.maturity tight ∙ long) each
    where
      others : (t : ℕ) → t ≢ x.maturity → entry (set table x.maturity tight) t ≡ entry table t
      others t ne = get_or-set_other table x.maturity t tight (0, 0) ne

      known : (t : ℕ) → t ≤ T.last → pair (λ σ. stepped T growths σ t) ≡ entry T.factors t
      known t h =
          let side = λ (σ : Side). continued_known σ (factor_of T σ) T.last (level (side_of (opposite σ) growths)) t h in
          λ i. (side Low i, side High i)

      outer : (t : ℕ) → (ltb T.last t && leb t x.maturity) ≡ false → entry table t ≡ entry T.factors t
      outer t e = elim (cases_lt x.maturity t) [
        | inl past ↦ later t past
        | inr yet ↦ elim (and_cases (ltb T.last t) (leb t x.maturity) e) [ inl early ↦ reached t yet ∙ known t (ltb-false _ _ early) | inr past ↦ later t (leb-false _ _ past) ]
      ]

      inside : (t : ℕ) → (ltb T.last t && leb t x.maturity) ≡ true → entry table t ≡ pair (λ σ. stepped T growths σ t)
      inside t e = reached t (leb-true _ _ (and_parts (ltb T.last t) (leb t x.maturity) e).1)

      each : (t : ℕ) → t < 121 → entry (set table x.maturity tight) t ≡ extended_factors T x growths t
      each t h = cond_both (eqb t x.maturity) (pair (tightened T x growths)) _ (λ z. entry (set table x.maturity tight) t ≡ z)
          (λ e. ap (entry (set table x.maturity tight)) (eqb-true _ _ e) ∙ get_or-set_same table x.maturity tight (0, 0) (omega (arith, law.ninety_years)) ∙ is-tight)
          (λ e. cond_both (ltb T.last t && leb t x.maturity) (pair (λ σ. stepped T growths σ t)) (entry T.factors t) (λ z. entry (set table x.maturity tight) t ≡ z)
          (λ d. others t (eqb-false _ _ e) ∙ inside t d) (λ d. others t (eqb-false _ _ e) ∙ outer t d))

  -- the code's tables once the factors at maturity are tightened
  pub tables_alike : (D : Tables) (m : ℕ) (tight : ℕ × ℕ) → m ≡ x.maturity → Spread T growths m D.growths → length D.factors ≡ 121
      → ((t : ℕ) → t ≤ m → entry D.factors t ≡ pair (λ σ. stepped T growths σ t)) → ((t : ℕ) → m < t → entry D.factors t ≡ entry T.factors t) → tight ≡ pair (tightened T x growths)
      → held_on (record { last = m; growths = D.growths; factors = set D.factors m tight }) ≡ extended T x growths
  unfolding extended
  tables_alike D m tight m_is over long reached later is-tight =
      let table = factors_alike D.factors tight long (λ t h. reached t (omega arith)) (λ t h. later t (omega arith)) is-tight in
      λ i. record { last = m_is i; growths = by_year (fun_ext (spread_held over) i); factors = (ap (λ m. set D.factors m tight) m_is ∙ table) i }

  -- they are ordered already
  pub tables_ordered : Ordered T → InRange growths → growths.1 ≤ growths.0 + 1000 → (E : Tables) → Spread T growths E.last E.growths → held_on E ≡ extended T x growths → Ordered (extended T x growths) → Ordered E
  tables_ordered o range near E over held all = record {
    ends = subst (λ N. N.last ≤ 120) (sym held) all.ends;
    growing = spread_all over InRange o.growing range;
    near = spread_all over (λ p. p.1 ≤ p.0 + 1000) o.near near;
    discounting = subst Discounting (sym held) all.discounting;
  }
