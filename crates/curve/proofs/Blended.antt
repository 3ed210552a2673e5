-- What holds of a blended curve's growths and factors.
use Rattle.std.proofs.Common.{◌≡◌, ℕ, ◌+◌, ◌<◌, ◌≤◌, min, List, length, Some, None, Option, sym, refl, ap, ◌∙◌, subst, arith}
use Rattle.curve.specs.Blending.{discount_growth, discount_factor, discount, horizon_tables}
use Rattle.curve.specs.Currencies.{blend_span}
use Rattle.curve.specs.Market.{entry, growth_of, factor_of, discounted_on, InRange, Ordered}
use Rattle.curve.specs.Range.{unit, least, most}
use Rattle.curve.specs.Steps.{side_of, opposite, pair}
use Rattle.curve.specs.declared.side.Side.{Side}
use Rattle.curve.specs.declared.side.Side.TheVariants.{Low, High}
use Rattle.curve.specs.declared.tables.Tables.{Tables}
use Rattle.curve.specs.declared.terms.Blend.{Blend}
use Rattle.curve.proofs.Bounds.{factor_small}
use Rattle.curve.proofs.Continuation.{continued_under, continued_small, continued_same}
use Rattle.curve.proofs.Gaps.{entry_by_year}
use Rattle.curve.proofs.Extension.{table_is}
use Rattle.curve.proofs.Weights.{weight_of, blended_range, blended_sides, blended_near}

side_of_pair : (σ : Side) (f : Side → ℕ) → side_of σ (pair f) ≡ f σ
side_of_pair Low f = refl
side_of_pair High f = refl

-- the discount curve with a blend
horizon_is : (b : Option Blend) (x : Blend) → b ≡ Some x → (T : Tables) (s : ℕ) → s ≡ min x.liquid T.last → horizon_tables (discount_growth (blend_span b) T) (discount_factor (blend_span b) T s) ≡ discount (blend_span b) T
unfolding discount
horizon_is None x e T s known = cc
horizon_is (Some y) x e T s known =
    let same : s ≡ min y.liquid T.last = cc in
    ap (λ k. horizon_tables (discount_growth (blend_span (Some y)) T) (discount_factor (blend_span (Some y)) T k)) same

module _ (b : Option Blend) (T : Tables) (o : Ordered T) where
  growth_range : (σ : Side) (t : ℕ) → t ≤ 120 → (least ≤ discount_growth (blend_span b) T σ t) × (discount_growth (blend_span b) T σ t ≤ most)
  growth_range Low t h = let r = o.growing t h in blended_range _ (weight_of b t) Low (growth_of T Low t) r.0 (omega (arith, r))
  growth_range High t h = let r = o.growing t h in blended_range _ (weight_of b t) High (growth_of T High t) (omega (arith, r)) r.2

  growth_sides : (t : ℕ) → t ≤ 120 → discount_growth (blend_span b) T Low t ≤ discount_growth (blend_span b) T High t
  growth_sides t h = blended_sides _ (weight_of b t) (growth_of T Low t) (growth_of T High t) (o.growing t h).1

  pub growths_range : (t : ℕ) → t ≤ 120 → InRange (pair (λ σ. discount_growth (blend_span b) T σ t))
  growths_range t h = ((growth_range Low t h).0, growth_sides t h, (growth_range High t h).1)

  pub growths_near : (t : ℕ) → t ≤ 120 → discount_growth (blend_span b) T High t ≤ discount_growth (blend_span b) T Low t + 1000
  growths_near t h = blended_near _ (weight_of b t) (growth_of T Low t) (growth_of T High t) (o.near t h)

  module _ (s : ℕ) (within : s ≤ 120) where
    factor_unit : (σ : Side) (t : ℕ) → t ≤ 120 → discount_factor (blend_span b) T s σ t ≤ unit
    factor_unit σ t h = continued_small σ (factor_of T σ) s (discount_growth (blend_span b) T (opposite σ)) unit t
        (λ u a. factor_small T o σ u (omega arith)) (λ u a e. (growth_range (opposite σ) u (omega arith)).0)

    pub factors_ordered : (t : ℕ) → t ≤ 120 → (discount_factor (blend_span b) T s Low t ≤ discount_factor (blend_span b) T s High t) × (discount_factor (blend_span b) T s High t ≤ unit)
    factors_ordered t h = (
      continued_under Low High tt (factor_of T Low) (factor_of T High) s (discount_growth (blend_span b) T High) (discount_growth (blend_span b) T Low) t
          (λ u a. (o.discounting u (omega arith)).0) (λ u a e. omega (arith, (growth_range Low u (omega arith)).0)) (λ u a e. growth_sides u (omega arith)),
      factor_unit High t h,
    )

-- a blended curve is ordered
pub discount_ordered : (b : Option Blend) (T : Tables) → Ordered T → Ordered (discount (blend_span b) T)
unfolding discount
discount_ordered None T o = o
discount_ordered (Some x) T o = record {
  ends = omega arith;
  growing = λ t h. rw (entry_by_year (λ u. pair (λ σ. discount_growth (blend_span (Some x)) T σ u)) t h) (growths_range (Some x) T o t h);
  near = λ t h. rw (entry_by_year (λ u. pair (λ σ. discount_growth (blend_span (Some x)) T σ u)) t h) (growths_near (Some x) T o t h);
  discounting = λ t h. rw (entry_by_year (λ u. pair (λ σ. discount_factor (blend_span (Some x)) T (min x.liquid T.last) σ u)) t h) (factors_ordered (Some x) T o (min x.liquid T.last) (omega (arith, o.ends)) t h);
}

module _ (b : Option Blend) (T : Tables) (growths : List (ℕ × ℕ)) (are : (t : ℕ) → t < 121 → entry growths t ≡ pair (λ σ. discount_growth (blend_span b) T σ t)) where
  -- blended growths lie in the range
  pub blended_growing : Ordered T → (t : ℕ) → t ≤ 120 → InRange (entry growths t)
  blended_growing o t h = subst InRange (sym (are t (omega arith))) (growths_range b T o t h)

  -- the market's factors up to year s go on by them
  blended_factor : (s t : ℕ) → t < 121 → discounted_on (record { last = T.last; growths = growths; factors = T.factors }) s t ≡ pair (λ σ. discount_factor (blend_span b) T s σ t)
  blended_factor s t h =
      let side = λ (σ : Side). continued_same σ (factor_of T σ) (factor_of T σ) s (λ u. side_of (opposite σ) (entry growths u)) (discount_growth (blend_span b) T (opposite σ)) t (λ u a. refl)
      (λ u late a. ap (side_of (opposite σ)) (are u (omega arith)) ∙ side_of_pair (opposite σ) (λ τ. discount_growth (blend_span b) T τ u)) in
      λ i. (side Low i, side High i)

  -- such tables are those of the discount curve
  pub discount_is : (x : Blend) → b ≡ Some x → (s : ℕ) → s ≡ min x.liquid T.last → (factors : List (ℕ × ℕ)) → length growths ≡ 121 → length factors ≡ 121
      → ((t : ℕ) → t ≤ 120 → entry factors t ≡ discounted_on (record { last = T.last; growths = growths; factors = T.factors }) s t)
      → record { last = 120; growths = growths; factors = factors } ≡ discount (blend_span b) T
  discount_is x e s known factors m n on =
      let all_growths = table_is (λ t. pair (λ σ. discount_growth (blend_span b) T σ t)) growths m are in
      let all_factors = table_is (λ t. pair (λ σ. discount_factor (blend_span b) T s σ t)) factors n (λ t h. on t (omega arith) ∙ blended_factor s t h) in
      (λ i. record { last = 120; growths = all_growths i; factors = all_factors i }) ∙ horizon_is b x e T s known
