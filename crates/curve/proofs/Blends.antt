-- Weighing with the ultimate growth keeps a figure on its side, and an exact growth in the range.
use Rattle.std.proofs.Common.{◌≡◌, ℕ, zero, suc, ◌+◌, ◌-◌, ◌*◌, ◌≤◌, min, leb, Some, None, Option, refl, ap, ◌∙◌, inl, inr, mul-le-mul, arith}
use Rattle.std.proofs.lemmas.Bool.{cases_lt, cond_both, cond-true, leb-true, le-leb}
use Rattle.curve.specs.Range.{unit, least, most, place}
use Rattle.curve.specs.Steps.{side_of, opposite, pair, quotient}
use Rattle.curve.specs.Market.{entry, by_year, factor_of, growth_of, Ordered}
use Rattle.curve.specs.Blending.{ultimate, weight, blended_growth, discount_growth, discount_factor, discount}
use Rattle.curve.specs.Exact.{Fraction, Between, exact_factor, exact_blend, exact_discount, Possible, Encloses}
use Rattle.curve.specs.declared.side.Side.{Side}
use Rattle.curve.specs.declared.side.Side.TheVariants.{Low, High}
use Rattle.curve.specs.declared.tables.Tables.{Tables}
use Rattle.curve.proofs.Outward.{Outside, outside_trans, outside_mul, quotient_outside}
use Rattle.curve.proofs.Gaps.{entry_by_year}
use Rattle.curve.proofs.Admission.{factor_bottom}
use Rattle.curve.proofs.Enclosure.{Bounds, outside_add, outside_same, outside_cancel, continued_bounds}

-- a weighed figure, rounded outwards or not, lies on its side of the weighed growth
mixed_bounds : (σ : Side) (q g u n k : ℕ) (x : Fraction) → Outside σ (q * n) ((n - k) * g + k * u) → Outside σ u ultimate → Bounds σ g x → Bounds σ q (exact_blend (k, n) x)
mixed_bounds σ q g u n k x by end p =
    let b = x.bottom in
    outside_same σ ((q * n) * (b * unit)) (((n - k) * unit) * (unit * x.top) + ultimate * (k * b * unit)) (q * (n * b * unit)) (unit * ((n - k) * x.top * unit + k * ultimate * b)) (omega arith) (omega arith)
    (outside_trans σ ((q * n) * (b * unit)) (((n - k) * g + k * u) * (b * unit)) (((n - k) * unit) * (unit * x.top) + ultimate * (k * b * unit)) (outside_mul σ (q * n) ((n - k) * g + k * u) (b * unit) by)
    (outside_same σ ((g * b) * ((n - k) * unit) + u * (k * b * unit)) ((unit * x.top) * ((n - k) * unit) + ultimate * (k * b * unit)) (((n - k) * g + k * u) * (b * unit)) (((n - k) * unit) * (unit * x.top) + ultimate * (k * b * unit)) (omega arith) (omega arith)
    (outside_add σ ((g * b) * ((n - k) * unit)) (u * (k * b * unit)) ((unit * x.top) * ((n - k) * unit)) (ultimate * (k * b * unit)) (outside_mul σ (g * b) (unit * x.top) ((n - k) * unit) p) (outside_mul σ u ultimate (k * b * unit) end))))

outside_self : (σ : Side) (x : ℕ) → Outside σ x x
outside_self Low x = omega arith
outside_self High x = omega arith

pub blend_bounds : (σ : Side) (g : ℕ) (share : ℕ × ℕ) (x : Fraction) → 1 ≤ share.1 → Bounds σ g x → Bounds σ (blended_growth σ share g) (exact_blend share x)
unfolding blended_growth
blend_bounds σ g share x one p =
    let sum = (share.1 - share.0) * g + share.0 * ultimate in
    mixed_bounds σ (quotient σ sum share.1) g ultimate share.1 share.0 x (quotient_outside σ sum share.1 one) (outside_self σ ultimate) p

-- the ends of the range are weighed with no rounding
ends_outside : (σ : Side) → Outside σ (place σ 0) ultimate
ends_outside Low = omega arith
ends_outside High = omega arith

pub ends_blend : (σ : Side) (share : ℕ × ℕ) (x : Fraction) → share.0 ≤ share.1 → Bounds σ (place σ 0) x → Bounds σ (place σ 0) (exact_blend share x)
ends_blend σ share x fits p =
    let whole : share.1 ≡ (share.1 - share.0) + share.0 = omega arith in
    mixed_bounds σ (place σ 0) (place σ 0) (place σ 0) share.1 share.0 x
    (outside_same σ (place σ 0 * share.1) (place σ 0 * share.1) (place σ 0 * share.1) ((share.1 - share.0) * place σ 0 + share.0 * place σ 0) refl (omega (arith, ap (λ n. place σ 0 * n) whole)) (outside_self σ (place σ 0 * share.1)))
    (ends_outside σ) p

-- a weight is a part of a whole
abbrev Part : ℕ × ℕ → Type 0
Part share = (1 ≤ share.1) × (share.0 ≤ share.1)

pub weight_part : (span : Option (ℕ × ℕ)) (t : ℕ) → Part (weight span t)
weight_part None t = (omega arith, omega arith)
weight_part (Some (l, c)) t = cond_both (leb t l) (0, 1) _ Part (λ e. (omega arith, omega arith))
    (λ e. cond_both (leb t c) (t - l, c - l + 1) (1, 1) Part (λ d. (omega arith, omega (arith, leb-true _ _ d))) (λ d. (omega arith, omega arith)))

-- two fractions are the same number
abbrev Same : Fraction → Fraction → Type 0
Same x y = x.top * y.bottom ≡ y.top * x.bottom

bounds_same : (σ : Side) (q : ℕ) (x y : Fraction) → 1 ≤ x.bottom → Same x y → Bounds σ q x → Bounds σ q y
bounds_same σ q x y one e p =
    outside_cancel σ (q * y.bottom) (unit * y.top) x.bottom one
    (outside_same σ (q * x.bottom * y.bottom) (unit * x.top * y.bottom) (q * y.bottom * x.bottom) (unit * y.top * x.bottom) (omega arith) (omega (arith, e)) (outside_mul σ (q * x.bottom) (unit * x.top) y.bottom p))

unweighed_same : (x : Fraction) → Same x (exact_blend (0, 1) x)
unweighed_same x = omega arith

factor_same : (g h : ℕ → Fraction) (n : ℕ) → ((t : ℕ) → 1 ≤ t → t ≤ n → Same (g t) (h t)) → Same (exact_factor g n) (exact_factor h n)
unfolding exact_factor
factor_same g h zero same = refl
factor_same g h (suc n) same =
    let A = (exact_factor g n).top in let B = (exact_factor g n).bottom in let C = (exact_factor h n).top in let D = (exact_factor h n).bottom in
    let x = g (suc n) in let y = h (suc n) in
    let before : A * D ≡ C * B = factor_same g h n (λ t a b. same t a (omega arith)) in
    let here : x.top * y.bottom ≡ y.top * x.bottom = same (suc n) (omega arith) (omega arith) in
    let first : (A * x.bottom) * (D * y.top) ≡ (A * D) * (x.bottom * y.top) = omega arith in
    let second : (C * B) * (x.bottom * y.top) ≡ (C * B) * (x.top * y.bottom) = ap (λ n. C * B * n) (omega (arith, here)) in
    let third : (C * B) * (x.top * y.bottom) ≡ (C * y.bottom) * (B * x.top) = omega arith in
    first ∙ ap (λ n. n * (x.bottom * y.top)) before ∙ second ∙ third

pub possible_discount : (span : Option (ℕ × ℕ)) (growth : ℕ → Fraction) → Possible growth → Possible (exact_discount span growth)
possible_discount None growth p = record { solid = p.solid; ranged = p.ranged }
possible_discount (Some span) growth p = record {
  solid = λ t. omega (arith, mul-le-mul {n₁ = 1} {m₁ = 1} {n₂ = (weight (Some span) t).1} {m₂ = (growth t).bottom} (weight_part (Some span) t).0 (p.solid t));
  ranged = λ t h. (ends_blend Low (weight (Some span) t) (growth t) (weight_part (Some span) t).1 (p.ranged t h).0, ends_blend High (weight (Some span) t) (growth t) (weight_part (Some span) t).1 (p.ranged t h).1);
}

-- both sides of a pair of figures that enclose
bounds_of : (σ : Side) (figures : ℕ × ℕ) (x : Fraction) → Between figures x → Bounds σ (side_of σ figures) x
bounds_of Low figures x between = between.0
bounds_of High figures x between = between.1

positive_top : (x : Fraction) → 1 ≤ x.bottom → Between (least, most) x → 1 ≤ x.top
positive_top x one between = elim (cases_lt 0 x.top) [ inl more ↦ more | inr none ↦ absurd (omega (arith, between.0)) ]

pub possible_bottom : (growth : ℕ → Fraction) → Possible growth → (t : ℕ) → 1 ≤ (exact_factor growth t).bottom
possible_bottom growth p = factor_bottom growth (λ t h. positive_top (growth t) (p.solid t) (p.ranged t h))

-- the figures of the discount curve enclose the exact one
pub discount_encloses : (span : Option (ℕ × ℕ)) (T : Tables) (growth : ℕ → Fraction) → Possible growth → 1 ≤ T.last → Ordered (discount span T) → Encloses T growth → Encloses (discount span T) (exact_discount span growth)
unfolding discount
discount_encloses None T growth p held o e = record { forwards = e.forwards; factors = e.factors }
discount_encloses (Some (l, c)) T growth p held o e = record {
  forwards = λ one t pos h. rw (growth_entry t h) (growth_bounds Low t pos h, growth_bounds High t pos h);
  factors = λ t h. rw (entry_by_year (λ t. pair (λ σ. discount_factor (Some (l, c)) T (min l T.last) σ t)) t h) (factor_bounds Low t h, factor_bounds High t h);
}
  where
    growth_entry : (t : ℕ) → t ≤ 120 → entry (by_year (λ t. pair (λ σ. discount_growth (Some (l, c)) T σ t))) t ≡ pair (λ σ. discount_growth (Some (l, c)) T σ t)
    growth_entry t h = entry_by_year (λ t. pair (λ σ. discount_growth (Some (l, c)) T σ t)) t h

    growth_bounds : (σ : Side) (t : ℕ) → 1 ≤ t → t ≤ 120 → Bounds σ (discount_growth (Some (l, c)) T σ t) (exact_discount (Some (l, c)) growth t)
    growth_bounds σ t pos h = blend_bounds σ (growth_of T σ t) (weight (Some (l, c)) t) (growth t) (weight_part (Some (l, c)) t).0 (bounds_of σ (entry T.growths t) (growth t) (e.forwards held t pos h))

    growth_positive : (σ : Side) (t : ℕ) → t ≤ 120 → 1 ≤ discount_growth (Some (l, c)) T σ t
    growth_positive Low t h = let r = rw (growth_entry t h) at (o.growing t h) in omega (arith, r)
    growth_positive High t h = let r = rw (growth_entry t h) at (o.growing t h) in omega (arith, r)

    factor_positive : (t : ℕ) → 1 ≤ (exact_factor growth t).bottom
    factor_positive t = possible_bottom growth p t

    unweighed : (t : ℕ) → t ≤ l → weight (Some (l, c)) t ≡ (0, 1)
    unweighed t h = cond-true (leb t l) _ _ (le-leb t l h)

    known : (σ : Side) (t : ℕ) → t ≤ min l T.last → Bounds σ (factor_of T σ t) (exact_factor (exact_discount (Some (l, c)) growth) t)
    known σ t h = bounds_same σ (factor_of T σ t) (exact_factor growth t) (exact_factor (exact_discount (Some (l, c)) growth) t) (factor_positive t)
        (factor_same growth (exact_discount (Some (l, c)) growth) t (λ u a b. rw (unweighed u (omega arith)) (unweighed_same (growth u))))
        (bounds_of σ (entry T.factors t) (exact_factor growth t) (e.factors t (omega arith)))

    factor_bounds : (σ : Side) (t : ℕ) → t ≤ 120 → Bounds σ (discount_factor (Some (l, c)) T (min l T.last) σ t) (exact_factor (exact_discount (Some (l, c)) growth) t)
    factor_bounds σ t h = continued_bounds σ (factor_of T σ) (min l T.last) (discount_growth (Some (l, c)) T (opposite σ)) (exact_discount (Some (l, c)) growth) t (known σ)
        (λ u a b. growth_positive (opposite σ) u (omega arith)) (λ u a b. growth_bounds (opposite σ) u (omega arith) (omega arith))
