-- What holds of a growth weighed with the ultimate one.
use Rattle.std.proofs.Common.{◌≡◌, ℕ, ◌+◌, ◌-◌, ◌*◌, ◌<◌, ◌≤◌, true, leb, Some, None, Option, sym, ap, ◌∙◌, add-mul, mul-le-mul_left, mul-add, arith}
use native.Mathlib.Nat.{lt-div-mul-add}
use Rattle.std.proofs.lemmas.Bool.{cond_both, cond-false, lt-leb, leb-true, leb-false, ltb-true, true≢false}
use Rattle.curve.specs.Blending.{weight, ultimate, blended_growth}
use Rattle.curve.specs.Currencies.{blend_span, after_convergence}
use Rattle.curve.specs.Range.{least, most}
use Rattle.curve.specs.Steps.{quotient}
use Rattle.curve.specs.declared.side.Side.{Side}
use Rattle.curve.specs.declared.side.Side.TheVariants.{Low, High}
use Rattle.curve.specs.declared.terms.Blend.{Blend}
use Rattle.curve.proofs.Outward.{quotient_inmost, quotient_rises, quotient_sides}

-- a weight of k parts of n: n is not 0, k at most n, and n not large if k is small
pub record Weight (w : ℕ × ℕ) : Type 0 where
  pub whole : 1 ≤ w.1
  pub part : w.0 ≤ w.1
  pub fine : w.1 ≤ 1000 * w.0 + 1

pub weight_of : (b : Option Blend) (t : ℕ) → Weight (weight (blend_span b) t)
weight_of None t = record { whole = omega arith; part = omega arith; fine = omega arith }
weight_of (Some b) t =
    cond_both (leb t b.liquid) _ _ Weight (λ _. record { whole = omega arith; part = omega arith; fine = omega arith })
    (λ late. cond_both (leb t b.convergence) _ _ Weight
    (λ yet. record { whole = omega arith; part = omega (arith, leb-true _ _ yet); fine = omega (arith, b.ends, leb-false _ _ late) })
    (λ _. record { whole = omega arith; part = omega arith; fine = omega arith }))

-- a sum of weighed growths lies between the weighed ends of the range
weighed_range : (k n g : ℕ) → k ≤ n → least ≤ g → g ≤ most → (least * n ≤ (n - k) * g + k * ultimate) × ((n - k) * g + k * ultimate ≤ most * n)
weighed_range k n g h low high = (omega (arith, mul-le-mul_left (n - k) low), omega (arith, mul-le-mul_left (n - k) high))

-- a quotient lies between what the dividend lies between, on either side
quotient_range : (σ : Side) (a n low high : ℕ) → 1 ≤ n → low * n ≤ a → a ≤ high * n → (low ≤ quotient σ a n) × (quotient σ a n ≤ high)
quotient_range Low a n low high h l u = (quotient_inmost Low a n low h l, omega (arith, quotient_sides a n h, quotient_inmost High a n high h u))
quotient_range High a n low high h l u = (omega (arith, quotient_sides a n h, quotient_inmost Low a n low h l), quotient_inmost High a n high h u)

module _ (w : ℕ × ℕ) (is : Weight w) where
  pub blended_range : (σ : Side) (g : ℕ) → least ≤ g → g ≤ most → (least ≤ blended_growth σ w g) × (blended_growth σ w g ≤ most)
  unfolding blended_growth
  blended_range σ g low high =
      let a = weighed_range w.0 w.1 g is.part low high in
      quotient_range σ _ w.1 least most is.whole a.0 a.1

  -- low stays at most high,
  pub blended_sides : (g h : ℕ) → g ≤ h → blended_growth Low w g ≤ blended_growth High w h
  unfolding blended_growth
  blended_sides g h le =
      let k = w.0 in
      let n = w.1 in
      omega (arith, quotient_rises Low ((n - k) * g + k * ultimate) ((n - k) * h + k * ultimate) n is.whole (omega (arith, mul-le-mul_left (n - k) le)), quotient_sides ((n - k) * h + k * ultimate) n is.whole)

  -- and at most 1,000 apart, since where the rate has a part the growth's part leaves room for both roundings
  pub blended_near : (g h : ℕ) → h ≤ g + 1000 → blended_growth High w h ≤ blended_growth Low w g + 1000
  unfolding blended_growth quotient
  blended_near g h le =
      let k = w.0 in
      let n = w.1 in
      let a = (n - k) * g + k * ultimate in
      let q = quotient Low a n in
      quotient_inmost High ((n - k) * h + k * ultimate) n (q + 1000) is.whole
      (omega (arith, is.part, is.fine, add-mul q 1000 n, mul-add (n - k) g 1000, mul-le-mul_left (n - k) le, lt-div-mul-add {a = a} {b = n} is.whole))

-- after the convergence the ultimate rate has every part
pub weight_late : (b : Option Blend) (t : ℕ) → after_convergence (blend_span b) t ≡ true → weight (blend_span b) t ≡ (1, 1)
weight_late None t e = absurd (true≢false (sym e))
weight_late (Some b) t e =
    let late : b.convergence < t = ltb-true _ _ e in
    cond-false (leb t b.liquid) _ _ (lt-leb t b.liquid (omega (arith, b.rises))) ∙ cond-false (leb t b.convergence) _ _ (lt-leb t b.convergence late)

pub blended_ultimate : (σ : Side) (g : ℕ) → blended_growth σ (1, 1) g ≡ ultimate
unfolding blended_growth
blended_ultimate σ g =
    let r = quotient_range σ ((1 - 1) * g + 1 * ultimate) 1 ultimate ultimate (omega arith) (omega arith) (omega arith) in
    omega (arith, r.0, r.1)

-- a growth that it has no part of stays
pub blended_market : (σ : Side) (n g : ℕ) → 1 ≤ n → blended_growth σ (0, n) g ≡ g
unfolding blended_growth
blended_market σ n g one =
    let all : n - 0 ≡ n = omega arith in
    let r = quotient_range σ ((n - 0) * g + 0 * ultimate) n g g one (omega (arith, ap (λ k. k * g) all)) (omega (arith, ap (λ k. k * g) all)) in
    omega (arith, r.0, r.1)
