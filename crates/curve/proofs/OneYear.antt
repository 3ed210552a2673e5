-- The growth of a gap of one year, straight from the factor that the limit leaves for its payment.
use Rattle.std.proofs.Common.{◌≡◌, ℕ, ◌+◌, ◌-◌, ◌*◌, ◌/◌, ◌<◌, ◌≤◌, min, max, ap, ◌∙◌, inl, inr, mul-le-mul_right, mul-le-mul_left, div-mul-le_self, arith}
use native.Mathlib.Nat.{lt-div-mul-add}
use Rattle.std.proofs.lemmas.Bool.{cases_lt}
use Rattle.curve.specs.Range.{unit, least, most, edge}
use Rattle.curve.specs.Steps.{quotient, step, reaching}
use Rattle.curve.specs.Worths.{continued, level, after, worth_from}
use Rattle.curve.specs.declared.side.Side.{Side}
use Rattle.curve.specs.declared.side.Side.TheVariants.{Low, High}
use Rattle.curve.proofs.Continuation.{continued_known, continued_turn, worth_turn, worth_none, after_yet, after_late}
use Rattle.curve.proofs.Edges.{edge_ended}
use Rattle.curve.proofs.Outward.{quotient_outside, quotient_inmost}

-- the worth of such a gap
one_year_worth : (σ : Side) (known start s : ℕ) (pay : ℕ → ℕ) (m : ℕ) → m ≡ s + 1 → (g : ℕ) → worth_from σ known start s pay m g ≡ known + pay m * step σ start g
unfolding worth_from
one_year_worth σ known start s pay m one g =
    let f : ℕ → ℕ = continued σ (level start) s (level g) in
    let here : f m ≡ step σ start g = continued_turn σ (level start) s (level g) m (omega arith) ∙ ap (λ q. step σ q g) (continued_known σ (level start) s (level g) (m - 1) (omega arith)) in
    let paid : after s pay m ≡ pay m = after_late s pay m (omega arith) in
    let product : after s pay m * f m ≡ pay m * step σ start g = λ i. paid i * here i in
    omega (arith, product, worth_turn (after s pay) f m (omega arith), worth_none (after s pay) f (m - 1) (λ t h. after_yet s pay t (omega arith)))

-- the growth at which the last factor is the divisor's
abbrev pub divisor : Side → ℕ → ℕ
divisor Low missed = missed + 1
divisor High missed = missed

module _ (start missed : ℕ) (some : 1 ≤ missed) where
  -- before the quotient the factor is more than is missed
  step_more : (σ : Side) (g : ℕ) → 1 ≤ g → g < quotient σ (start * unit) (divisor σ missed) + (divisor σ missed - missed) → missed < step σ start g
  unfolding step
  step_more Low g one h =
      let within : g ≤ quotient Low (start * unit) (missed + 1) = omega arith in
      omega (arith, quotient_inmost Low (start * unit) g (missed + 1) one (omega (arith, mul-le-mul_right (missed + 1) within, quotient_outside Low (start * unit) (missed + 1) (omega arith))))
  step_more High g one h = elim (cases_lt missed (quotient High (start * unit) g)) [
    | inl more ↦ more
    | inr less ↦ absurd (omega (arith, quotient_inmost High (start * unit) missed g some (omega (arith, mul-le-mul_right g less, quotient_outside High (start * unit) g one))))
  ]

  -- from it on it is not
  step_no_more : (σ : Side) (g : ℕ) → 1 ≤ g → quotient σ (start * unit) (divisor σ missed) + (divisor σ missed - missed) ≤ g → step σ start g ≤ missed
  unfolding step
  step_no_more Low g one h = elim (cases_lt missed (quotient Low (start * unit) g)) [
    | inl more ↦ absurd (omega (arith, quotient_inmost Low (start * unit) (missed + 1) g (omega arith) (omega (arith, mul-le-mul_right g more, quotient_outside Low (start * unit) g one))))
    | inr less ↦ less
  ]
  step_no_more High g one h =
      let past : quotient High (start * unit) missed ≤ g = omega arith in
      quotient_inmost High (start * unit) g missed one (omega (arith, mul-le-mul_right missed past, quotient_outside High (start * unit) missed some))

module _ (known start s : ℕ) (pay : ℕ → ℕ) (m : ℕ) (one : m ≡ s + 1) (pays : 1 ≤ pay m) (limit : ℕ) (less : known + pay m < limit) where
  abbrev missed : ℕ
  missed = (limit - known - 1) / pay m

  some : 1 ≤ missed
  some = elim (cases_lt 0 missed) [
    | inl more ↦ more
    | inr none ↦ absurd (omega (arith, lt-div-mul-add {a = limit - known - 1} {b = pay m} pays, mul-le-mul_right (pay m) none))
  ]

  reached : (σ : Side) (g : ℕ) → missed < step σ start g → limit ≤ worth_from σ known start s pay m g
  reached σ g h = omega (arith, one_year_worth σ known start s pay m one g, lt-div-mul-add {a = limit - known - 1} {b = pay m} pays, mul-le-mul_left (pay m) h)

  below : (σ : Side) (g : ℕ) → step σ start g ≤ missed → worth_from σ known start s pay m g < limit
  below σ g h = omega (arith, one_year_worth σ known start s pay m one g, div-mul-le_self (limit - known - 1) (pay m), mul-le-mul_left (pay m) h)

  pub one_year_edge : (σ : Side) → edge σ (reaching σ (worth_from σ known start s pay m) limit) ≡ max least (min (quotient σ (start * unit) (divisor σ missed)) most)
  one_year_edge Low =
      let q = quotient Low (start * unit) (missed + 1) in
      let b = min (most + 1) (max least (q + 1)) in
      edge_ended (worth_from Low known start s pay m) limit b (omega arith) (omega arith)
      (λ g from to. reached Low g (step_more start missed some Low g (omega arith) (omega arith)))
      (λ g from to. below Low g (step_no_more start missed some Low g (omega arith) (omega arith))) Low
      ∙ omega arith
  one_year_edge High =
      let q = quotient High (start * unit) missed in
      let b = min (most + 1) (max least q) in
      edge_ended (worth_from High known start s pay m) limit b (omega arith) (omega arith)
      (λ g from to. reached High g (step_more start missed some High g (omega arith) (omega arith)))
      (λ g from to. below High g (step_no_more start missed some High g (omega arith) (omega arith))) High
      ∙ omega arith
