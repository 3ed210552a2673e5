-- Factors that go on from a known year, each by its own year's growths.
use Rattle.std.proofs.Common.{◌≡◌, ℕ, ◌-◌, ◌<◌, ◌≤◌, sym, ◌∙◌, arith}
use Rattle.curve.specs.Blending.{discounted}
use Rattle.curve.specs.Market.{Growing, discounted_on, entry, factor_of, growth_of}
use Rattle.curve.specs.Range.{unit, least}
use Rattle.curve.specs.Steps.{opposite}
use Rattle.curve.specs.declared.side.Side.{Side}
use Rattle.curve.specs.declared.side.Side.TheVariants.{Low, High}
use Rattle.curve.specs.declared.tables.Tables.{Tables}
use Rattle.curve.proofs.Continuation.{continued_known, continued_turn, continued_small}

module _ (T : Tables) (s : ℕ) where
  -- up to year s they are the known ones
  pub known_on : (t : ℕ) → t ≤ s → entry T.factors t ≡ discounted_on T s t
  known_on t h =
      let known = λ (σ : Side). sym (continued_known σ (factor_of T σ) s (growth_of T (opposite σ)) t h) in
      λ i. (known Low i, known High i)

  -- a later year discounts the factors of the year before
  pub turn_on : (t : ℕ) → s < t → (factors growths : ℕ × ℕ) → factors ≡ discounted_on T s (t - 1) → growths ≡ entry T.growths t → discounted factors growths ≡ discounted_on T s t
  turn_on t late factors growths p q =
      let turn = λ (σ : Side). sym (continued_turn σ (factor_of T σ) s (growth_of T (opposite σ)) t late) in
      (λ i. discounted (p i) (q i)) ∙ (λ i. (turn Low i, turn High i))

  -- growths of the range keep them at most 1
  pub small_on : Growing T → ((σ : Side) (t : ℕ) → t ≤ s → factor_of T σ t ≤ unit) → (t : ℕ) → t ≤ 120 → ((discounted_on T s t).0 ≤ unit) × ((discounted_on T s t).1 ≤ unit)
  small_on growing known t h =
      let small = λ (σ : Side) (range : (u : ℕ) → s < u → u ≤ t → least ≤ growth_of T (opposite σ) u). continued_small σ (factor_of T σ) s (growth_of T (opposite σ)) unit t (known σ) range in
      (small Low (λ u a e. omega (arith, growing u (omega arith))), small High (λ u a e. (growing u (omega arith)).0))
