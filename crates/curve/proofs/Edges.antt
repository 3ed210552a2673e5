-- The furthest growth that passes a test: what it is known by.
use Rattle.std.proofs.Common.{◌≡◌, ℕ, zero, suc, ◌+◌, ◌-◌, ◌<◌, ◌≤◌, min, max, Bool, true, false, cond, ◌⊎◌, sym, refl, ap, ◌∙◌, inl, inr, arith}
use Rattle.std.proofs.lemmas.Bool.{cases_lt, cond-true, cond-false, lt-ltb, le-ltb, le-leb, lt-leb}
use Rattle.curve.specs.Range.{least, most, place, furthest, edge}
use Rattle.curve.specs.Steps.{reaching}
use Rattle.curve.specs.declared.side.Side.{Side}
use Rattle.curve.specs.declared.side.Side.TheVariants.{Low, High}

-- the place i is the furthest up to k if it passes or is the first, and none after it passes
pub furthest_is : (σ : Side) (test : ℕ → Bool) (k i : ℕ) → i ≤ k → ((i ≡ 0) ⊎ (test (place σ i) ≡ true)) → ((j : ℕ) → i < j → j ≤ k → test (place σ j) ≡ false) → furthest σ test k ≡ place σ i
unfolding furthest
furthest_is σ test zero i h p q = ap (place σ) (omega arith)
furthest_is σ test (suc k) i h p q = elim (cases_lt i (suc k)) [
  | inl less ↦ cond-false (test (place σ (suc k))) _ _ (q (suc k) less (omega arith)) ∙ furthest_is σ test k i (omega arith) p (λ j l m. q j l (omega arith))
  | inr all ↦ let same : i ≡ suc k = omega arith in elim p [
    | inl none ↦ absurd (omega arith)
    | inr pass ↦ cond-true (test (place σ (suc k))) _ _ (ap (λ n. test (place σ n)) (sym same) ∙ pass) ∙ ap (place σ) (sym same)
  ]
]

-- the furthest place passes, or is the first
pub furthest_passes : (σ : Side) (test : ℕ → Bool) (k : ℕ) → (furthest σ test k ≡ place σ 0) ⊎ (test (furthest σ test k) ≡ true)
unfolding furthest
furthest_passes σ test zero = inl refl
furthest_passes σ test (suc k) = go (furthest_passes σ test k) (test (place σ (suc k))) refl
  where
    go : (furthest σ test k ≡ place σ 0) ⊎ (test (furthest σ test k) ≡ true) → (b : Bool) → test (place σ (suc k)) ≡ b → (cond b (place σ (suc k)) (furthest σ test k) ≡ place σ 0) ⊎ (test (cond b (place σ (suc k)) (furthest σ test k)) ≡ true)
    go rest true e = inr e
    go rest false e = rest

furthest_place : (σ : Side) (test : ℕ → Bool) (k : ℕ) → (i : ℕ) × (i ≤ k) × (furthest σ test k ≡ place σ i)
unfolding furthest
furthest_place σ test zero = (0, omega arith, refl)
furthest_place σ test (suc k) = go (furthest_place σ test k) (test (place σ (suc k)))
  where
    go : (i : ℕ) × (i ≤ k) × (furthest σ test k ≡ place σ i) → (b : Bool) → (i : ℕ) × (i ≤ suc k) × (cond b (place σ (suc k)) (furthest σ test k) ≡ place σ i)
    go r true = (suc k, omega arith, refl)
    go r false = (r.0, omega (arith, r.1), r.2)

pub edge_passes : (σ : Side) (test : ℕ → Bool) → (edge σ test ≡ place σ 0) ⊎ (test (edge σ test) ≡ true)
unfolding edge
edge_passes σ test = furthest_passes σ test (most - least)

place_range : (σ : Side) (i : ℕ) → i ≤ most - least → (least ≤ place σ i) × (place σ i ≤ most)
place_range Low i h = (omega arith, omega arith)
place_range High i h = (omega arith, omega arith)

pub edge_range : (σ : Side) (test : ℕ → Bool) → (least ≤ edge σ test) × (edge σ test ≤ most)
unfolding edge
edge_range σ test =
    let r = furthest_place σ test (most - least) in
    let s = place_range σ r.0 r.1 in
    (omega (arith, r.2, s.0), omega (arith, r.2, s.1))

-- the edge is the last place where that passes, and only there
pub edge_last : (σ : Side) (test : ℕ → Bool) → test (place σ (most - least)) ≡ true → edge σ test ≡ place σ (most - least)
unfolding edge
edge_last σ test pass = furthest_is σ test (most - least) (most - least) (omega arith) (inr pass) (λ j more within. absurd (omega arith))

-- the edge of a falling figure that is below the limit from b on
abbrev pub ended : Side → ℕ → ℕ
ended Low b = max least (b - 1)
ended High b = min most b

module _ (value : ℕ → ℕ) (limit b : ℕ) (from : least ≤ b) (to : b ≤ most + 1)
    (below : (g : ℕ) → least ≤ g → g < b → limit ≤ value g)
    (above : (g : ℕ) → b ≤ g → g ≤ most → value g < limit) where
  pub edge_ended : (σ : Side) → edge σ (reaching σ value limit) ≡ ended σ b
  unfolding edge
  edge_ended Low = elim (cases_lt least b) [
    | inl more ↦ furthest_is Low _ (most - least) (b - 1 - least) (omega arith) (inr (le-leb _ _ (below (least + (b - 1 - least)) (omega arith) (omega arith)))) (λ j l m. lt-leb _ _ (above (least + j) (omega arith) (omega arith))) ∙ omega arith
    | inr none ↦ furthest_is Low _ (most - least) 0 (omega arith) (inl refl) (λ j l m. lt-leb _ _ (above (least + j) (omega arith) (omega arith))) ∙ omega arith
  ]
  edge_ended High = elim (cases_lt most b) [
    | inl none ↦ furthest_is High _ (most - least) 0 (omega arith) (inl refl) (λ j l m. le-ltb _ _ (below (most - j) (omega arith) (omega arith))) ∙ omega arith
    | inr more ↦ furthest_is High _ (most - least) (most - b) (omega arith) (inr (lt-ltb _ _ (above (most - (most - b)) (omega arith) (omega arith)))) (λ j l m. le-ltb _ _ (below (most - j) (omega arith) (omega arith))) ∙ omega arith
  ]
