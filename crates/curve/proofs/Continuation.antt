-- Laws of factors that go on from a known year, and of worths.
use Rattle.std.proofs.Common.{◌≡◌, ℕ, zero, suc, ◌+◌, ◌-◌, ◌*◌, ◌<◌, ◌≤◌, leb, sym, refl, ap, ◌∙◌, inl, inr, mul-le-mul, add-one, arith}
use Rattle.std.proofs.lemmas.Bool.{cases_lt, cond-true, cond-false, le-leb, lt-leb}
use Rattle.curve.specs.Range.{least}
use Rattle.curve.specs.Steps.{step}
use Rattle.curve.specs.Worths.{continued, level, worth, after, worth_from}
use Rattle.curve.specs.declared.side.Side.{Side}
use Rattle.curve.specs.declared.side.Side.TheVariants.{Low, High}
use Rattle.curve.proofs.Outward.{step_rises, step_falls, step_sides, step_sinks}

-- the sides in order: a figure of the first is meant to lie at or below one of the second
abbrev pub Under : Side → Side → Type 0
Under Low τ = Unit {0}
Under High Low = ⊥
Under High High = Unit {0}

pub under_self : (σ : Side) → Under σ σ
under_self Low = tt
under_self High = tt

-- a step from no more by no less gives no more
pub step_under : (σ τ : Side) → Under σ τ → (p q g h : ℕ) → 1 ≤ h → h ≤ g → p ≤ q → step σ p g ≤ step τ q h
step_under Low Low u p q g h one le rise = omega (arith, step_rises Low p q g (omega arith) rise, step_falls Low q h g one le)
step_under Low High u p q g h one le rise = omega (arith, step_rises Low p q g (omega arith) rise, step_falls Low q h g one le, step_sides q h one)
step_under High Low u p q g h one le rise = absurd u
step_under High High u p q g h one le rise = omega (arith, step_rises High p q g (omega arith) rise, step_falls High q h g one le)

module _ (σ : Side) (known : ℕ → ℕ) (s : ℕ) (growth : ℕ → ℕ) where
  pub continued_known : (t : ℕ) → t ≤ s → continued σ known s growth t ≡ known t
  unfolding continued
  continued_known zero h = refl
  continued_known (suc t) h = cond-true (leb (suc t) s) _ _ (le-leb (suc t) s h)

  pub continued_suc : (t : ℕ) → s ≤ t → continued σ known s growth (suc t) ≡ step σ (continued σ known s growth t) (growth (suc t))
  unfolding continued
  continued_suc t h = cond-false (leb (suc t) s) _ _ (lt-leb (suc t) s (omega arith))

  pub continued_next : (t : ℕ) → s ≤ t → continued σ known s growth (t + 1) ≡ step σ (continued σ known s growth t) (growth (t + 1))
  continued_next t h = rw add-one (continued_suc t h)

-- factors that start no higher and grow no less stay no higher
pub continued_under : (σ τ : Side) → Under σ τ → (known known' : ℕ → ℕ) (s : ℕ) (g h : ℕ → ℕ) (n : ℕ)
    → ((t : ℕ) → t ≤ s → known t ≤ known' t) → ((t : ℕ) → s < t → t ≤ n → 1 ≤ h t) → ((t : ℕ) → s < t → t ≤ n → h t ≤ g t)
    → continued σ known s g n ≤ continued τ known' s h n
continued_under σ τ u known known' s g h zero start one le =
    omega (arith, start 0 (omega arith), continued_known σ known s g 0 (omega arith), continued_known τ known' s h 0 (omega arith))
continued_under σ τ u known known' s g h (suc n) start one le = elim (cases_lt s (suc n)) [
  | inl more ↦ omega (
    arith,
    continued_suc σ known s g n (omega arith),
    continued_suc τ known' s h n (omega arith),
    step_under σ τ u (continued σ known s g n) (continued τ known' s h n) (g (suc n)) (h (suc n)) (one (suc n) more (omega arith)) (le (suc n) more (omega arith))
        (continued_under σ τ u known known' s g h n start (λ t a b. one t a (omega arith)) (λ t a b. le t a (omega arith))),
  )
  | inr known-yet ↦ omega (arith, start (suc n) known-yet, continued_known σ known s g (suc n) known-yet, continued_known τ known' s h (suc n) known-yet)
]

-- growths of the range keep factors at most what they were
pub continued_small : (σ : Side) (known : ℕ → ℕ) (s : ℕ) (g : ℕ → ℕ) (most-factor n : ℕ) → ((t : ℕ) → t ≤ s → known t ≤ most-factor) → ((t : ℕ) → s < t → t ≤ n → least ≤ g t)
    → continued σ known s g n ≤ most-factor
continued_small σ known s g b zero start range = omega (arith, start 0 (omega arith), continued_known σ known s g 0 (omega arith))
continued_small σ known s g b (suc n) start range = elim (cases_lt s (suc n)) [
  | inl more ↦ omega (
    arith,
    continued_suc σ known s g n (omega arith),
    step_sinks σ (continued σ known s g n) (g (suc n)) (range (suc n) more (omega arith)),
    continued_small σ known s g b n start (λ t a b. range t a (omega arith)),
  )
  | inr known-yet ↦ omega (arith, start (suc n) known-yet, continued_known σ known s g (suc n) known-yet)
]

-- two that agree up to a year agree up to it
pub continued_same : (σ : Side) (known known' : ℕ → ℕ) (s : ℕ) (g h : ℕ → ℕ) (n : ℕ) → ((t : ℕ) → t ≤ s → known t ≡ known' t) → ((t : ℕ) → s < t → t ≤ n → g t ≡ h t)
    → continued σ known s g n ≡ continued σ known' s h n
continued_same σ known known' s g h zero start same = continued_known σ known s g 0 (omega arith) ∙ start 0 (omega arith) ∙ sym (continued_known σ known' s h 0 (omega arith))
continued_same σ known known' s g h (suc n) start same = elim (cases_lt s (suc n)) [
  | inl more ↦
      let rest : continued σ known s g n ≡ continued σ known' s h n = continued_same σ known known' s g h n start (λ t a b. same t a (omega arith)) in
      let here : g (suc n) ≡ h (suc n) = same (suc n) more (omega arith) in
      let p = continued_suc σ known s g n (omega arith) in
      let q = continued_suc σ known' s h n (omega arith) in
      cc
  | inr known-yet ↦ continued_known σ known s g (suc n) known-yet ∙ start (suc n) known-yet ∙ sym (continued_known σ known' s h (suc n) known-yet)
]

-- after year s only the factor of s counts
pub continued_start : (σ : Side) (known : ℕ → ℕ) (s : ℕ) (g : ℕ → ℕ) (n : ℕ) → continued σ known s g (s + n) ≡ continued σ (level (known s)) s g (s + n)
continued_start σ known s g zero =
    let e : s + 0 ≡ s = omega arith in
    ap (continued σ known s g) e ∙ continued_known σ known s g s (omega arith) ∙ sym (continued_known σ (level (known s)) s g s (omega arith)) ∙ ap (continued σ (level (known s)) s g) (sym e)
continued_start σ known s g (suc n) =
    let e : s + suc n ≡ suc (s + n) = omega arith in
    let rest : continued σ known s g (s + n) ≡ continued σ (level (known s)) s g (s + n) = continued_start σ known s g n in
    let p = continued_suc σ known s g (s + n) (omega arith) in
    let q = continued_suc σ (level (known s)) s g (s + n) (omega arith) in
    cc

pub worth_next : (pay f : ℕ → ℕ) (t : ℕ) → worth pay f (t + 1) ≡ worth pay f t + pay (t + 1) * f (t + 1)
unfolding worth
worth_next pay f t = rw add-one refl

-- larger factors are worth no less
pub worth_rises : (pay f h : ℕ → ℕ) (n : ℕ) → ((t : ℕ) → t ≤ n → f t ≤ h t) → worth pay f n ≤ worth pay h n
unfolding worth
worth_rises pay f h zero le = omega arith
worth_rises pay f h (suc n) le = omega (arith, worth_rises pay f h n (λ t a. le t (omega arith)), mul-le-mul {n₁ = pay (suc n)} {m₁ = f (suc n)} {n₂ = pay (suc n)} {m₂ = h (suc n)} (omega arith) (le (suc n) (omega arith)))

pub worth_same : (pay f h : ℕ → ℕ) (n : ℕ) → ((t : ℕ) → t ≤ n → f t ≡ h t) → worth pay f n ≡ worth pay h n
unfolding worth
worth_same pay f h zero same = refl
worth_same pay f h (suc n) same =
    let rest : worth pay f n ≡ worth pay h n = worth_same pay f h n (λ t a. same t (omega arith)) in
    let here : f (suc n) ≡ h (suc n) = same (suc n) (omega arith) in
    cc

-- years that pay nothing add nothing
pub worth_past : (pay f : ℕ → ℕ) (m n : ℕ) → ((t : ℕ) → m < t → pay t ≡ 0) → m ≤ n → worth pay f n ≡ worth pay f m
unfolding worth
worth_past pay f m zero none h = let e : 0 ≡ m = omega arith in ap (worth pay f) e
worth_past pay f m (suc n) none h = elim (cases_lt m (suc n)) [
  | inl more ↦ omega (arith, worth_past pay f m n none (omega arith), ap (λ p. p * f (suc n)) (none (suc n) more))
  | inr all ↦ let e : suc n ≡ m = omega arith in ap (worth pay f) e
]

pub after_most : (s : ℕ) (pay : ℕ → ℕ) (t : ℕ) → after s pay t ≤ pay t
unfolding after
after_most s pay t = elim (cases_lt s t) [
  | inl more ↦ omega (arith, cond-false (leb t s) 0 (pay t) (lt-leb t s more))
  | inr yet ↦ omega (arith, cond-true (leb t s) 0 (pay t) (le-leb t s yet))
]

pub after_yet : (s : ℕ) (pay : ℕ → ℕ) (t : ℕ) → t ≤ s → after s pay t ≡ 0
unfolding after
after_yet s pay t h = cond-true (leb t s) 0 (pay t) (le-leb t s h)

pub after_late : (s : ℕ) (pay : ℕ → ℕ) (t : ℕ) → s < t → after s pay t ≡ pay t
unfolding after
after_late s pay t h = cond-false (leb t s) 0 (pay t) (lt-leb t s h)

pub after_none : (s : ℕ) (pay : ℕ → ℕ) (m : ℕ) → ((t : ℕ) → m < t → pay t ≡ 0) → (t : ℕ) → m < t → after s pay t ≡ 0
after_none s pay m none t h = omega (arith, none t h, after_most s pay t)

pub worth_none : (pay f : ℕ → ℕ) (n : ℕ) → ((t : ℕ) → t ≤ n → pay t ≡ 0) → worth pay f n ≡ 0
unfolding worth
worth_none pay f zero none = refl
worth_none pay f (suc n) none = omega (arith, worth_none pay f n (λ t a. none t (omega arith)), ap (λ p. p * f (suc n)) (none (suc n) (omega arith)))

-- a worth is that of the years up to s and that of the later ones
pub worth_split : (pay f : ℕ → ℕ) (s n : ℕ) → worth pay f (s + n) ≡ worth pay f s + worth (after s pay) f (s + n)
unfolding worth
worth_split pay f s zero =
    let e : s + 0 ≡ s = omega arith in
    omega (arith, ap (worth pay f) e, ap (worth (after s pay) f) e, worth_none (after s pay) f s (after_yet s pay))
worth_split pay f s (suc n) =
    let e : s + suc n ≡ suc (s + n) = omega arith in
    omega (arith, ap (worth pay f) e, ap (worth (after s pay) f) e, worth_split pay f s n, ap (λ p. p * f (suc (s + n))) (after_late s pay (suc (s + n)) (omega arith)))

-- factors that agree after year s are worth the same to the payments after it
pub worth_late_same : (pay f h : ℕ → ℕ) (s n : ℕ) → ((t : ℕ) → s < t → t ≤ n → f t ≡ h t) → worth (after s pay) f n ≡ worth (after s pay) h n
unfolding worth
worth_late_same pay f h s zero same = refl
worth_late_same pay f h s (suc n) same =
    let rest : worth (after s pay) f n ≡ worth (after s pay) h n = worth_late_same pay f h s n (λ t a b. same t a (omega arith)) in
    elim (cases_lt s (suc n)) [
      | inl more ↦ let here : f (suc n) ≡ h (suc n) = same (suc n) more (omega arith) in cc
      | inr yet ↦ let none : after s pay (suc n) ≡ 0 = after_yet s pay (suc n) yet in omega (arith, ap (λ p. p * f (suc n)) none, ap (λ p. p * h (suc n)) none)
    ]

-- one year of a sum, and of a continuation, at the year itself
pub worth_turn : (pay f : ℕ → ℕ) (t : ℕ) → 1 ≤ t → worth pay f t ≡ worth pay f (t - 1) + pay t * f t
worth_turn pay f t h = let e : t - 1 + 1 ≡ t = omega arith in rw e at (worth_next pay f (t - 1))

pub continued_turn : (σ : Side) (known : ℕ → ℕ) (s : ℕ) (growth : ℕ → ℕ) (t : ℕ) → s < t → continued σ known s growth t ≡ step σ (continued σ known s growth (t - 1)) (growth t)
continued_turn σ known s growth t h = let e : t - 1 + 1 ≡ t = omega arith in rw e at (continued_next σ known s growth (t - 1) (omega arith))

module _ (σ : Side) (factor : ℕ → ℕ) (s : ℕ) (pay : ℕ → ℕ) (m g : ℕ) (none : (t : ℕ) → m < t → pay t ≡ 0) where
  late_factor : (t : ℕ) → s < t → continued σ factor s (level g) t ≡ continued σ (level (factor s)) s (level g) t
  late_factor t h = let e : s + (t - s) ≡ t = omega arith in rw e at (continued_start σ factor s (level g) (t - s))

  known_worth : worth pay factor s ≡ worth pay (continued σ factor s (level g)) s
  known_worth = worth_same pay factor (continued σ factor s (level g)) s (λ t a. sym (continued_known σ factor s (level g) t a))

  -- the worth in two parts is the worth, for payments that end at m
  pub worth_from_is : worth_from σ (worth pay factor s) (factor s) s pay m g ≡ worth pay (continued σ factor s (level g)) m
  unfolding worth_from
  worth_from_is = elim (cases_lt s m) [
    | inl more ↦
        let e : s + (m - s) ≡ m = omega arith in
        let split = rw e at (worth_split pay (continued σ factor s (level g)) s (m - s)) in
        omega (arith, split, known_worth, worth_late_same pay (continued σ factor s (level g)) (continued σ (level (factor s)) s (level g)) s m (λ t a b. late_factor t a))
    | inr yet ↦
        omega (arith, known_worth, worth_past pay (continued σ factor s (level g)) m s none yet, worth_none (after s pay) (continued σ (level (factor s)) s (level g)) m (λ t a. after_yet s pay t (omega arith)))
  ]

-- a worth in two parts does not rise with the growth
pub worth_from_falls : (σ : Side) (known start s : ℕ) (pay : ℕ → ℕ) (m g h : ℕ) → 1 ≤ g → g ≤ h → worth_from σ known start s pay m h ≤ worth_from σ known start s pay m g
unfolding worth_from
worth_from_falls σ known start s pay m g h one le =
    omega (
      arith,
      worth_rises (after s pay) (continued σ (level start) s (level h)) (continued σ (level start) s (level g)) m
          (λ t a. continued_under σ σ (under_self σ) (level start) (level start) s (level h) (level g) t (λ u b. omega arith) (λ u b d. one) (λ u b d. le)),
    )
