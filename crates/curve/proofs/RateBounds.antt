-- The zero rates of a year enclose the rate of every exact curve that the factors enclose.
use Rattle.std.proofs.Common.{◌≡◌, ℕ, zero, suc, ◌-◌, ◌*◌, ◌^◌, ◌≤◌, true, ltb, pos, negsuc, sym, refl, ap, ◌∙◌, inl, inr, pow-suc, arith}
use native.Mathlib.Nat.{pow-zero}
use Rattle.std.proofs.lemmas.Bool.{cond_both, leb-true, ltb-true, ltb-false}
use Rattle.curve.specs.Range.{unit, least, most, place}
use Rattle.curve.specs.Steps.{side_of, opposite, reaches, reaching}
use Rattle.curve.specs.Worths.{level}
use Rattle.curve.specs.Market.{entry, factor_of}
use Rattle.curve.specs.Questions.{forward_of}
use Rattle.curve.specs.Rates.{compounded, rate_limit, rate_growth}
use Rattle.curve.specs.Exact.{Fraction, fraction, Between, exact_factor, Possible, Encloses, one_plus}
use Rattle.curve.specs.declared.side.Side.{Side}
use Rattle.curve.specs.declared.side.Side.TheVariants.{Low, High}
use Rattle.curve.specs.declared.tables.Tables.{Tables}
use Rattle.curve.proofs.Outward.{Outside, outside_trans, outside_mul}
use Rattle.curve.proofs.Edges.{edge_passes, edge_range}
use Rattle.curve.proofs.Enclosure.{Bounds, outside_same, outside_cancel, outside_flip, continued_bounds}

-- the rate growth g compounded over t years lies on the side σ of the inverse of a factor
abbrev pub RateBounds : Side → ℕ → ℕ → Fraction → Type 0
RateBounds σ t g factor = Outside σ (g ^ t * factor.top) (unit ^ t * factor.bottom)

-- a growth of g / unit in every year
abbrev always : ℕ → ℕ → Fraction
always g t = fraction g unit

always_factor : (g t : ℕ) → exact_factor (always g) t ≡ fraction (unit ^ t) (g ^ t)
unfolding exact_factor
always_factor g zero = λ i. fraction 1 (sym (pow-zero g) i)
always_factor g (suc t) = λ i. fraction ((ap (λ x. x.top * unit) (always_factor g t) ∙ sym (pow-suc unit t)) i) ((ap (λ x. x.bottom * g) (always_factor g t) ∙ sym (pow-suc g t)) i)

equal_outside : (σ : Side) (x y : ℕ) → x ≡ y → Outside σ x y
equal_outside Low x y e = omega arith
equal_outside High x y e = omega arith

start_bounds : (σ : Side) (g u : ℕ) → u ≤ 0 → Bounds σ unit (exact_factor (always g) u)
unfolding exact_factor
start_bounds σ g u h = let e : u ≡ 0 = omega arith in rw e (equal_outside σ (unit * 1) (unit * 1) refl)

pub compounded_bounds : (σ : Side) (t g : ℕ) → 1 ≤ g → Outside σ (compounded t σ g * g ^ t) (unit * unit ^ t)
compounded_bounds σ t g one =
    let p : Bounds σ (compounded t σ g) (exact_factor (always g) t) =
    continued_bounds σ (level unit) 0 (level g) (always g) t (start_bounds σ g) (λ _ _ _. one) (λ u _ _. equal_outside (opposite σ) (g * unit) (unit * g) (omega arith)) in
    rw (always_factor g t) at p

-- the ends of the range, compounded, lie outside whatever the years' growths are
ends_compounded : (σ : Side) (growth : ℕ → Fraction) (t : ℕ) → ((u : ℕ) → 1 ≤ u → Bounds σ (place σ 0) (growth u)) → RateBounds σ t (place σ 0) (exact_factor growth t)
unfolding exact_factor
ends_compounded σ growth zero by = equal_outside σ (place σ 0 ^ 0 * 1) (unit ^ 0 * 1) (ends σ)
  where
    ends : (τ : Side) → place τ 0 ^ 0 * 1 ≡ unit ^ 0 * 1
    ends Low = refl
    ends High = refl
ends_compounded σ growth (suc t) by =
    let e = place σ 0 in let A = (exact_factor growth t).top in let B = (exact_factor growth t).bottom in let x = growth (suc t) in
    outside_same σ ((e ^ t * A) * (e * x.bottom)) ((unit ^ t * B) * (unit * x.top)) (e ^ suc t * (A * x.bottom)) (unit ^ suc t * (B * x.top))
    (omega (arith, ap (λ n. n * (A * x.bottom)) (pow-suc e t))) (omega (arith, ap (λ n. n * (B * x.top)) (pow-suc unit t)))
    (outside_trans σ ((e ^ t * A) * (e * x.bottom)) ((unit ^ t * B) * (e * x.bottom)) ((unit ^ t * B) * (unit * x.top))
    (outside_mul σ (e ^ t * A) (unit ^ t * B) (e * x.bottom) (ends_compounded σ growth t by))
    (outside_same σ ((e * x.bottom) * (unit ^ t * B)) ((unit * x.top) * (unit ^ t * B)) ((unit ^ t * B) * (e * x.bottom)) ((unit ^ t * B) * (unit * x.top)) (omega arith) (omega arith)
    (outside_mul σ (e * x.bottom) (unit * x.top) (unit ^ t * B) (by (suc t) (omega arith)))))

-- what it is to reach the limit of a rate
reached : (σ : Side) (T : Tables) (t v : ℕ) → reaches σ v (rate_limit T t σ) ≡ true → Outside σ (factor_of T (opposite σ) t) v
reached Low T t v e = leb-true _ _ e
reached High T t v e = omega (arith, ltb-true _ _ e)

both_ends : (σ : Side) (x : Fraction) → Between (least, most) x → Bounds σ (place σ 0) x
both_ends Low x between = between.0
both_ends High x between = between.1

factor_bounds : (σ : Side) (figures : ℕ × ℕ) (x : Fraction) → Between figures x → Bounds σ (side_of σ figures) x
factor_bounds Low figures x between = between.0
factor_bounds High figures x between = between.1

pub rate_bounds : (σ : Side) (T : Tables) (growth : ℕ → Fraction) → Possible growth → Encloses T growth → (t : ℕ) → t ≤ T.last → RateBounds σ t (rate_growth T t σ) (exact_factor growth t)
rate_bounds σ T growth possible e t within = elim (edge_passes σ (reaching σ (compounded t σ) (rate_limit T t σ))) [
  | inl end ↦ rw end (ends_compounded σ growth t (λ u h. both_ends σ (growth u) (possible.ranged u h)))
  | inr pass ↦
      let g = rate_growth T t σ in let v = compounded t σ g in let F = factor_of T (opposite σ) t in let A = (exact_factor growth t).top in let B = (exact_factor growth t).bottom in
      let one : 1 ≤ g = omega (arith, (edge_range σ (reaching σ (compounded t σ) (rate_limit T t σ))).0) in
      outside_cancel σ (g ^ t * A) (unit ^ t * B) unit (omega arith)
      (outside_trans σ (g ^ t * A * unit) (F * B * g ^ t) (unit ^ t * B * unit)
      (outside_same σ ((unit * A) * g ^ t) ((F * B) * g ^ t) (g ^ t * A * unit) (F * B * g ^ t) (omega arith) refl
      (outside_mul σ (unit * A) (F * B) (g ^ t) (outside_flip σ (F * B) (unit * A) (factor_bounds (opposite σ) (entry T.factors t) (exact_factor growth t) (e.factors t within)))))
      (outside_trans σ (F * B * g ^ t) (v * g ^ t * B) (unit ^ t * B * unit)
      (outside_same σ (F * (B * g ^ t)) (v * (B * g ^ t)) (F * B * g ^ t) (v * g ^ t * B) (omega arith) (omega arith) (outside_mul σ F v (B * g ^ t) (reached σ T t v pass)))
      (outside_same σ (v * g ^ t * B) (unit * unit ^ t * B) (v * g ^ t * B) (unit ^ t * B * unit) refl (omega arith) (outside_mul σ (v * g ^ t) (unit * unit ^ t) B (compounded_bounds σ t g one)))))
]

-- 1 plus the rate that is answered is the growth
pub one_plus_forward : (g : ℕ) → one_plus (forward_of g) ≡ g
one_plus_forward g = cond_both (ltb g unit) (negsuc (unit - suc g)) (pos (g - unit)) (λ z. one_plus z ≡ g) (λ e. omega (arith, ltb-true _ _ e)) (λ e. omega (arith, ltb-false _ _ e))
