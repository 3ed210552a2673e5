-- Enclosure: steps, worths, the growths of a gap and its factors lie outside those of any exact curve that is admitted. One argument for both sides.
use Rattle.std.proofs.Common.{◌≡◌, ℕ, zero, suc, ◌+◌, ◌*◌, ◌<◌, ◌≤◌, ◌⊎◌, refl, inl, inr, le_of_mul-le-mul_right, arith}
use Rattle.std.proofs.lemmas.Bool.{cases_lt}
use Rattle.curve.specs.Range.{unit}
use Rattle.curve.specs.Steps.{opposite, quotient, step}
use Rattle.curve.specs.Worths.{continued, worth}
use Rattle.curve.specs.Exact.{Fraction, fraction, exact_factor, exact_worth}
use Rattle.curve.specs.declared.side.Side.{Side}
use Rattle.curve.specs.declared.side.Side.TheVariants.{Low, High}
use Rattle.curve.proofs.Outward.{Outside, outside_trans, outside_mul, quotient_outside}
use Rattle.curve.proofs.Continuation.{continued_known, continued_suc}

-- a figure in units lies on the side σ of a fraction
abbrev pub Bounds : Side → ℕ → Fraction → Type 0
Bounds σ q x = Outside σ (q * x.bottom) (unit * x.top)

-- of two numbers one lies outside the other, on one side or the other
pub outside_either : (σ : Side) (x y : ℕ) → Outside σ x y ⊎ Outside (opposite σ) x y
outside_either Low x y = elim (cases_lt y x) [ inl more ↦ inr (omega arith) | inr less ↦ inl less ]
outside_either High x y = elim (cases_lt x y) [ inl less ↦ inr (omega arith) | inr more ↦ inl more ]

pub zero_outside : (σ : Side) → Outside σ 0 0
zero_outside Low = omega arith
zero_outside High = omega arith

pub outside_add : (σ : Side) (a b x y : ℕ) → Outside σ a x → Outside σ b y → Outside σ (a + b) (x + y)
outside_add Low a b x y p q = omega arith
outside_add High a b x y p q = omega arith

-- equal numbers may stand for one another
pub outside_same : (σ : Side) (a x b y : ℕ) → a ≡ b → x ≡ y → Outside σ a x → Outside σ b y
outside_same Low a x b y p q h = omega arith
outside_same High a x b y p q h = omega arith

pub outside_cancel : (σ : Side) (x y k : ℕ) → 1 ≤ k → Outside σ (x * k) (y * k) → Outside σ x y
outside_cancel Low x y k h p = le_of_mul-le-mul_right p h
outside_cancel High x y k h p = le_of_mul-le-mul_right p h

pub outside_flip : (σ : Side) (x y : ℕ) → Outside (opposite σ) x y → Outside σ y x
outside_flip Low x y h = h
outside_flip High x y h = h

-- the next year's factor of a curve
abbrev next_factor : Fraction → Fraction → Fraction
next_factor factor growth = fraction (factor.top * growth.bottom) (factor.bottom * growth.top)

-- a step outwards by a growth that lies on the other side bounds the exact step
pub step_bounds : (σ : Side) (q g : ℕ) (factor growth : Fraction) → 1 ≤ g → Bounds σ q factor → Bounds (opposite σ) g growth → Bounds σ (step σ q g) (next_factor factor growth)
unfolding step
step_bounds σ q g factor growth one p r =
    let s = quotient σ (q * unit) g in
    let A = factor.top in let B = factor.bottom in let Gt = growth.top in let Gb = growth.bottom in
    outside_cancel σ (s * (B * Gt)) (unit * (A * Gb)) unit (omega arith)
    (outside_same σ ((unit * Gt) * (s * B)) ((unit * A) * (unit * Gb)) (s * (B * Gt) * unit) (unit * (A * Gb) * unit) (omega arith) (omega arith)
    (outside_trans σ ((unit * Gt) * (s * B)) ((g * Gb) * (s * B)) ((unit * A) * (unit * Gb)) (outside_mul σ (unit * Gt) (g * Gb) (s * B) (outside_flip σ (g * Gb) (unit * Gt) r))
    (outside_trans σ ((g * Gb) * (s * B)) ((q * unit) * (Gb * B)) ((unit * A) * (unit * Gb))
    (outside_same σ ((s * g) * (Gb * B)) ((q * unit) * (Gb * B)) ((g * Gb) * (s * B)) ((q * unit) * (Gb * B)) (omega arith) refl (outside_mul σ (s * g) (q * unit) (Gb * B) (quotient_outside σ (q * unit) g one)))
    (outside_same σ ((q * B) * (unit * Gb)) ((unit * A) * (unit * Gb)) ((q * unit) * (Gb * B)) ((unit * A) * (unit * Gb)) (omega arith) refl (outside_mul σ (q * B) (unit * A) (unit * Gb) p)))))

-- factors that go on by growths of the other side bound the exact factors
pub continued_bounds : (σ : Side) (known : ℕ → ℕ) (s : ℕ) (g : ℕ → ℕ) (growth : ℕ → Fraction) (n : ℕ)
    → ((t : ℕ) → t ≤ s → Bounds σ (known t) (exact_factor growth t)) → ((t : ℕ) → s < t → t ≤ n → 1 ≤ g t) → ((t : ℕ) → s < t → t ≤ n → Bounds (opposite σ) (g t) (growth t))
    → Bounds σ (continued σ known s g n) (exact_factor growth n)
unfolding exact_factor
continued_bounds σ known s g growth zero start one by = rw (continued_known σ known s g 0 (omega arith)) (start 0 (omega arith))
continued_bounds σ known s g growth (suc n) start one by = elim (cases_lt s (suc n)) [
  | inl more ↦ rw (continued_suc σ known s g n (omega arith)) (step_bounds σ (continued σ known s g n) (g (suc n)) (exact_factor growth n) (growth (suc n)) (one (suc n) more (omega arith))
      (continued_bounds σ known s g growth n start (λ t a b. one t a (omega arith)) (λ t a b. by t a (omega arith))) (by (suc n) more (omega arith)))
  | inr yet ↦ rw (continued_known σ known s g (suc n) yet) (start (suc n) yet)
]

-- a worth at bounding factors bounds the exact worth
pub worth_bounds : (σ : Side) (pay f : ℕ → ℕ) (factor : ℕ → Fraction) (n : ℕ) → ((t : ℕ) → t ≤ n → Bounds σ (f t) (factor t)) → Bounds σ (worth pay f n) (exact_worth pay factor n)
unfolding worth exact_worth
worth_bounds σ pay f factor zero by = outside_same σ 0 0 (0 * 1) (unit * 0) refl refl (zero_outside σ)
worth_bounds σ pay f factor (suc n) by =
    let w = worth pay f n in let W = exact_worth pay factor n in let p = pay (suc n) in let q = f (suc n) in let F = factor (suc n) in
    outside_same σ ((w * W.bottom) * F.bottom + (q * F.bottom) * (p * W.bottom)) ((unit * W.top) * F.bottom + (unit * F.top) * (p * W.bottom))
    ((w + p * q) * (W.bottom * F.bottom)) (unit * (W.top * F.bottom + p * F.top * W.bottom)) (omega arith) (omega arith)
    (outside_add σ ((w * W.bottom) * F.bottom) ((q * F.bottom) * (p * W.bottom)) ((unit * W.top) * F.bottom) ((unit * F.top) * (p * W.bottom))
    (outside_mul σ (w * W.bottom) (unit * W.top) F.bottom (worth_bounds σ pay f factor n (λ t a. by t (omega arith))))
    (outside_mul σ (q * F.bottom) (unit * F.top) (p * W.bottom) (by (suc n) (omega arith))))
