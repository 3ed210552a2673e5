-- What holds of a division that rounds outwards, and of a step.
use Rattle.std.proofs.Common.{ℕ, ◌+◌, ◌-◌, ◌*◌, ◌/◌, ◌<◌, ◌≤◌, mul-le-mul_right, div-lt_iff_lt-mul, mul-le-mul_left, le-div_iff_mul-le, div-mul-le_self, arith}
use native.Mathlib.Nat.{lt-div-mul-add}
use Rattle.curve.specs.Range.{unit, least}
use Rattle.curve.specs.Steps.{quotient, step}
use Rattle.curve.specs.declared.side.Side.{Side}
use Rattle.curve.specs.declared.side.Side.TheVariants.{Low, High}

-- the figure x lies on the side σ of y, or is y
abbrev pub Outside : Side → ℕ → ℕ → Type 0
Outside Low x y = x ≤ y
Outside High x y = y ≤ x

-- a rounded quotient times the divisor lies outside the dividend
pub quotient_outside : (σ : Side) (a n : ℕ) → 1 ≤ n → Outside σ (quotient σ a n * n) a
unfolding quotient
quotient_outside Low a n h = div-mul-le_self a n
quotient_outside High a n h = omega (arith, lt-div-mul-add {a = a + (n - 1)} {b = n} h)

-- and is the innermost that does
pub quotient_inmost : (σ : Side) (a n b : ℕ) → 1 ≤ n → Outside σ (b * n) a → Outside σ b (quotient σ a n)
unfolding quotient
quotient_inmost Low a n b h p = (le-div_iff_mul-le h).1 p
quotient_inmost High a n b h p =
    let below : (a + (n - 1)) / n < b + 1 = (div-lt_iff_lt-mul {k = n} {x = a + (n - 1)} {y = b + 1} h).1 (omega arith) in
    omega arith

pub outside_trans : (σ : Side) (x y z : ℕ) → Outside σ x y → Outside σ y z → Outside σ x z
outside_trans Low x y z p q = omega arith
outside_trans High x y z p q = omega arith

-- a product with a common factor keeps its side
pub outside_mul : (σ : Side) (x y k : ℕ) → Outside σ x y → Outside σ (x * k) (y * k)
outside_mul Low x y k p = mul-le-mul_right k p
outside_mul High x y k p = mul-le-mul_right k p

-- a larger dividend gives no smaller quotient
pub quotient_rises : (σ : Side) (a b n : ℕ) → 1 ≤ n → a ≤ b → quotient σ a n ≤ quotient σ b n
quotient_rises Low a b n h p = quotient_inmost Low b n (quotient Low a n) h (outside_trans Low (quotient Low a n * n) a b (quotient_outside Low a n h) p)
quotient_rises High a b n h p = quotient_inmost High a n (quotient High b n) h (outside_trans High (quotient High b n * n) b a (quotient_outside High b n h) p)

-- a larger divisor gives no larger quotient
pub quotient_falls : (σ : Side) (a m n : ℕ) → 1 ≤ m → m ≤ n → quotient σ a n ≤ quotient σ a m
quotient_falls Low a m n h p =
    let q = quotient Low a n in
    quotient_inmost Low a m q h (omega (arith, mul-le-mul_left q p, quotient_outside Low a n (omega arith)))
quotient_falls High a m n h p =
    let q = quotient High a m in
    quotient_inmost High a n q (omega arith) (omega (arith, mul-le-mul_left q p, quotient_outside High a m h))

-- rounded down is at most rounded up
pub quotient_sides : (a n : ℕ) → 1 ≤ n → quotient Low a n ≤ quotient High a n
unfolding quotient
quotient_sides a n h = quotient_inmost Low (a + (n - 1)) n (a / n) h (omega (arith, div-mul-le_self a n))

pub step_rises : (σ : Side) (p q g : ℕ) → 1 ≤ g → p ≤ q → step σ p g ≤ step σ q g
unfolding step
step_rises σ p q g h le = quotient_rises σ (p * unit) (q * unit) g h (mul-le-mul_right unit le)

pub step_falls : (σ : Side) (q g h : ℕ) → 1 ≤ g → g ≤ h → step σ q h ≤ step σ q g
unfolding step
step_falls σ q g h one le = quotient_falls σ (q * unit) g h one le

pub step_sides : (q g : ℕ) → 1 ≤ g → step Low q g ≤ step High q g
unfolding step
step_sides q g h = quotient_sides (q * unit) g h

-- a growth of the range does not raise a factor
pub step_sinks : (σ : Side) (q g : ℕ) → least ≤ g → step σ q g ≤ q
unfolding step
step_sinks Low q g h = omega (arith, quotient_sides (q * unit) g (omega arith), quotient_inmost High (q * unit) g q (omega arith) (omega (arith, mul-le-mul_left q h)))
step_sinks High q g h = quotient_inmost High (q * unit) g q (omega arith) (omega (arith, mul-le-mul_left q h))
