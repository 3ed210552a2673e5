-- What follows at once from a curve being ordered.
use Rattle.std.proofs.Common.{◌≡◌, ℕ, ◌*◌, ◌≤◌, replicate, mul-le-mul, arith}
use Rattle.std.proofs.lemmas.List.{get_or-replicate}
use Rattle.curve.specs.Range.{unit, least}
use Rattle.curve.specs.Market.{Ordered, entry, factor_of, unstripped}
use Rattle.curve.specs.declared.side.Side.{Side}
use Rattle.curve.specs.declared.side.Side.TheVariants.{Low, High}
use Rattle.curve.specs.declared.tables.Tables.{Tables}

pub factor_small : (T : Tables) → Ordered T → (σ : Side) (t : ℕ) → t ≤ 120 → factor_of T σ t ≤ unit
factor_small T o Low t h = omega (arith, (o.discounting t h).0, (o.discounting t h).1)
factor_small T o High t h = (o.discounting t h).1

-- a payment at a factor
pub payment_small : (p factor : ℕ) → p ≤ 2000000 → factor ≤ unit → p * factor ≤ 2000000000000000
payment_small p factor small within = mul-le-mul {n₁ = p} {m₁ = factor} {n₂ = 2000000} {m₂ = unit} small within

pub everywhere : (p : ℕ × ℕ) (t : ℕ) → t ≤ 120 → entry (replicate 121 p) t ≡ p
everywhere p t h = get_or-replicate 121 t p (0, 0) (omega arith)

pub start_ordered : Ordered unstripped
unfolding unstripped
start_ordered = record {
  ends = omega arith;
  growing = λ t h. rw (everywhere (least, least) t h) (omega arith, omega arith, omega arith);
  near = λ t h. rw (everywhere (least, least) t h) (omega arith);
  discounting = λ t h. rw (everywhere (unit, unit) t h) (omega arith, omega arith);
}
