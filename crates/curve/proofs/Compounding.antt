-- Laws of years of one growth.
use Rattle.std.proofs.Common.{ℕ, arith}
use Rattle.curve.specs.Range.{unit}
use Rattle.curve.specs.Steps.{Falls}
use Rattle.curve.specs.Worths.{level}
use Rattle.curve.specs.Rates.{compounded}
use Rattle.curve.specs.declared.side.Side.{Side}
use Rattle.curve.proofs.Continuation.{under_self, continued_under}

-- a larger growth compounds to no larger a factor
pub compounded_falls : (t : ℕ) (σ : Side) → Falls (compounded t σ)
compounded_falls t σ g h one le = continued_under σ σ (under_self σ) (level unit) (level unit) 0 (level h) (level g) t (λ u b. omega arith) (λ u b d. one) (λ u b d. le)
