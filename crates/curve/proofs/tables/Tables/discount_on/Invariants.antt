use Rattle.std.proofs.Common.{◌≡◌, ℕ, ◌-◌, ◌<◌, length}
use Rattle.curve.specs.Market.{discounted_on, entry}
use Rattle.curve.proofs.tables.Tables.discount_on.Given as goal

-- the factors before `year` go on from the known ones, those after `to` are as they were
abbrev pub invariant-loop-year : goal.invariant-loop-year
invariant-loop-year l =
    (l.self.last ≡ l.initial.self.last) × (l.self.growths ≡ l.initial.self.growths) × (length l.self.factors ≡ 121) × (l.factors ≡ discounted_on l.initial.self l.from (l.year - 1))
    × ((t : ℕ) → t < l.year → entry l.self.factors t ≡ discounted_on l.initial.self l.from t)
    × ((t : ℕ) → l.to < t → entry l.self.factors t ≡ entry l.initial.self.factors t)
