-- Settling: the discount curve of a list of quotations on given terms, or why there is none.
use Rattle.std.specs.Prelude.{ℕ, cond, List, [], ◌∷◌, Some, None, Err, Option, Result, nat_lt}
use Rattle.instruments.specs.Law.{Meaning, ok_map}
use Rattle.instruments.specs.declared.refusal.Refusal.{Refusal}
use Rattle.instruments.specs.declared.refusal.Refusal.TheVariants.{TooShort}
use Rattle.curve.specs.Blending.{discount}
use Rattle.curve.specs.Market.{stripped}
use Rattle.curve.specs.declared.tables.Tables.{Tables}

-- the maturity of the last quotation of a list, or s if there is none
unfoldable pub last_from : ℕ → List Meaning → ℕ
last_from s [] = s
last_from s (x ∷ xs) = last_from x.maturity xs

-- the maturity that the last quotation must have at least: the last liquid point, or any at all where there is no blend
abbrev pub needed : Option (ℕ × ℕ) → ℕ
needed None = 1
needed (Some (liquid, convergence)) = liquid

-- the discount curve, refused first where the quotations do not reach far enough
unfoldable pub settled : Option (ℕ × ℕ) → List Meaning → Result Tables Refusal
settled span xs = cond (nat_lt (last_from 0 xs) (needed span)) (Err (TooShort (last_from 0 xs))) (ok_map (discount span) (stripped xs))
