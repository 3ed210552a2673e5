-- The terms of a currency as a span of years: its last liquid point and its time of convergence.
use Rattle.std.specs.Prelude.{ℕ, Bool, false, cond, ◌&&◌, List, Some, None, Ok, codes, Option, Result, nat_lt, slice_index}
use Rattle.std.specs.Option.{option_map}
use Rattle.std.specs.Char.{is_ascii_uppercase}
use Rattle.std.specs.Str.{bytes_eq}
use Rattle.instruments.specs.Limits.{if_kept}
use Rattle.instruments.specs.declared.refusal.Refusal.{Refusal}
use Rattle.instruments.specs.declared.refusal.Refusal.TheVariants.{BadCode}
use Rattle.curve.specs.declared.terms.Blend.{Blend}
use Rattle.curve.specs.declared.terms.Terms.{Terms}

-- the span of a blend, if there is one
abbrev pub blend_span : Option Blend → Option (ℕ × ℕ)
blend_span = option_map (λ blend. (blend.liquid, blend.convergence))

-- the span of terms
abbrev pub span : Terms → Option (ℕ × ℕ)
span terms = blend_span terms.blend

-- the span of each currency: none for XXX, 10 to 20 for SEK, NOK and every code that is not listed
abbrev pub currency_span : List ℕ → Option (ℕ × ℕ)
currency_span code =
    cond (bytes_eq code (codes "XXX")) None
    (cond (bytes_eq code (codes "DKK")) (Some (20, 30))
    (cond (bytes_eq code (codes "EUR")) (Some (20, 60))
    (cond (bytes_eq code (codes "GBP")) (Some (50, 90))
    (cond (bytes_eq code (codes "USD")) (Some (30, 70)) (Some (10, 20))))))

-- three letters A to Z
abbrev pub letters : List ℕ → Bool
letters code = is_ascii_uppercase (slice_index code 0) && is_ascii_uppercase (slice_index code 1) && is_ascii_uppercase (slice_index code 2)

-- the span of a code, which is refused unless it is made of letters
abbrev pub span_of : List ℕ → Result (Option (ℕ × ℕ)) Refusal
span_of code = if_kept (letters code) BadCode (Ok (currency_span code))

-- whether a maturity lies after the convergence, where there is one
abbrev pub after_convergence : Option (ℕ × ℕ) → ℕ → Bool
after_convergence None m = false
after_convergence (Some (liquid, convergence)) m = nat_lt convergence m
