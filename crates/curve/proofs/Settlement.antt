-- From a market curve to the discount curve of the same quotations.
use Rattle.std.proofs.Common.{◌≡◌, ℕ, suc, ◌-◌, ◌<◌, ◌≤◌, ltb, List, [], ◌∷◌, map, length, get_or, Ok, Err, Option, Result, sym, refl, ap, arith}
use Rattle.std.proofs.lemmas.Bool.{cond-true, cond-false, lt-ltb, le-ltb}
use Rattle.instruments.specs.Law.{Meaning, ok_map}
use Rattle.instruments.specs.declared.refusal.Refusal.{Refusal}
use Rattle.instruments.specs.declared.refusal.Refusal.TheVariants.{TooShort}
use Rattle.curve.specs.Blending.{discount}
use Rattle.curve.specs.Market.{worth_at, found_growths, extended, with_gap, and_then, strip_from, stripped, unstripped, Ordered}
use Rattle.curve.specs.Exact.{ExactCurve, exact_growth, exact_discount, Admitted, Possible, Encloses}
use Rattle.curve.specs.Settling.{last_from, needed, settled}
use Rattle.curve.specs.declared.tables.Tables.{Tables}
use Rattle.curve.proofs.Blends.{discount_encloses}

-- the last row's maturity
pub last_at : {Row : Type 0} (read : Row → Meaning) (rows : List Row) (s : ℕ) (d : Row) → 1 ≤ length rows → (read (get_or rows (length rows - 1) d)).maturity ≡ last_from s (map read rows)
unfolding last_from
last_at read [] s d h = absurd (omega arith)
last_at read (r ∷ []) s d h = refl
last_at read (r ∷ (q ∷ rows)) s d h =
    let e : suc (suc (length rows)) - 1 ≡ suc (length rows) = omega arith in
    let f : suc (length rows) - 1 ≡ length rows = omega arith in
    rw e (rw f at (last_at read (q ∷ rows) (read r).maturity d (omega arith)))

-- a stripped curve ends with the last maturity
pub strip_last : (xs : List Meaning) (T N : Tables) → strip_from T xs ≡ Ok N → N.last ≡ last_from T.last xs
unfolding strip_from last_from with_gap extended
strip_last [] T N e = let same : T ≡ N = cc in ap (λ M. M.last) (sym same)
strip_last (x ∷ xs) T N e = go (strip_last xs) (found_growths (worth_at T x) x) e
  where
    go : ((A B : Tables) → strip_from A xs ≡ Ok B → B.last ≡ last_from A.last xs) → (v : Result (ℕ × ℕ) Refusal) → and_then (ok_map (extended T x) v) (λ M. strip_from M xs) ≡ Ok N → N.last ≡ last_from x.maturity xs
    go rest (Ok growths) f = rest (extended T x growths) N f
    go rest (Err r) f = cc

pub settled_short : (span : Option (ℕ × ℕ)) (xs : List Meaning) → last_from 0 xs < needed span → Err (TooShort (last_from 0 xs)) ≡ settled span xs
unfolding settled
settled_short span xs h = sym (cond-true (ltb (last_from 0 xs) (needed span)) _ _ (lt-ltb _ _ h))

pub settled_long : (span : Option (ℕ × ℕ)) (xs : List Meaning) → needed span ≤ last_from 0 xs → ok_map (discount span) (stripped xs) ≡ settled span xs
unfolding settled
settled_long span xs h = sym (cond-false (ltb (last_from 0 xs) (needed span)) _ _ (le-ltb _ _ h))

pub admitted_possible : (xs : List Meaning) (c : ExactCurve) → Admitted xs c → Possible (exact_growth c)
admitted_possible xs c a = record { solid = λ t. a.one_whole; ranged = a.in_range }

pub settled_encloses : (span : Option (ℕ × ℕ)) (xs : List Meaning) (T : Tables) → Ok T ≡ stripped xs → 1 ≤ last_from 0 xs → Ordered (discount span T) → (c : ExactCurve) → Admitted xs c → Encloses T (exact_growth c) → Encloses (discount span T) (exact_discount span (exact_growth c))
unfolding unstripped
settled_encloses span xs T e long o c a market =
    discount_encloses span T (exact_growth c) (admitted_possible xs c a) (omega (arith, long, strip_last xs unstripped T (sym e))) o market
