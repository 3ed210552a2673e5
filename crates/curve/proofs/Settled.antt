-- What settling tells of every admitted curve, from the definitions alone.
use Rattle.std.proofs.Common.{◌≡◌, ℕ, ◌≤◌, Bool, true, false, cond, ltb, List, [], ◌∷◌, Some, None, Ok, Err, Option, Result, sym, refl, subst, arith}
use Rattle.std.proofs.lemmas.Bool.{ltb-false}
use Rattle.instruments.specs.Law.{Meaning, ok_map}
use Rattle.instruments.specs.declared.refusal.Refusal.{Refusal}
use Rattle.instruments.specs.declared.refusal.Refusal.TheVariants.{TooShort}
use Rattle.curve.specs.Blending.{discount}
use Rattle.curve.specs.Currencies.{blend_span}
use Rattle.curve.specs.Exact.{ExactCurve, exact_growth, exact_discount, Admitted, Tells}
use Rattle.curve.specs.Market.{worth_at, found_growths, extended, with_gap, and_then, strip_from, stripped, unstripped, Ordered}
use Rattle.curve.specs.Settling.{last_from, needed, settled}
use Rattle.curve.specs.declared.tables.Tables.{Tables}
use Rattle.curve.specs.declared.terms.Blend.{Blend}
use Rattle.curve.proofs.Blended.{discount_ordered}
use Rattle.curve.proofs.Bounds.{start_ordered}
use Rattle.curve.proofs.Gaps.{extended_ordered}
use Rattle.curve.proofs.Settlement.{settled_encloses}
use Rattle.curve.proofs.Stripped.{AllLawful, stripped_tells}
use Rattle.curve.proofs.Verdict.{accepted}

-- a stripped curve is ordered
strip_ordered : (xs : List Meaning) (T N : Tables) → Ordered T → AllLawful xs → strip_from T xs ≡ Ok N → Ordered N
unfolding strip_from with_gap
strip_ordered [] T N o laws e = let same : T ≡ N = cc in subst Ordered same o
strip_ordered (x ∷ xs) T N o laws e = go (strip_ordered xs) (found_growths (worth_at T x) x) refl e
  where
    go : ((A B : Tables) → Ordered A → AllLawful xs → strip_from A xs ≡ Ok B → Ordered B) → (v : Result (ℕ × ℕ) Refusal) → found_growths (worth_at T x) x ≡ v
        → and_then (ok_map (extended T x) v) (λ M. strip_from M xs) ≡ Ok N → Ordered N
    go rest (Ok growths) f d = rest (extended T x growths) N (extended_ordered T o x laws.0 growths (accepted (worth_at T x) x growths f)) laws.1 d
    go rest (Err r) f d = cc

needs_one : (b : Option Blend) → 1 ≤ needed (blend_span b)
needs_one None = omega arith
needs_one (Some x) = x.begins

module _ (b : Option Blend) (xs : List Meaning) (laws : AllLawful xs) where
  pub settled_ordered : (T : Tables) → settled (blend_span b) xs ≡ Ok T → Ordered T
  unfolding settled
  settled_ordered T e = go (ltb (last_from 0 xs) (needed (blend_span b))) (stripped xs) refl e
    where
      go : (s : Bool) (v : Result Tables Refusal) → stripped xs ≡ v → cond s (Err (TooShort (last_from 0 xs))) (ok_map (discount (blend_span b)) v) ≡ Ok T → Ordered T
      go true v f d = cc
      go false (Ok N) f d = let same : discount (blend_span b) N ≡ T = cc in subst Ordered same (discount_ordered b N (strip_ordered xs unstripped N start_ordered laws f))
      go false (Err r) f d = cc

  pub settled_tells : (c : ExactCurve) → Admitted xs c → Tells (exact_discount (blend_span b) (exact_growth c)) (settled (blend_span b) xs)
  unfolding settled
  settled_tells c a = go (ltb (last_from 0 xs) (needed (blend_span b))) refl (stripped xs) refl (stripped_tells xs laws start_ordered c a)
    where
      go : (s : Bool) → ltb (last_from 0 xs) (needed (blend_span b)) ≡ s → (v : Result Tables Refusal) → stripped xs ≡ v → Tells (exact_growth c) v
          → Tells (exact_discount (blend_span b) (exact_growth c)) (cond s (Err (TooShort (last_from 0 xs))) (ok_map (discount (blend_span b)) v))
      go true l v f t = ((λ n. omega (arith, n)), (λ n. omega (arith, n)))
      go false l (Ok N) f t =
          settled_encloses (blend_span b) xs N (sym f) (omega (arith, ltb-false _ _ l, needs_one b)) (discount_ordered b N (strip_ordered xs unstripped N start_ordered laws f)) c a t
      go false l (Err r) f t = t
