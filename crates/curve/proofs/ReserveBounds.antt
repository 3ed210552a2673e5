-- The reserve's two figures: low at most high, and the reserve of every enclosed curve between.
use Rattle.std.proofs.Common.{◌≡◌, ℕ, ◌+◌, ◌*◌, ◌≤◌, Bool, true, false, cond, leb, List, [], ◌∷◌, ℤ, pos, negsuc, ◌-ℤ◌, ◌≤ℤ◌, IfOk, Some, None, Ok, Err, Option, Result, refl, ap, mul-le-mul_right, mul-le-mul_left, arith}
use Rattle.std.proofs.lemmas.Int.{ints}
use Rattle.std.proofs.lemmas.Bool.{and_parts, leb-true}
use Rattle.instruments.specs.Law.{ok_map}
use Rattle.instruments.specs.Limits.{within}
use Rattle.instruments.specs.declared.refusal.Refusal.{Refusal}
use Rattle.instruments.specs.declared.refusal.Refusal.TheVariants.{OutsideHorizon}
use Rattle.curve.specs.Range.{unit}
use Rattle.curve.specs.Steps.{side_of, opposite, quotient}
use Rattle.curve.specs.Market.{entry, factor_of, and_then, Ordered}
use Rattle.curve.specs.Questions.{signed_pair}
use Rattle.curve.specs.Reserve.{portion, flow_share, reserve_from, flows_within, asked_reserve, hundredth}
use Rattle.curve.specs.Exact.{Fraction, Between, exact_factor, Encloses, Rising, gain, loss, part_of, exact_total, ReserveBetween}
use Rattle.curve.specs.declared.side.Side.{Side}
use Rattle.curve.specs.declared.side.Side.TheVariants.{Low, High}
use Rattle.curve.specs.declared.tables.Tables.{Tables}
use Rattle.curve.proofs.Outward.{Outside, outside_trans, outside_mul, quotient_outside, quotient_rises, quotient_sides}
use Rattle.curve.proofs.Enclosure.{Bounds, zero_outside, outside_add, outside_same, outside_cancel}

-- one side of the flows, rounded flow by flow
portions : (ℤ → ℕ) → Tables → Side → ℕ → List (Option ℤ) → ℕ
portions side T σ t [] = 0
portions side T σ t (x ∷ xs) = portion (entry T.factors t) (part_of side x) σ + portions side T σ (t + 1) xs

nothing : (factors : ℕ × ℕ) (σ : Side) → portion factors 0 σ ≡ 0
unfolding portion quotient
nothing factors Low = omega arith
nothing factors High = omega arith

-- a flow's share is its gain less its loss
share_parts : (T : Tables) (t : ℕ) (x : Option ℤ) (σ : Side) → flow_share (entry T.factors t) x σ ≡ pos (portion (entry T.factors t) (part_of gain x) σ) -ℤ pos (portion (entry T.factors t) (part_of loss x) (opposite σ))
share_parts T t None σ = omega (arith, ints, nothing (entry T.factors t) σ, nothing (entry T.factors t) (opposite σ))
share_parts T t (Some (pos a)) σ = omega (arith, ints, nothing (entry T.factors t) (opposite σ))
share_parts T t (Some (negsuc a)) σ = omega (arith, ints, nothing (entry T.factors t) σ)

reserve_parts : (T : Tables) (t : ℕ) (xs : List (Option ℤ)) (σ : Side) → reserve_from T t xs σ ≡ pos (portions gain T σ t xs) -ℤ pos (portions loss T (opposite σ) t xs)
unfolding reserve_from portions
reserve_parts T t [] σ = refl
reserve_parts T t (x ∷ xs) σ = omega (arith, ints, share_parts T t x σ, reserve_parts T (t + 1) xs σ)

part_rises : (T : Tables) → Ordered T → (t a : ℕ) → t ≤ 120 → portion (entry T.factors t) a Low ≤ portion (entry T.factors t) a High
unfolding portion
part_rises T o t a h =
    omega (arith, quotient_rises Low (a * factor_of T Low t) (a * factor_of T High t) hundredth (omega arith) (mul-le-mul_left a (o.discounting t h).0), quotient_sides (a * factor_of T High t) hundredth (omega arith))

-- where no flow is held after the horizon, low portions are at most high ones
abbrev Timely : Tables → ℕ → List (Option ℤ) → Type 0
Timely T t [] = Unit {0}
Timely T t (None ∷ xs) = Timely T (t + 1) xs
Timely T t (Some a ∷ xs) = (t ≤ T.last) × Timely T (t + 1) xs

timely : (T : Tables) (t : ℕ) (xs : List (Option ℤ)) → flows_within T t xs ≡ Ok tt → Timely T t xs
unfolding flows_within
timely T t [] e = tt
timely T t (None ∷ xs) e = timely T (t + 1) xs e
timely T t (Some a ∷ xs) e = go (timely T (t + 1) xs) (within 0 T.last t) refl e
  where
    go : (flows_within T (t + 1) xs ≡ Ok (tt {0}) → Timely T (t + 1) xs) → (b : Bool) → within 0 T.last t ≡ b → and_then (cond b (Ok (tt {0})) (Err (OutsideHorizon t))) (λ _. flows_within T (t + 1) xs) ≡ Ok (tt {0}) → (t ≤ T.last) × Timely T (t + 1) xs
    go rest true w f = (leb-true _ _ (and_parts (leb 0 t) (leb t T.last) w).1, rest f)
    go rest false w f = cc

portions_rise : (side : ℤ → ℕ) (T : Tables) → Ordered T → (t : ℕ) (xs : List (Option ℤ)) → Timely T t xs → portions side T Low t xs ≤ portions side T High t xs
unfolding portions
portions_rise side T o t [] h = omega arith
portions_rise side T o t (None ∷ xs) h = omega (arith, nothing (entry T.factors t) Low, nothing (entry T.factors t) High, portions_rise side T o (t + 1) xs h)
portions_rise side T o t (Some a ∷ xs) h = omega (arith, part_rises T o t (side a) (omega (arith, h.0, o.ends)), portions_rise side T o (t + 1) xs h.1)

reserve_rises : (T : Tables) → Ordered T → (xs : List (Option ℤ)) → Timely T 0 xs → reserve_from T 0 xs Low ≤ℤ reserve_from T 0 xs High
reserve_rises T o xs h = omega (arith, ints, reserve_parts T 0 xs Low, reserve_parts T 0 xs High, portions_rise gain T o 0 xs h, portions_rise loss T o 0 xs h)

-- a rounded portion lies on its side of the exact one
portion_bounds : (σ : Side) (T : Tables) (t a : ℕ) (x : Fraction) → Bounds σ (factor_of T σ t) x → Outside σ (portion (entry T.factors t) a σ * x.bottom) (a * 100 * x.top)
unfolding portion
portion_bounds σ T t a x by =
    let f = factor_of T σ t in let q = quotient σ (a * f) hundredth in
    outside_cancel σ (q * x.bottom) (a * 100 * x.top) hundredth (omega arith)
    (outside_trans σ (q * x.bottom * hundredth) (a * f * x.bottom) (a * 100 * x.top * hundredth)
    (outside_same σ (q * hundredth * x.bottom) (a * f * x.bottom) (q * x.bottom * hundredth) (a * f * x.bottom) (omega arith) refl (outside_mul σ (q * hundredth) (a * f) x.bottom (quotient_outside σ (a * f) hundredth (omega arith))))
    (outside_same σ (f * x.bottom * a) (unit * x.top * a) (a * f * x.bottom) (a * 100 * x.top * hundredth) (omega arith) (omega arith) (outside_mul σ (f * x.bottom) (unit * x.top) a by)))

side_bounds : (σ : Side) (figures : ℕ × ℕ) (x : Fraction) → Between figures x → Bounds σ (side_of σ figures) x
side_bounds Low figures x between = between.0
side_bounds High figures x between = between.1

module _ (T : Tables) (growth : ℕ → Fraction) (e : Encloses T growth) (side : ℤ → ℕ) (σ : Side) where
  abbrev F : ℕ → Fraction
  F = exact_factor growth

  flow_bounds : (t : ℕ) (x : Option ℤ) → Timely T t (x ∷ []) → Outside σ (portion (entry T.factors t) (part_of side x) σ * (F t).bottom) (part_of side x * 100 * (F t).top)
  flow_bounds t None h = outside_same σ 0 0 (portion (entry T.factors t) 0 σ * (F t).bottom) (0 * 100 * (F t).top) (omega (arith, ap (λ n. n * (F t).bottom) (nothing (entry T.factors t) σ))) (omega arith) (zero_outside σ)
  flow_bounds t (Some a) h = portion_bounds σ T t (side a) (F t) (side_bounds σ (entry T.factors t) (F t) (e.factors t h.0))

  abbrev Whole : ℕ → List (Option ℤ) → Type 0
  Whole t xs = Outside σ (portions side T σ t xs * (exact_total side F t xs).bottom) (exact_total side F t xs).top

  with_flow : (t : ℕ) (x : Option ℤ) (xs : List (Option ℤ)) → Timely T t (x ∷ []) → Whole (t + 1) xs → Whole t (x ∷ xs)
  unfolding portions exact_total
  with_flow t x xs h rest =
      let p = portion (entry T.factors t) (part_of side x) σ in let P = portions side T σ (t + 1) xs in let R = exact_total side F (t + 1) xs in let a = part_of side x * 100 * (F t).top in
      outside_same σ (p * (F t).bottom * R.bottom + P * R.bottom * (F t).bottom) (a * R.bottom + R.top * (F t).bottom) ((p + P) * ((F t).bottom * R.bottom)) (a * R.bottom + R.top * (F t).bottom) (omega arith) refl
      (outside_add σ (p * (F t).bottom * R.bottom) (P * R.bottom * (F t).bottom) (a * R.bottom) (R.top * (F t).bottom) (outside_mul σ (p * (F t).bottom) a R.bottom (flow_bounds t x h)) (outside_mul σ (P * R.bottom) R.top (F t).bottom rest))

  total_bounds : (t : ℕ) (xs : List (Option ℤ)) → Timely T t xs → Whole t xs
  unfolding portions exact_total
  total_bounds t [] h = zero_outside σ
  total_bounds t (None ∷ xs) h = with_flow t None xs tt (total_bounds (t + 1) xs h)
  total_bounds t (Some a ∷ xs) h = with_flow t (Some a) xs (h.0, tt) (total_bounds (t + 1) xs h.1)

-- the parts of a difference
balanced : (z : ℤ) (g l : ℕ) → z ≡ pos g -ℤ pos l → gain z + l ≡ loss z + g
balanced (pos a) g l e = omega (arith, ints, e)
balanced (negsuc a) g l e = omega (arith, ints, e)

difference_bounds : (σ : Side) (z : ℤ) (g l : ℕ) (G L : Fraction) → z ≡ pos g -ℤ pos l → Outside σ (g * G.bottom) G.top → Outside (opposite σ) (l * L.bottom) L.top
    → Outside σ (gain z * (G.bottom * L.bottom) + L.top * G.bottom) (G.top * L.bottom + loss z * (G.bottom * L.bottom))
difference_bounds Low z g l G L e p q = omega (arith, mul-le-mul_right L.bottom p, mul-le-mul_right G.bottom q, ap (λ n. n * (G.bottom * L.bottom)) (balanced z g l e))
difference_bounds High z g l G L e p q = omega (arith, mul-le-mul_right L.bottom p, mul-le-mul_right G.bottom q, ap (λ n. n * (G.bottom * L.bottom)) (balanced z g l e))

reserve_bounds : (T : Tables) (growth : ℕ → Fraction) → Encloses T growth → (xs : List (Option ℤ)) → Timely T 0 xs → ReserveBetween growth xs (signed_pair (reserve_from T 0 xs))
reserve_bounds T growth e xs h = (
  difference_bounds Low (reserve_from T 0 xs Low) (portions gain T Low 0 xs) (portions loss T High 0 xs) _ _ (reserve_parts T 0 xs Low) (total_bounds T growth e gain Low 0 xs h) (total_bounds T growth e loss High 0 xs h),
  difference_bounds High (reserve_from T 0 xs High) (portions gain T High 0 xs) (portions loss T Low 0 xs) _ _ (reserve_parts T 0 xs High) (total_bounds T growth e gain High 0 xs h) (total_bounds T growth e loss Low 0 xs h),
)

-- what holds of a reserve whose flows lie within the horizon holds of every answer
asked_reserve_made : (T : Tables) (xs : List (Option ℤ)) (P : ℤ × ℤ → Type 0) → (Timely T 0 xs → P (signed_pair (reserve_from T 0 xs))) → IfOk (asked_reserve T xs) P
asked_reserve_made T xs P h = go (flows_within T 0 xs) refl
  where
    go : (v : Result (Unit {0}) Refusal) → flows_within T 0 xs ≡ v → IfOk (ok_map (λ _. signed_pair (reserve_from T 0 xs)) v) P
    go (Ok u) f = h (timely T 0 xs f)
    go (Err r) f = tt

pub reserve_ordered : (T : Tables) → Ordered T → (xs : List (Option ℤ)) → IfOk (asked_reserve T xs) Rising
reserve_ordered T o xs = asked_reserve_made T xs Rising (reserve_rises T o xs)

pub reserve_between : (T : Tables) (xs : List (Option ℤ)) (growth : ℕ → Fraction) → Encloses T growth → IfOk (asked_reserve T xs) (ReserveBetween growth xs)
reserve_between T xs growth e = asked_reserve_made T xs (ReserveBetween growth xs) (reserve_bounds T growth e xs)
