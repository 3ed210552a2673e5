-- What a flow adds to the reserve, and whether it is refused.
use Rattle.std.proofs.Common.{◌≡◌, ℕ, zero, suc, ◌+◌, ◌-◌, ◌*◌, ◌^◌, ◌<◌, ◌≤◌, ◌&&◌, List, [], ◌∷◌, length, get_or, set, take, drop, length-drop, add-one, ℤ, pos, negsuc, ◌+ℤ◌, ◌-ℤ◌, is_some, IfSome, Some, None, Ok, Err, Option, Result, sym, refl, ap, ◌∙◌, mul-le-mul, arith}
use Rattle.std.proofs.lemmas.List.{take_all, at_drop_more, at_drop_all}
use Rattle.std.proofs.lemmas.Iterator.Adapters.{position_from-zero}
use Rattle.std.proofs.lemmas.Int.{ints}
use Rattle.std.specs.List.{position, position_from}
use Rattle.std.proofs.lemmas.Bool.{cond-true, cond-false, le-leb, lt-leb}
use Rattle.instruments.specs.Law.{ok_map}
use Rattle.instruments.specs.Limits.{within}
use Rattle.instruments.specs.declared.refusal.Refusal.{Refusal}
use Rattle.instruments.specs.declared.refusal.Refusal.TheVariants.{OutsideHorizon}
use Rattle.curve.specs.Range.{unit}
use Rattle.curve.specs.Steps.{quotient, side_of, opposite, pair}
use Rattle.curve.specs.Market.{entry, and_then, Ordered}
use Rattle.curve.specs.Questions.{signed_pair}
use Rattle.curve.specs.Reserve.{portion, share, flow_share, reserve_from, flow_within, flows_within, asked_reserve, hundredth, signed_of, largest, SizeWithin, AllWithin}
use Rattle.curve.specs.declared.side.Side.{Side}
use Rattle.curve.specs.declared.side.Side.TheVariants.{Low, High}
use Rattle.curve.specs.declared.tables.Tables.{Tables}
use Rattle.curve.proofs.Outward.{quotient_inmost, quotient_sides}

pub pair_side : (f : Side → ℕ) (σ : Side) → side_of σ (pair f) ≡ f σ
pair_side f Low = refl
pair_side f High = refl

quotient_most : (σ : Side) (a n b : ℕ) → 1 ≤ n → a ≤ b * n → quotient σ a n ≤ b
quotient_most Low a n b h le = omega (arith, quotient_sides a n h, quotient_inmost High a n b h le)
quotient_most High a n b h le = quotient_inmost High a n b h le

-- no flow is worth more than the largest amount at a factor of 1
pub portion_small : (factors : ℕ × ℕ) (a : ℕ) → ((σ : Side) → side_of σ factors ≤ unit) → a ≤ 2 ^ 31 → (σ : Side) → portion factors a σ ≤ largest
unfolding portion
portion_small factors a h small σ =
    let product : a * side_of σ factors ≤ 2147483648 * unit = mul-le-mul {n₁ = a} {m₁ = side_of σ factors} {n₂ = 2147483648} {m₂ = unit} small (h σ) in
    quotient_most σ (a * side_of σ factors) hundredth largest (omega arith) (omega arith)

-- the first flow from year t on, by its distance from t, is refused
abbrev pub refused_at : ℕ → Option ℕ → Result (Unit {0}) Refusal
refused_at t None = Ok tt
refused_at t (Some n) = Err (OutsideHorizon (t + n))

-- a flow up to the last year is within the horizon, a later one is not
flow_early : (T : Tables) (t : ℕ) (x : Option ℤ) → t ≤ T.last → flow_within T t x ≡ Ok tt
flow_early T t None h = refl
flow_early T t (Some a) h = cond-true (within 0 T.last t) (Ok tt) (Err (OutsideHorizon t)) (λ i. le-leb 0 t (omega arith) i && le-leb t T.last h i)

flow_late : (T : Tables) (t : ℕ) (a : ℤ) → T.last < t → flow_within T t (Some a) ≡ Err (OutsideHorizon t)
flow_late T t a h = cond-false (within 0 T.last t) (Ok tt) (Err (OutsideHorizon t)) (λ i. le-leb 0 t (omega arith) i && lt-leb t T.last h i)

-- none up to the last year is refused
passed : (T : Tables) (xs : List (Option ℤ)) (n : ℕ) → n ≤ T.last + 1 → n ≤ length xs → flows_within T n (drop n xs) ≡ flows_within T 0 xs
unfolding flows_within
passed T xs zero h long = refl
passed T xs (suc n) h long = rw (← add-one) (sym (next (omega arith) (omega arith)) ∙ passed T xs n (omega arith) (omega arith))
  where
    next : n ≤ T.last → n < length xs → flows_within T n (drop n xs) ≡ flows_within T (n + 1) (drop (n + 1) xs)
    next early below = at_drop_more (flows_within T n) xs n None below ∙ ap (λ r. and_then r (λ _. flows_within T (n + 1) (drop (n + 1) xs))) (flow_early T n (get_or xs n None) early)

-- of those after the last year the first is
late : (T : Tables) (t n : ℕ) (xs : List (Option ℤ)) → T.last < t → flows_within T (t + n) xs ≡ refused_at t (position_from is_some n xs)
unfolding flows_within
late T t n [] h = refl
late T t n (None ∷ xs) h = let e : t + n + 1 ≡ t + (n + 1) = omega arith in rw e (late T t (n + 1) xs h)
late T t n (Some a ∷ xs) h = ap (λ r. and_then r (λ _. flows_within T (t + n + 1) xs)) (flow_late T (t + n) a (omega arith))

pub flows_refused : (T : Tables) (xs : List (Option ℤ)) → T.last ≤ 120 → length xs ≡ 121 → (first : Option ℕ) → first ≡ position is_some (take (121 - (T.last + 1)) (drop (T.last + 1) xs))
    → refused_at (T.last + 1) first ≡ flows_within T 0 xs
flows_refused T xs ends long first is =
    let ys = drop (T.last + 1) xs in
    let start : T.last + 1 + 0 ≡ T.last + 1 = omega arith in
    let whole : take (121 - (T.last + 1)) ys ≡ ys = take_all _ ys (simp length-drop (omega arith)) in
    ap (refused_at (T.last + 1)) (is ∙ ap (position is_some) whole ∙ position_from-zero is_some ys) ∙ sym (late T (T.last + 1) 0 ys (omega arith)) ∙ ap (λ t. flows_within T t ys) start ∙ passed T xs (T.last + 1) (omega arith) (omega arith)

pub of_pair : (p : ℤ × ℤ) (f : Side → ℤ) → p ≡ signed_pair f → (σ : Side) → signed_of σ p ≡ f σ
of_pair p f e Low = ap (λ q. q.0) e
of_pair p f e High = ap (λ q. q.1) e

-- what is added to a pair of signed figures, from its two sides
pub by_side : (p q : ℤ × ℤ) (more : Side → ℤ) → q.0 ≡ p.0 +ℤ more Low → q.1 ≡ p.1 +ℤ more High → (σ : Side) → signed_of σ q ≡ signed_of σ p +ℤ more σ
by_side p q more low high Low = low
by_side p q more low high High = high

-- the worth of the flows before year i: what is left of the table gives the rest of the reserve
abbrev pub Summed : Tables → List (Option ℤ) → ℕ → ℤ × ℤ → Type 0
Summed T xs i p = (σ : Side) → (signed_of σ p +ℤ reserve_from T i (drop i xs) σ ≡ reserve_from T 0 xs σ) × SizeWithin (largest * i) (signed_of σ p)

module _ (T : Tables) (xs : List (Option ℤ)) (i : ℕ) (p : ℤ × ℤ) (so : Summed T xs i p) where
  -- the flow x of year i, at the factors of that year
  module _ (x : Option ℤ) (factors : ℕ × ℕ) (below : i < length xs) (here : x ≡ get_or xs i None) (at_factors : factors ≡ entry T.factors i) where
    reserve_next : (σ : Side) → reserve_from T i (drop i xs) σ ≡ flow_share factors x σ +ℤ reserve_from T (i + 1) (drop (i + 1) xs) σ
    unfolding reserve_from
    reserve_next σ = rw (here, at_factors) (at_drop_more (λ ys. reserve_from T i ys σ) xs i None below)

    -- it moves from what is left to the sum
    pub summed_more : (q : ℤ × ℤ) (n : ℕ) → n ≡ i + 1 → ((σ : Side) → signed_of σ q ≡ signed_of σ p +ℤ flow_share factors x σ) → ((σ : Side) → SizeWithin largest (flow_share factors x σ)) → Summed T xs n q
    summed_more q n next more small = rw next (λ σ. (omega (arith, ints, reserve_next σ, (so σ).0, more σ), (omega (arith, ints, (so σ).1, more σ, small σ), omega (arith, ints, (so σ).1, more σ, small σ))))

  -- after the last flow the sum is the reserve
  pub summed_all : length xs ≤ i → p ≡ signed_pair (reserve_from T 0 xs)
  unfolding reserve_from
  summed_all all = λ k. (end Low k, end High k)
    where
      end : (σ : Side) → signed_of σ p ≡ reserve_from T 0 xs σ
      end σ = omega (arith, ints, (so σ).0, at_drop_all (λ ys. reserve_from T i ys σ) xs i all)

-- the flow of year n changed from x to y: the reserve of the years from i on has the share of y in place of the one of x
changed_from : (T : Tables) (σ : Side) (i : ℕ) (xs : List (Option ℤ)) (k n : ℕ) (x y : Option ℤ) → k < length xs → n ≡ i + k → get_or xs k None ≡ x
    → reserve_from T i (set xs k y) σ +ℤ flow_share (entry T.factors n) x σ ≡ reserve_from T i xs σ +ℤ flow_share (entry T.factors n) y σ
unfolding reserve_from
changed_from T σ i [] k n x y h year here = absurd (omega arith)
changed_from T σ i (z ∷ xs) zero n x y h year here =
    let first : n ≡ i = omega arith in
    omega (arith, ints, ap (λ t. flow_share (entry T.factors t) x σ) first, ap (λ t. flow_share (entry T.factors t) y σ) first, ap (λ v. flow_share (entry T.factors i) v σ) here)
changed_from T σ i (z ∷ xs) (suc k) n x y h year here = omega (arith, ints, changed_from T σ (i + 1) xs k n x y (omega arith) (omega arith) here)

-- a flow that is posted adds its share to the reserve, and one that is struck takes it away
pub posted : (T : Tables) (xs : List (Option ℤ)) (t : ℕ) (a : ℤ) → t < length xs → get_or xs t None ≡ None → (σ : Side)
    → reserve_from T 0 (set xs t (Some a)) σ ≡ reserve_from T 0 xs σ +ℤ share (entry T.factors t) a σ
posted T xs t a h free σ =
    let e : reserve_from T 0 (set xs t (Some a)) σ +ℤ pos 0 ≡ reserve_from T 0 xs σ +ℤ share (entry T.factors t) a σ = changed_from T σ 0 xs t t None (Some a) h (omega arith) free in
    omega (arith, ints, e)

pub struck : (T : Tables) (xs : List (Option ℤ)) (t : ℕ) (a : ℤ) → t < length xs → get_or xs t None ≡ Some a → (σ : Side)
    → reserve_from T 0 (set xs t None) σ ≡ reserve_from T 0 xs σ -ℤ share (entry T.factors t) a σ
struck T xs t a h held σ =
    let e : reserve_from T 0 (set xs t None) σ +ℤ share (entry T.factors t) a σ ≡ reserve_from T 0 xs σ +ℤ pos 0 = changed_from T σ 0 xs t t (Some a) None h (omega arith) held in
    omega (arith, ints, e)

-- where no flow is refused, what the flows are worth is the reserve
pub reserve_made : (T : Tables) (xs : List (Option ℤ)) (p : ℤ × ℤ) → p ≡ signed_pair (reserve_from T 0 xs) → Ok tt ≡ flows_within T 0 xs → Ok p ≡ asked_reserve T xs
reserve_made T xs p worth kept = ap Ok worth ∙ ap (ok_map (λ _. signed_pair (reserve_from T 0 xs))) kept

-- the reserve for flows of no more than 2^31 kronor each is no larger than so many of the largest portion
share_small : (factors : ℕ × ℕ) (a : ℤ) → ((σ : Side) → side_of σ factors ≤ unit) → SizeWithin 2147483648 a → (σ : Side) → SizeWithin largest (share factors a σ)
share_small factors (pos a) h small σ = let p = portion_small factors a h (omega (arith, ints, small)) σ in (omega (arith, ints), omega (arith, ints))
share_small factors (negsuc a) h small σ = let p = portion_small factors (suc a) h (omega (arith, ints, small)) (opposite σ) in (omega (arith, ints), omega (arith, ints))

pub reserve_small : (T : Tables) → Ordered T → (i : ℕ) (xs : List (Option ℤ)) → i + length xs ≤ 121 → AllWithin 2147483648 xs → (σ : Side) → SizeWithin (largest * length xs) (reserve_from T i xs σ)
unfolding reserve_from
reserve_small T o i [] h small σ = (omega (arith, ints), omega (arith, ints))
reserve_small T o i (x ∷ xs) h small σ =
    let rest = reserve_small T o (i + 1) xs (omega arith) (λ t. small (suc t)) σ in
    let first = flow_small x (small 0) in
    (omega (arith, ints, rest, first), omega (arith, ints, rest, first))
  where
    factors_le_unit : (σ : Side) → side_of σ (entry T.factors i) ≤ unit
    factors_le_unit Low = omega (arith, (o.discounting i (omega arith)).0, (o.discounting i (omega arith)).1)
    factors_le_unit High = (o.discounting i (omega arith)).1

    flow_small : (x : Option ℤ) → IfSome x (SizeWithin 2147483648) → SizeWithin largest (flow_share (entry T.factors i) x σ)
    flow_small None w = (omega (arith, ints), omega (arith, ints))
    flow_small (Some a) w = share_small (entry T.factors i) a factors_le_unit w σ
