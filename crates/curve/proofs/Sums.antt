-- The worth of an instrument's payments at a curve, summed year by year.
use Rattle.std.proofs.Common.{◌≡◌, ℕ, zero, suc, ◌<◌, ◌+◌, ◌-◌, ◌*◌, ◌^◌, ◌≤◌, min, sym, refl, ap, ◌∙◌, inl, inr, arith}
use Rattle.std.proofs.lemmas.Bool.{cases_lt}
use Rattle.instruments.specs.Law.{Meaning, Lawful}
use Rattle.curve.specs.Market.{Ordered, factor_of}
use Rattle.curve.specs.Range.{unit}
use Rattle.curve.specs.Steps.{side_of, pair, step}
use Rattle.curve.specs.Worths.{continued, level, worth, after, worth_from}
use Rattle.curve.specs.declared.side.Side.{Side}
use Rattle.curve.specs.declared.side.Side.TheVariants.{Low, High}
use Rattle.curve.specs.declared.tables.Tables.{Tables}
use Rattle.curve.proofs.Bounds.{factor_small, payment_small}
use Rattle.curve.proofs.Continuation.{continued_known, continued_turn, worth_turn, worth_past, worth_none, after_yet, after_late, after_none}
use Rattle.curve.proofs.Shares.{pair_side}

-- the worths of the years before t
abbrev pub Known : Tables → Meaning → ℕ → ℕ × ℕ → Type 0
Known T x t known = (σ : Side) → side_of σ known ≡ worth x.payment (factor_of T σ) (t - 1)

pub known_none : (T : Tables) (x : Meaning) → Known T x 1 (0, 0)
unfolding worth
known_none T x Low = refl
known_none T x High = refl

pub known_more : (T : Tables) (x : Meaning) (t p : ℕ) (known sums : ℕ × ℕ) → 1 ≤ t → p ≡ x.payment t → Known T x t known → sums ≡ pair (λ σ. side_of σ known + p * factor_of T σ t) → Known T x (t + 1) sums
known_more T x t p known sums one paid so are σ =
    let e : t + 1 - 1 ≡ t = omega arith in
    let sum : side_of σ sums ≡ side_of σ known + p * factor_of T σ t = ap (side_of σ) are ∙ pair_side (λ τ. side_of τ known + p * factor_of T τ t) σ in
    let product : p * factor_of T σ t ≡ x.payment t * factor_of T σ t = ap (λ n. n * factor_of T σ t) paid in
    rw e (omega (arith, sum, product, so σ, worth_turn x.payment (factor_of T σ) t one))

worth_small : (pay f : ℕ → ℕ) (n : ℕ) → ((t : ℕ) → pay t ≤ 2000000) → ((t : ℕ) → t ≤ n → f t ≤ unit) → worth pay f n ≤ 2000000000000000 * n
unfolding worth
worth_small pay f zero few small = omega arith
worth_small pay f (suc n) few small = omega (arith, worth_small pay f n few (λ t a. small t (omega arith)), payment_small (pay (suc n)) (f (suc n)) (few (suc n)) (small (suc n) (omega arith)))

-- at factors that are at most 1 there is room for the next
pub known_fits : (T : Tables) {x : Meaning} → Lawful x → (n : ℕ) → n ≤ 120 → ((σ : Side) (t : ℕ) → t ≤ n → factor_of T σ t ≤ unit) → (t p : ℕ) (known : ℕ × ℕ) → t ≤ n → p ≡ x.payment t → Known T x t known
    → (σ : Side) → side_of σ known + p * factor_of T σ t < 2 ^ 64
known_fits T {x} law n room small t p known within paid so σ =
    omega (arith, so σ, worth_small x.payment (factor_of T σ) (t - 1) law.payment_limit (λ u a. small σ u (omega arith)), payment_small p (factor_of T σ t) (omega (arith, paid, law.payment_limit t)) (small σ t within))

-- the worths of the years up to the curve's last
pub record Whole (T : Tables) (x : Meaning) (known : ℕ × ℕ) : Type 0 where
  pub all : known ≡ pair (λ σ. worth x.payment (factor_of T σ) T.last)
  pub small : (σ : Side) → side_of σ known ≤ 240000000000000000

-- there is none after maturity
pub known_whole : {T : Tables} → Ordered T → {x : Meaning} → Lawful x → (t : ℕ) (known : ℕ × ℕ) → t ≡ min x.maturity T.last + 1 → Known T x t known → Whole T x known
known_whole {T} o {x} law t known stopped so = record {
  all = λ k. (side Low k, side High k);
  small = λ σ. omega (arith, side σ, worth_small x.payment (factor_of T σ) T.last law.payment_limit (λ u a. factor_small T o σ u (omega (arith, o.ends))), o.ends);
}
  where
    side : (σ : Side) → side_of σ known ≡ worth x.payment (factor_of T σ) T.last
    side σ = elim (cases_lt x.maturity T.last) [
      | inl past ↦ let e : t - 1 ≡ x.maturity = omega arith in so σ ∙ ap (worth x.payment (factor_of T σ)) e ∙ sym (worth_past x.payment (factor_of T σ) x.maturity T.last law.none_after (omega arith))
      | inr whole ↦ let e : t - 1 ≡ T.last = omega arith in so σ ∙ ap (worth x.payment (factor_of T σ)) e
    ]

-- the years of a gap that begins after year s: the factor and the worth of those before t
module _ (σ : Side) (known start s : ℕ) (pay : ℕ → ℕ) (g : ℕ) where
  abbrev gone : ℕ → ℕ
  gone = continued σ (level start) s (level g)

  abbrev pub Gone : ℕ → ℕ → ℕ → Type 0
  Gone t factor w = (s < t) × (factor ≡ gone (t - 1)) × (w ≡ known + worth (after s pay) gone (t - 1))

  pub gone_none : Gone (s + 1) start known
  gone_none =
      let e : s + 1 - 1 ≡ s = omega arith in
      (omega arith, rw e (sym (continued_known σ (level start) s (level g) s (omega arith))), rw e (omega (arith, worth_none (after s pay) gone s (after_yet s pay))))

  pub gone_more : (t p factor w next : ℕ) → Gone t factor w → p ≡ pay t → next ≡ step σ factor g → Gone (t + 1) next (w + p * next)
  gone_more t p factor w next so paid is =
      let e : t + 1 - 1 ≡ t = omega arith in
      let here : next ≡ gone t = is ∙ ap (λ q. step σ q g) so.1 ∙ sym (continued_turn σ (level start) s (level g) t so.0) in
      let after_paid : p ≡ after s pay t = paid ∙ sym (after_late s pay t so.0) in
      let product : p * next ≡ after s pay t * gone t = cc in
      (omega (arith, so.0), rw e here, rw e (omega (arith, so.2, product, worth_turn (after s pay) gone t (omega (arith, so.0)))))

  pub gone_all : (t m factor w : ℕ) → Gone t factor w → ((u : ℕ) → m < u → pay u ≡ 0) → m < t → w ≡ worth_from σ known start s pay m g
  unfolding worth_from
  gone_all t m factor w so none past = omega (arith, so.2, worth_past (after s pay) gone m (t - 1) (after_none s pay m none) (omega arith))
