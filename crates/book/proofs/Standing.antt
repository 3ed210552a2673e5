-- The promise, proved of registers alone: a valid register stands, and every call keeps a register valid.
use Rattle.std.proofs.Common.{◌≡◌, ℕ, ◌<◌, ◌≤◌, Bool, true, false, cond, not, ltb, List, [], ◌∷◌, ◌++◌, map, length, ℤ, is_some, IfOk, Some, None, Ok, Err, Option, Result, sym, refl, ap, ◌∙◌, subst, inl, inr, arith}
use Rattle.std.proofs.lemmas.Bool.{cases_lt, cond-true, cond-false, lt-ltb, le-ltb, not-true, eqb-false}
use Rattle.instruments.specs.Law.{Meaning, Lawful, ok_map}
use Rattle.instruments.specs.Limits.{if_kept}
use Rattle.instruments.specs.Refusals.{reported}
use Rattle.instruments.specs.declared.refusal.Refusal.{Refusal}
use Rattle.instruments.specs.declared.refusal.Refusal.TheVariants.{NotSettled}
use Rattle.curve.specs.Currencies.{blend_span, after_convergence}
use Rattle.curve.specs.Exact.{ExactCurve, exact_growth, exact_discount, Admitted, Encloses, Tells, Narrow, Rising, ForwardBetween, FactorBetween, RateBetween, ReserveBetween}
use Rattle.curve.specs.Market.{and_then, Ordered}
use Rattle.curve.specs.Questions.{asked_forward, asked_factor}
use Rattle.curve.specs.Rates.{asked_rate}
use Rattle.curve.specs.Reserve.{asked_reserve}
use Rattle.curve.specs.Settling.{settled}
use Rattle.curve.specs.declared.tables.Tables.{Tables}
use Rattle.curve.specs.declared.terms.Blend.{Blend}
use Rattle.curve.proofs.Answered.{forward_ordered, forward_between, factor_ordered, factor_between, rate_ordered, rate_between}
use Rattle.curve.proofs.Blends.{possible_discount}
use Rattle.curve.proofs.ReserveBounds.{reserve_ordered, reserve_between}
use Rattle.curve.proofs.Settled.{settled_ordered, settled_tells}
use Rattle.curve.proofs.Settlement.{admitted_possible}
use Rattle.curve.proofs.Stripped.{AllLawful}
use Rattle.book.specs.Books.{call_means}
use Rattle.book.specs.Flows.{flow_making}
use Rattle.book.specs.Promise.{after, Figured, Ascending, Within, InOrder, Stands, Promise}
use Rattle.book.specs.Register.{Register, Outcome, opened, requoted, marked_settled, is_held, placed, taken_out, flow_of, changed, asking, register_after, answered, told, reply}
use Rattle.book.specs.declared.call.Call.{Call}
use Rattle.book.specs.declared.call.Call.TheVariants.{Enter, Withdraw, Post, Strike, Settle, Forward, Factor, Rate, Reserve}
use Rattle.book.proofs.Ranks.{held_more, held_here}

-- a call that enters a quotation enters a lawful one
abbrev pub LawfulCall : Call Meaning → Type 0
LawfulCall (Enter x) = Lawful x
LawfulCall (Withdraw m) = Unit {0}
LawfulCall (Post t a) = Unit {0}
LawfulCall (Strike t) = Unit {0}
LawfulCall Settle = Unit {0}
LawfulCall (Forward t) = Unit {0}
LawfulCall (Factor t) = Unit {0}
LawfulCall (Rate t) = Unit {0}
LawfulCall Reserve = Unit {0}

abbrev pub AllLawfulCalls : List (Call Meaning) → Type 0
AllLawfulCalls [] = Unit {0}
AllLawfulCalls (call ∷ calls) = LawfulCall call × AllLawfulCalls calls

-- the calls on a kind of instrument are lawful
pub lawful_call : {K : Type 0} (means : K → Meaning) → ((x : K) → Lawful (means x)) → (call : Call K) → LawfulCall (call_means means call)
lawful_call means law (Enter x) = law x
lawful_call means law (Withdraw m) = tt
lawful_call means law (Post t a) = tt
lawful_call means law (Strike t) = tt
lawful_call means law Settle = tt
lawful_call means law (Forward t) = tt
lawful_call means law (Factor t) = tt
lawful_call means law (Rate t) = tt
lawful_call means law Reserve = tt

pub lawful_calls : {K : Type 0} (means : K → Meaning) → ((x : K) → Lawful (means x)) → (calls : List (Call K)) → AllLawfulCalls (map (call_means means) calls)
lawful_calls means law [] = tt
lawful_calls means law (call ∷ calls) = (lawful_call means law call, lawful_calls means law calls)

weaker : (m n : ℕ) (xs : List Meaning) → m ≤ n → Ascending n xs → Ascending m xs
weaker m n [] h a = tt
weaker m n (x ∷ xs) h a = (omega (arith, a.0), a.1)

placed_ascending : (y : Meaning) (xs : List Meaning) (m : ℕ) → m < y.maturity → Ascending m xs → is_held y.maturity xs ≡ false → Ascending m (placed y xs)
unfolding placed
placed_ascending y [] m h a free = (h, tt)
placed_ascending y (x ∷ xs) m h a free = elim (cases_lt x.maturity y.maturity) [
  | inl less ↦ rw (cond-true (ltb x.maturity y.maturity) (x ∷ placed y xs) (y ∷ (x ∷ xs)) (lt-ltb _ _ less)) (a.0, placed_ascending y xs x.maturity less a.1 (sym (held_more y.maturity x xs less) ∙ free))
  | inr more ↦
      let apart : x.maturity ≡ y.maturity → ⊥ = eqb-false _ _ (sym (held_here y.maturity x xs more) ∙ free) in
      let later : y.maturity < x.maturity = elim (cases_lt y.maturity x.maturity) [ inl l ↦ l | inr l ↦ absurd (apart (omega arith)) ] in
      rw (cond-false (ltb x.maturity y.maturity) (x ∷ placed y xs) (y ∷ (x ∷ xs)) (le-ltb _ _ more)) (h, (later, a.1))
]

placed_lawful : (y : Meaning) (xs : List Meaning) → Lawful y → AllLawful xs → AllLawful (placed y xs)
unfolding placed
placed_lawful y [] law laws = (law, tt)
placed_lawful y (x ∷ xs) law laws = go (placed_lawful y xs law laws.1) (ltb x.maturity y.maturity)
  where
    go : AllLawful (placed y xs) → (b : Bool) → AllLawful (cond b (x ∷ placed y xs) (y ∷ (x ∷ xs)))
    go rest true = (laws.0, rest)
    go rest false = (law, laws)

taken_out_ascending : (k : ℕ) (xs : List Meaning) (m : ℕ) → Ascending m xs → Ascending m (taken_out k xs)
unfolding taken_out
taken_out_ascending k [] m a = tt
taken_out_ascending k (x ∷ xs) m a = go (taken_out_ascending k xs x.maturity a.1) (ltb x.maturity k)
  where
    go : Ascending x.maturity (taken_out k xs) → (b : Bool) → Ascending m (cond b (x ∷ taken_out k xs) xs)
    go rest true = (a.0, rest)
    go rest false = weaker m x.maturity xs (omega (arith, a.0)) a.1

taken_out_lawful : (k : ℕ) (xs : List Meaning) → AllLawful xs → AllLawful (taken_out k xs)
unfolding taken_out
taken_out_lawful k [] laws = tt
taken_out_lawful k (x ∷ xs) laws = go (taken_out_lawful k xs laws.1) (ltb x.maturity k)
  where
    go : AllLawful (taken_out k xs) → (b : Bool) → AllLawful (cond b (x ∷ taken_out k xs) xs)
    go rest true = (laws.0, rest)
    go rest false = laws.1

module _ (b : Option Blend) where
  -- lawful quotations in rising order, on the terms given
  record Valid (R : Register) : Type 0 where
    terms : R.span ≡ blend_span b
    laws : AllLawful R.quotations
    ascending : Ascending 0 R.quotations

  valid_kept : (R : Register) (kept : Bool) (refusal : Refusal) (o : Outcome) → Valid R → (kept ≡ true → Valid (register_after R o)) → Valid (register_after R (if_kept kept refusal o))
  valid_kept R true refusal o v h = h refl
  valid_kept R false refusal o v h = v

  asking_same : (R : Register) (q : Tables → Result (ℤ × ℤ) Refusal) → register_after R (asking R q) ≡ R
  asking_same R q = go R.is_settled (and_then (settled R.span R.quotations) q)
    where
      go : (s : Bool) (v : Result (ℤ × ℤ) Refusal) → register_after R (if_kept s NotSettled (ok_map (λ figures. (R, Some figures)) v)) ≡ R
      go true (Ok p) = refl
      go true (Err r) = refl
      go false v = refl

  valid_asking : (R : Register) (q : Tables → Result (ℤ × ℤ) Refusal) → Valid R → Valid (register_after R (asking R q))
  valid_asking R q v = subst Valid (sym (asking_same R q)) v

  valid_settling : (R : Register) (v : Result Tables Refusal) → Valid R → Valid (register_after R (ok_map (λ _. (marked_settled R, None)) v))
  valid_settling R (Ok T) v = record { terms = v.terms; laws = v.laws; ascending = v.ascending }
  valid_settling R (Err r) v = v

  valid_posting : (R : Register) (t : ℕ) (a : ℤ) (IfOk : Result (ℕ × ℤ) Refusal) (o : Outcome) → Valid R → Valid (register_after R o) → Valid (register_after R (and_then IfOk (λ _. o)))
  valid_posting R t a (Ok p) o v w = w
  valid_posting R t a (Err r) o v w = v

  valid_told : (R : Register) (call : Call Meaning) → LawfulCall call → Valid R → Valid (told R call)
  valid_told R (Enter x) law v =
      valid_kept R (not (after_convergence R.span x.maturity)) _ _ v (λ near.
      valid_kept R (not (is_held x.maturity R.quotations)) _ _ v (λ free.
      valid_kept R (ltb (length R.quotations) R.usable) _ (changed (requoted R (placed x R.quotations))) v (λ room.
      record { terms = v.terms; laws = placed_lawful x R.quotations law v.laws; ascending = placed_ascending x R.quotations 0 law.one_year v.ascending (not-true _ free) })))
  valid_told R (Withdraw m) law v = valid_kept R (is_held m R.quotations) _ (changed (requoted R (taken_out m R.quotations))) v (λ held.
      record { terms = v.terms; laws = taken_out_lawful m R.quotations v.laws; ascending = taken_out_ascending m R.quotations 0 v.ascending })
  valid_told R (Post t a) law v = valid_posting R t a (flow_making t a) _ v (valid_kept R (not (is_some (flow_of R t))) _ _ v (λ free. record { terms = v.terms; laws = v.laws; ascending = v.ascending }))
  valid_told R (Strike t) law v = valid_kept R (is_some (flow_of R t)) _ _ v (λ held. record { terms = v.terms; laws = v.laws; ascending = v.ascending })
  valid_told R Settle law v = valid_settling R (settled R.span R.quotations) v
  valid_told R (Forward t) law v = valid_asking R (λ T. asked_forward T t) v
  valid_told R (Factor t) law v = valid_asking R (λ T. asked_factor T t) v
  valid_told R (Rate t) law v = valid_asking R (λ T. asked_rate T t) v
  valid_told R Reserve law v = valid_asking R (λ T. asked_reserve T R.flows) v

  module _ (R : Register) (v : Valid R) where
    -- what holds of every answer from the curve of the quotations holds of the answer to a question
    asking_figured : (q : Tables → Result (ℤ × ℤ) Refusal) (P : ℤ × ℤ → Type 0) → ((T : Tables) → settled R.span R.quotations ≡ Ok T → IfOk (q T) P) → Figured (answered (asking R q)) P
    asking_figured q P h = go R.is_settled (settled R.span R.quotations) refl
      where
        answer : (w : Result (ℤ × ℤ) Refusal) → IfOk w P → Figured (answered (ok_map (λ figures. (R, Some figures)) w)) P
        answer (Ok p) m = m
        answer (Err r) m = tt

        go : (s : Bool) (w : Result Tables Refusal) → settled R.span R.quotations ≡ w → Figured (answered (if_kept s NotSettled (ok_map (λ figures. (R, Some figures)) (and_then w q)))) P
        go false w e = tt
        go true (Ok T) e = answer (q T) (h T e)
        go true (Err r) e = tt

    ordered : (T : Tables) → settled R.span R.quotations ≡ Ok T → Ordered T
    ordered T e = settled_ordered b R.quotations v.laws T (sym (ap (λ s. settled s R.quotations) v.terms) ∙ e)

    tells : (c : ExactCurve) → Admitted R.quotations c → Tells (exact_discount R.span (exact_growth c)) (settled R.span R.quotations)
    tells c a = subst (λ (s : Option (ℕ × ℕ)). Tells (exact_discount s (exact_growth c)) (settled s R.quotations)) (sym v.terms) (settled_tells b R.quotations v.laws c a)

    enclosed : (c : ExactCurve) → Admitted R.quotations c → (T : Tables) → settled R.span R.quotations ≡ Ok T → Encloses T (exact_discount R.span (exact_growth c))
    enclosed c a T e = subst (Tells (exact_discount R.span (exact_growth c))) e (tells c a)

    in_order : InOrder R
    in_order = record {
      forward = λ t. asking_figured (λ T. asked_forward T t) Narrow (λ T e. forward_ordered T (ordered T e) t);
      factor = λ t. asking_figured (λ T. asked_factor T t) Rising (λ T e. factor_ordered T (ordered T e) t);
      rate = λ t. asking_figured (λ T. asked_rate T t) Rising (λ T e. rate_ordered T (ordered T e) t);
      reserve = asking_figured (λ T. asked_reserve T R.flows) Rising (λ T e. reserve_ordered T (ordered T e) R.flows);
    }

    encloses : (c : ExactCurve) → Admitted R.quotations c → Within R (exact_discount R.span (exact_growth c))
    encloses c a =
        let growth = exact_discount R.span (exact_growth c) in
        let possible = possible_discount R.span (exact_growth c) (admitted_possible R.quotations c a) in
        record {
          forward = λ t. asking_figured (λ T. asked_forward T t) (ForwardBetween growth t) (λ T e. forward_between T (ordered T e) t growth (enclosed c a T e));
          factor = λ t. asking_figured (λ T. asked_factor T t) (FactorBetween growth t) (λ T e. factor_between T t growth (enclosed c a T e));
          rate = λ t. asking_figured (λ T. asked_rate T t) (RateBetween growth t) (λ T e. rate_between T t growth possible (enclosed c a T e));
          reserve = asking_figured (λ T. asked_reserve T R.flows) (ReserveBetween growth R.flows) (λ T e. reserve_between T R.flows growth (enclosed c a T e));
        }

    none_admitted : (refusal : Refusal) → reply R Settle ≡ Err refusal → (c : ExactCurve) → Admitted R.quotations c → ((reported refusal).number ≡ 19 → ⊥) × ((reported refusal).number ≡ 20 → ⊥)
    none_admitted refusal e c a = go (settled R.span R.quotations) (tells c a) e
      where
        go : (w : Result Tables Refusal) → Tells (exact_discount R.span (exact_growth c)) w → answered (ok_map (λ _. (marked_settled R, None)) w) ≡ Err refusal → ((reported refusal).number ≡ 19 → ⊥) × ((reported refusal).number ≡ 20 → ⊥)
        go (Ok T) t f = cc
        go (Err r) t f = let same : r ≡ refusal = cc in subst (λ (q : Refusal). ((reported q).number ≡ 19 → ⊥) × ((reported q).number ≡ 20 → ⊥)) same t

    stands : Stands R
    stands = record { ascending = v.ascending; in_order = in_order; encloses = encloses; none_admitted = none_admitted }

  valid_after : (R : Register) (calls rest all : List (Call Meaning)) → all ≡ calls ++ rest → AllLawfulCalls all → Valid R → Valid (after R calls)
  valid_after R [] rest all e laws v = v
  valid_after R (call ∷ calls) rest [] e laws v = cc
  valid_after R (call ∷ calls) rest (first ∷ others) e laws v =
      let same : first ≡ call = cc in
      let tail : others ≡ calls ++ rest = cc in
      valid_after (told R call) calls rest others tail laws.1 (valid_told R call (subst LawfulCall same laws.0) v)

  pub promised : (usable : ℕ) (calls : List (Call Meaning)) → AllLawfulCalls calls → Promise (blend_span b) usable calls
  unfolding opened
  promised usable calls laws before rest e = stands (after (opened (blend_span b) usable) before) (valid_after (opened (blend_span b) usable) before rest calls e laws (record { terms = refl; laws = tt; ascending = tt }))
