-- Tables whose growths after the last year are filled at the end alone.
use Rattle.std.proofs.Common.{◌≡◌, ℕ, ◌+◌, ◌≤◌, leb, replicate, sym, refl, ap, ◌∙◌, arith}
use mathlib.Core.Path.{fun_ext}
use Rattle.std.proofs.lemmas.List.{length-replicate}
use Rattle.std.proofs.lemmas.Bool.{cond_both, cond-true, cond-false, leb-true}
use Rattle.instruments.specs.Law.{Meaning, ok_map}
use Rattle.curve.specs.Gaps.{held_on}
use Rattle.curve.specs.Market.{InRange, Ordered, by_year, entry, extended, extended_factors, extended_growths, found_growths, stepped, tightened, unstripped, with_gap, worth_at}
use Rattle.curve.specs.Range.{least}
use Rattle.curve.specs.declared.tables.Tables.{Tables}
use Rattle.curve.proofs.Bounds.{everywhere}
use Rattle.curve.proofs.Extension.{table_is}
use Rattle.curve.proofs.Gaps.{entry_by_year}

module _ (T : Tables) (ends : T.last ≤ 120) where
  -- the growths up to the last year are as they were
  held_growths : (growths : ℕ × ℕ) (t : ℕ) → extended_growths (held_on T) growths t ≡ extended_growths T growths t
  held_growths growths t = cond_both (leb t T.last) (entry (held_on T).growths t) growths (λ z. z ≡ extended_growths T growths t)
      (λ e. entry_by_year (extended_growths T (entry T.growths T.last)) t (omega (arith, leb-true _ _ e)) ∙ cond-true (leb t T.last) _ _ e ∙ sym (cond-true (leb t T.last) _ growths e))
      (λ e. sym (cond-false (leb t T.last) (entry T.growths t) growths e))

  -- a gap asks for no others
  pub gap_held : (x : Meaning) → with_gap (held_on T) x ≡ with_gap T x
  unfolding with_gap worth_at extended tightened stepped
  gap_held x = ap (λ f. ok_map f (found_growths (worth_at T x) x)) (fun_ext (λ growths. λ i. record { last = x.maturity; growths = by_year (fun_ext (held_growths growths) i); factors = by_year (extended_factors T x growths) }))

  -- it stays ordered
  pub held_ordered : Ordered T → Ordered (held_on T)
  held_ordered o = record {
    ends = o.ends;
    growing = λ t h. rw (entry_by_year (extended_growths T (entry T.growths T.last)) t h) (cond_both (leb t T.last) (entry T.growths t) (entry T.growths T.last) InRange (λ e. o.growing t h) (λ e. o.growing T.last o.ends));
    near = λ t h. rw (entry_by_year (extended_growths T (entry T.growths T.last)) t h) (cond_both (leb t T.last) (entry T.growths t) (entry T.growths T.last) (λ p. p.1 ≤ p.0 + 1000) (λ e. o.near t h) (λ e. o.near T.last o.ends));
    discounting = o.discounting;
  }

-- before any quotation all years are alike
pub start_held : held_on unstripped ≡ unstripped
unfolding unstripped
start_held =
    let p : ℕ × ℕ = (least, least) in
    let all = table_is (extended_growths unstripped p) (replicate 121 p) (length-replicate 121 p)
    (λ t h. cond_both (leb t 0) (entry (replicate 121 p) t) p (λ z. entry (replicate 121 p) t ≡ z) (λ e. refl) (λ e. everywhere p t (omega arith))) in
    λ i. record { last = 0; growths = (sym all) i; factors = unstripped.factors }
