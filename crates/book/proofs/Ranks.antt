-- Where a maturity stands among quotations in rising order, and what is placed or taken out there.
use Rattle.std.proofs.Common.{◌≡◌, ℕ, suc, ◌+◌, ◌<◌, ◌≤◌, Bool, true, false, cond, not, eqb, ltb, nat_le, List, [], ◌∷◌, map, length, get_or, position, Some, None, sym, refl, ap, ◌∙◌, inl, inr, arith}
use Rattle.std.proofs.lemmas.Bool.{cases_lt, cond-true, cond-false, lt-ltb, le-ltb, both_ways}
use Rattle.std.proofs.lemmas.Bool.Decides.{nat_tests}
use Rattle.std.proofs.lemmas.List.{length-map, get_or-map}
use Rattle.std.proofs.lemmas.List.Sums.{prefix_len-le-length}
use Rattle.std.specs.List.{insert, remove, position_or_len}
use Rattle.instruments.specs.Law.{Meaning}
use Rattle.book.specs.Books.{rank}
use Rattle.book.specs.Register.{is_held, placed, taken_out}

module _ (m : ℕ) (x : Meaning) (xs : List Meaning) where
  pub rank_more : x.maturity < m → rank m (x ∷ xs) ≡ rank m xs + 1
  unfolding rank
  rank_more h = cond-true (ltb x.maturity m) _ _ (lt-ltb _ _ h) ∙ omega arith

  pub rank_here : m ≤ x.maturity → rank m (x ∷ xs) ≡ 0
  unfolding rank
  rank_here h = cond-false (ltb x.maturity m) _ _ (le-ltb _ _ h)

  pub held_more : x.maturity < m → is_held m (x ∷ xs) ≡ is_held m xs
  unfolding is_held
  held_more h = cond-true (ltb x.maturity m) _ _ (lt-ltb _ _ h)

  pub held_here : m ≤ x.maturity → is_held m (x ∷ xs) ≡ eqb x.maturity m
  unfolding is_held
  held_here h = cond-false (ltb x.maturity m) _ _ (le-ltb _ _ h)

pub rank_within : (m : ℕ) (xs : List Meaning) → rank m xs ≤ length xs
unfolding rank
rank_within m xs = prefix_len-le-length _ xs

one_more : {n : ℕ} → 1 + n ≡ suc n
one_more = omega arith

not_le : (m k : ℕ) → not (nat_le m k) ≡ ltb k m
not_le m k = grind (arith, nat_tests)

-- a maturity that is held stands at a place
pub held_rank : (m : ℕ) (xs : List Meaning) → is_held m xs ≡ true → rank m xs < length xs
unfolding is_held
held_rank m [] e = absurd (both_ways false refl e)
held_rank m (x ∷ xs) e = elim (cases_lt x.maturity m) [
  | inl less ↦ omega (arith, rank_more m x xs less, held_rank m xs (sym (held_more m x xs less) ∙ e))
  | inr more ↦ omega (arith, rank_here m x xs more)
]

held_at : (m : ℕ) (xs : List Meaning) (x : Meaning) → rank m xs < length xs → is_held m xs ≡ eqb (get_or xs (rank m xs) x).maturity m
unfolding is_held
held_at m [] x h = absurd (omega arith)
held_at m (y ∷ xs) x h = elim (cases_lt y.maturity m) [
  | inl less ↦
      let next : rank m (y ∷ xs) ≡ suc (rank m xs) = rank_more m y xs less ∙ omega arith in
      held_more m y xs less ∙ held_at m xs x (omega arith) ∙ ap (λ k. eqb (get_or (y ∷ xs) k x).maturity m) (sym next)
  | inr more ↦ held_here m y xs more ∙ ap (λ k. eqb (get_or (y ∷ xs) k x).maturity m) (sym (rank_here m y xs more))
]

-- what a search of rows from the front on tells
module _ {Row : Type 0} (read : Row → Meaning) (m : ℕ) where
  place : (rows : List Row) → position_or_len (λ row. nat_le m (read row).maturity) rows ≡ rank m (map read rows)
  unfolding rank
  place [] = refl
  place (row ∷ rows) = λ i. cond (not_le m (read row).maturity i) (1 + place rows i) 0

  module _ (rows : List Row) where
    pub not_found : None ≡ position (λ row. nat_le m (read row).maturity) rows → (is_held m (map read rows) ≡ false) × (length rows ≡ rank m (map read rows))
    not_found e = grind (arith, place rows, nat_tests, rank_within m (map read rows), held_rank m (map read rows), length-map rows read, e)

    module _ (at : ℕ) (e : Some at ≡ position (λ row. nat_le m (read row).maturity) rows) where
      found : (at < length rows) × (at ≡ rank m (map read rows))
      found = grind (arith, place rows, nat_tests, e)

      pub stands : (row : Row) → row ≡ get_or rows at row → (is_held m (map read rows) ≡ eqb (read row).maturity m) × (at ≡ rank m (map read rows)) × (at < length rows)
      stands row is = (
        held_at m (map read rows) (read row) (omega (arith, found, length-map rows read))
            ∙ ap (λ k. eqb (get_or (map read rows) k (read row)).maturity m) (sym found.1) ∙ ap (λ x. eqb x.maturity m) (get_or-map read rows at row (read row) found.0 ∙ ap read (sym is)),
        found.1,
        found.0,
      )

-- to place a quotation is to insert it at its rank
pub placed_is : (y : Meaning) (xs : List Meaning) → insert xs (rank y.maturity xs) y ≡ placed y xs
unfolding placed rank
placed_is y [] = refl
placed_is y (x ∷ xs) = go (placed_is y xs) (ltb x.maturity y.maturity)
  where
    go : insert xs (rank y.maturity xs) y ≡ placed y xs → (b : Bool) → insert (x ∷ xs) (cond b (1 + rank y.maturity xs) 0) y ≡ cond b (x ∷ placed y xs) (y ∷ (x ∷ xs))
    go rest true = rw one_more (ap (λ l. x ∷ l) rest)
    go rest false = refl

-- and to take one out is to remove what stands at its rank
pub taken_out_is : (m : ℕ) (xs : List Meaning) → remove xs (rank m xs) ≡ taken_out m xs
unfolding taken_out rank
taken_out_is m [] = refl
taken_out_is m (x ∷ xs) = go (taken_out_is m xs) (ltb x.maturity m)
  where
    go : remove xs (rank m xs) ≡ taken_out m xs → (b : Bool) → remove (x ∷ xs) (cond b (1 + rank m xs) 0) ≡ cond b (x ∷ taken_out m xs) xs
    go rest true = rw one_more (ap (λ l. x ∷ l) rest)
    go rest false = refl
