-- The quotations after a row is entered or withdrawn.
use Rattle.std.proofs.Common.{◌≡◌, ℕ, suc, ◌+◌, ◌-◌, ◌<◌, ◌≤◌, List, ◌∷◌, ◌++◌, map, length, take, drop, sym, ap, ◌∙◌}
use Rattle.std.proofs.lemmas.List.{length-take-le, length-map, map-append, take-map, drop-map}
use Rattle.std.specs.List.{insert, remove}
use Rattle.instruments.specs.Law.{Meaning}
use Rattle.book.specs.Books.{rank}
use Rattle.book.specs.Register.{placed, taken_out}
use Rattle.book.specs.Rows.{entered, withdrawn}
use Rattle.book.proofs.Ranks.{placed_is, taken_out_is}
use Rattle.book.proofs.Shifts.{entered_used, withdrawn_used}

map_inserted : {X Y : Type 0} (f : X → Y) (xs : List X) (i : ℕ) (x : X) → map f (insert xs i x) ≡ insert (map f xs) i (f x)
map_inserted f xs i x = map-append f (take i xs) (x ∷ drop i xs) ∙ (λ j. sym (take-map f i xs) j ++ (f x ∷ sym (drop-map f i xs) j))

map_removed : {X Y : Type 0} (f : X → Y) (xs : List X) (i : ℕ) → map f (remove xs i) ≡ remove (map f xs) i
map_removed f xs i = map-append f (take i xs) (drop (suc i) xs) ∙ (λ j. sym (take-map f i xs) j ++ sym (drop-map f (suc i) xs) j)

module _ {Row : Type 0} (read : Row → Meaning) (rows : List Row) (len at : ℕ) where
  pub count_is : len ≤ length rows → length (map read (take len rows)) ≡ len
  count_is within = length-map (take len rows) read ∙ length-take-le len rows within

  module _ (row : Row) (h : at ≤ len) (room : len < length rows) where
    pub entered_quoted : at ≡ rank (read row).maturity (map read (take len rows)) → map read (take (len + 1) (entered rows len at row)) ≡ placed (read row) (map read (take len rows))
    entered_quoted there =
        ap (map read) (entered_used rows len at row h room) ∙ map_inserted read (take len rows) at row
        ∙ ap (λ k. insert (map read (take len rows)) k (read row)) there ∙ placed_is (read row) (map read (take len rows))

  module _ (h : at < len) (within : len ≤ length rows) where
    pub withdrawn_quoted : (m : ℕ) → at ≡ rank m (map read (take len rows)) → map read (take (len - 1) (withdrawn rows len at)) ≡ taken_out m (map read (take len rows))
    withdrawn_quoted m there =
        ap (map read) (withdrawn_used rows len at h within) ∙ map_removed read (take len rows) at
        ∙ ap (remove (map read (take len rows))) there ∙ taken_out_is m (map read (take len rows))
