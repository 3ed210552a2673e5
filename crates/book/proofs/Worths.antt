-- What the flows of a book are worth on its curve, as they are posted and struck.
use Rattle.std.proofs.Common.{◌≡◌, ℕ, zero, suc, ◌*◌, ◌<◌, not, List, [], ◌∷◌, length, get_or, set, replicate, ℤ, ◌+ℤ◌, ◌-ℤ◌, is_some, IfSome, Some, None, Ok, Option, refl, arith}
use Rattle.std.proofs.lemmas.Int.{ints}
use Rattle.instruments.specs.Limits.{if_kept}
use Rattle.instruments.specs.declared.refusal.Refusal.{Refusal}
use Rattle.curve.specs.Market.{entry}
use Rattle.curve.specs.Questions.{signed_pair}
use Rattle.curve.specs.Reserve.{share, reserve_from, signed_of, largest, SizeWithin, AllWithin}
use Rattle.curve.specs.declared.side.Side.{Side}
use Rattle.curve.specs.declared.side.Side.TheVariants.{Low, High}
use Rattle.curve.proofs.Shares.{of_pair, posted, struck, reserve_small}
use Rattle.book.specs.declared.settled.Settled.{Settled}

-- where no flow is held, whatever is said of each amount holds
pub none_held : (n t : ℕ) (P : ℤ → Type 0) → IfSome (get_or (replicate n None) t None) P
none_held zero t P = tt
none_held (suc n) zero P = tt
none_held (suc n) (suc t) P = none_held n t P

-- a flow that is accepted finds its year free, and one that is struck was held
pub was_free : (x : Option ℤ) (r : Refusal) → Ok tt ≡ if_kept (not (is_some x)) r (Ok (tt {0})) → x ≡ None
was_free None r e = refl
was_free (Some a) r e = cc

pub was_held : (x : Option ℤ) (a : ℤ) (r : Refusal) → Ok (Some a) ≡ if_kept (is_some x) r (Ok x) → x ≡ Some a
was_held None a r e = cc
was_held (Some b) a r e = cc

pub held_below : (xs : List (Option ℤ)) (t : ℕ) (a : ℤ) → get_or xs t None ≡ Some a → t < length xs
held_below [] t a e = cc
held_below (x ∷ xs) zero a e = omega arith
held_below (x ∷ xs) (suc t) a e = let below = held_below xs t a e in omega (arith, below)

-- what is kept as the worth of the flows is that
abbrev pub KeptWorth : Settled → List (Option ℤ) → Type 0
KeptWorth s xs = s.worth ≡ signed_pair (reserve_from s.curve.tables 0 xs)

module _ (s : Settled) (xs : List (Option ℤ)) (kept : KeptWorth s xs) where
  -- there is room for one share more
  pub room : length xs ≡ 121 → AllWithin 1000000000 xs → (σ : Side) → SizeWithin (largest * 121) (signed_of σ s.worth)
  room long small σ =
      let at : signed_of σ s.worth ≡ reserve_from s.curve.tables 0 xs σ = of_pair s.worth (reserve_from s.curve.tables 0 xs) kept σ in
      let all = reserve_small s.curve.tables s.curve.ordered 0 xs (omega arith) (λ t. wider (get_or xs t None) (small t)) σ in
      (omega (arith, ints, at, all.0, long), omega (arith, ints, at, all.1, long))
    where
      wider : (x : Option ℤ) → IfSome x (SizeWithin 1000000000) → IfSome x (SizeWithin 2147483648)
      wider None w = tt
      wider (Some a) w = (omega (arith, ints, w.0), omega (arith, ints, w.1))

  module _ (t : ℕ) (a : ℤ) (later : Settled) (ys : List (Option ℤ)) (same : later.curve ≡ s.curve) (within : t < length xs) where
    -- with the share of a flow more it is the worth with that flow, and with a share less the worth without
    pub kept_posted : ((σ : Side) → signed_of σ later.worth ≡ signed_of σ s.worth +ℤ share (entry s.curve.tables.factors t) a σ) → ys ≡ set xs t (Some a) → get_or xs t None ≡ None → KeptWorth later ys
    kept_posted more now free = rw (same, now) (λ k. (at Low k, at High k))
      where
        at : (σ : Side) → signed_of σ later.worth ≡ reserve_from s.curve.tables 0 (set xs t (Some a)) σ
        at σ = omega (arith, ints, more σ, of_pair s.worth (reserve_from s.curve.tables 0 xs) kept σ, posted s.curve.tables xs t a within free σ)

    pub kept_struck : ((σ : Side) → signed_of σ later.worth ≡ signed_of σ s.worth -ℤ share (entry s.curve.tables.factors t) a σ) → ys ≡ set xs t None → get_or xs t None ≡ Some a → KeptWorth later ys
    kept_struck less now held = rw (same, now) (λ k. (at Low k, at High k))
      where
        at : (σ : Side) → signed_of σ later.worth ≡ reserve_from s.curve.tables 0 (set xs t None) σ
        at σ = omega (arith, ints, less σ, of_pair s.worth (reserve_from s.curve.tables 0 xs) kept σ, struck s.curve.tables xs t a within held σ)
