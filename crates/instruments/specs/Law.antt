-- What an instrument means, and the law that every kind of instrument owes.
use Rattle.std.specs.Prelude.{◌≡◌, ℕ, ◌<◌, ◌≤◌, Ok, Err, Result}

-- an instrument by what it means: a maturity in years, a price in units (10^-9), and a payment in ppm of nominal for each year
pub record Meaning : Type 0 where
  pub maturity : ℕ
  pub price : ℕ
  pub payment : ℕ → ℕ

-- the law: maturity 1 to 90, price 1 to 2×10^9, payments at most 2×10^6, at least 1 at maturity, and none outside the years 1 to maturity
pub record Lawful (x : Meaning) : Type 0 where
  pub one_year : 1 ≤ x.maturity
  pub ninety_years : x.maturity ≤ 90
  pub priced : 1 ≤ x.price
  pub price_limit : x.price ≤ 2000000000
  pub payment_limit : (t : ℕ) → x.payment t ≤ 2000000
  pub pays : 1 ≤ x.payment x.maturity
  pub none_at_start : x.payment 0 ≡ 0
  pub none_after : (t : ℕ) → x.maturity < t → x.payment t ≡ 0

-- a result with what it holds turned by f, its error as it is
abbrev pub ok_map : {A B E : Type 0} → (A → B) → Result A E → Result B E
ok_map f (Ok x) = Ok (f x)
ok_map f (Err e) = Err e
