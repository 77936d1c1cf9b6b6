-- What a price is.
use Rattle.std.specs.Prelude.{ℕ, ◌+◌, ◌-◌, Bool, ◌&&◌, nat_le}

-- the highest price
abbrev pub top_price : ℕ
top_price = 99999999

-- a price is 1 to 99,999,999
abbrev pub is_price : ℕ → Bool
is_price p = nat_le 1 p && nat_le p top_price

-- how far two numbers are apart
abbrev pub distance : ℕ → ℕ → ℕ
distance x y = (x - y) + (y - x)
