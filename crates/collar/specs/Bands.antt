-- Which prices a collar allows: those in a band, or those near a price.
use Rattle.std.specs.Prelude.{ℕ, ◌*◌, Bool, ◌&&◌, nat_le}
use Rattle.grid.specs.Prices.{distance}

-- p is from low to high, both allowed
abbrev pub in_band : ℕ → ℕ → ℕ → Bool
in_band low high p = nat_le low p && nat_le p high

-- p is at most k thousandths of the base price away from it
abbrev pub within : ℕ → ℕ → ℕ → Bool
within k base p = nat_le (1000 * distance p base) (k * base)
