-- Which of two prices is better, by what they execute.
use Rattle.std.specs.Prelude.{ℕ, Bool, ◌&&◌, ◌||◌, ◌==◌, nat_lt}
use Rattle.grid.specs.Prices.{distance}
use Rattle.rules.specs.declared.opening.Score.{Score}

-- x is below y; or they are equal, and the rest decides
abbrev pub below_or : ℕ → ℕ → Bool → Bool
below_or x y rest = nat_lt x y || (x == y && rest)

-- x beats y: more volume, then less surplus, then nearer to the last price, then higher
abbrev pub outranks : ℕ → Score → Score → Bool
outranks last x y =
    below_or y.volume x.volume
    (below_or x.surplus y.surplus
    (below_or (distance x.price last) (distance y.price last)
    (nat_lt y.price x.price)))
