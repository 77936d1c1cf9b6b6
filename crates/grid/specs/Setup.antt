-- Which numbers make no even grid, and the fault that is told: the first that holds, in the order written here.
use Rattle.std.specs.Prelude.{ℕ, cond, not, Some, None, Option, ◌==◌, nat_lt}
use Rattle.grid.specs.Prices.{is_price}
use Rattle.grid.specs.declared.setup.EvenFault.{EvenFault}
use Rattle.grid.specs.declared.setup.EvenFault.TheVariants.{FirstNotPrice, LastNotPrice, ZeroStep, LastBelowFirst}

-- why a first price, a step and a last price make no even grid
abbrev pub even_fault : ℕ → ℕ → ℕ → Option EvenFault
even_fault first step last =
    cond (not (is_price first)) (Some FirstNotPrice)
    (cond (not (is_price last)) (Some LastNotPrice)
    (cond (step == 0) (Some ZeroStep)
    (cond (nat_lt last first) (Some LastBelowFirst)
    None)))
