-- Which numbers make no collar, and the fault that is told: the first that holds, in the order written here.
use Rattle.std.specs.Prelude.{ℕ, cond, not, Some, None, Option, nat_lt}
use Rattle.grid.specs.Prices.{is_price}
use Rattle.collar.specs.declared.CollarFault.{CollarFault}
use Rattle.collar.specs.declared.CollarFault.TheVariants.{LowNotPrice, HighNotPrice, LowAboveHigh, FactorTooLarge}

-- why a low and a high price make no band
abbrev pub band_fault : ℕ → ℕ → Option CollarFault
band_fault low high =
    cond (not (is_price low)) (Some LowNotPrice)
    (cond (not (is_price high)) (Some HighNotPrice)
    (cond (nat_lt high low) (Some LowAboveHigh)
    None))

-- why a number of thousandths makes no collar: it is above 1,000
abbrev pub factor_fault : ℕ → Option CollarFault
factor_fault k = cond (nat_lt 1000 k) (Some FactorTooLarge) None
