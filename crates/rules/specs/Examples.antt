-- Openings and edges to check by hand, computed on the rules.
use Rattle.std.specs.Prelude.{◌≡◌, ℕ, Bool, true, false, List, [], ◌∷◌, Some, None, Option}
use Rattle.std.specs.List.{AllByRecursion}
use Rattle.grid.specs.Neighbours.{fault_at}
use Rattle.grid.specs.Steps.{on_steps}
use Rattle.ticks.specs.Rows.{on_rows}
use Rattle.grid.specs.declared.GridFault.{GridFault}
use Rattle.grid.specs.declared.GridFault.TheVariants.{PastLast, BetweenSteps}
use Rattle.collar.specs.Bands.{within}
use Rattle.rules.specs.declared.order.Order.{Order}
use Rattle.rules.specs.declared.order.Side.TheVariants.{Buy, Sell}
use Rattle.rules.specs.declared.order.Validity.TheVariants.{Day, Vfu}
use Rattle.rules.specs.declared.opening.Opening.{Opening}
use Rattle.rules.specs.declared.opening.Opening.TheVariants.{NoPrice, Printed}
use Rattle.rules.specs.Auctions.{auction}
use Rattle.rules.specs.Candidates.{Grid, grid_of}
use Rattle.rules.specs.Openings.{opening}

abbrev pub buy : ℕ → ℕ → Order
buy quantity limit = record { number = 1; side = Buy; limit = limit; «open» = quantity; validity = Day }

abbrev pub sell : ℕ → ℕ → Order
sell quantity limit = record { number = 2; side = Sell; limit = limit; «open» = quantity; validity = Day }

abbrev pub market_buy : ℕ → Order
market_buy quantity = record { number = 1; side = Buy; limit = 0; «open» = quantity; validity = Vfu }

abbrev pub market_sell : ℕ → Order
market_sell quantity = record { number = 2; side = Sell; limit = 0; «open» = quantity; validity = Vfu }

-- every price from 1 to 9,999
abbrev pub every_price : Grid
every_price = grid_of (on_steps 1 1 9999)

-- every second price from 100 on
abbrev pub every_second : Grid
every_second = grid_of (on_steps 100 2 9999)

-- rows 1 step 1 and 1,000 step 5, end price 2,000; numbers are looked at up to 9,999
abbrev pub two_rows : Grid
two_rows = record { lawful = on_rows (record { start = 1; step = 1 } ∷ (record { start = 1000; step = 5 } ∷ [])) 2 2000; top = 9999 }

abbrev pub everything : ℕ → ℕ → ℕ → Bool
everything static last p = true

-- what is asked: how a grid opens orders at a last price, all prices being allowed; whether a collar around the last price
-- allows a price; what fault a number has on a grid
pub data Question : Type 0 where
  opens : Grid → ℕ → List Order → List Order → Question
  allows : ℕ → ℕ → ℕ → Question
  checks : Grid → ℕ → Question

pub data Answer : Type 0 where
  outcome : Opening → Answer
  allowed : Bool → Answer
  fault : Option GridFault → Answer

abbrev pub answer_to : Question → Answer
answer_to (opens g last buys sells) = outcome (opening g everything last (auction last buys sells))
answer_to (allows k last p) = allowed (within k last p)
answer_to (checks g p) = fault (fault_at g.lawful g.top p)

pub record Row : Type 0 where
  pub asked : Question
  pub answered : Answer

abbrev pub row : Question → Answer → Row
row q a = record { asked = q; answered = a }

abbrev pub rows : List Row
rows =
    row (opens every_price 100 [] []) (outcome NoPrice)
    ∷ (row (opens every_price 100 (buy 10 100 ∷ []) (sell 10 100 ∷ [])) (outcome (Printed 100 10))
    ∷ (row (opens every_price 98 (buy 10 105 ∷ []) (sell 10 100 ∷ [])) (outcome (Printed 100 10))
    ∷ (row (opens every_price 102 (buy 10 105 ∷ []) (sell 10 100 ∷ [])) (outcome (Printed 102 10))
    ∷ (row (opens every_second 103 (buy 10 104 ∷ []) (sell 10 100 ∷ [])) (outcome (Printed 104 10))
    ∷ (row (opens every_price 100 (buy 10 101 ∷ (buy 5 100 ∷ [])) (sell 10 100 ∷ [])) (outcome (Printed 101 10))
    ∷ (row (opens every_price 100 (market_buy 7 ∷ []) (market_sell 7 ∷ [])) (outcome (Printed 100 7))
    ∷ (row (allows 100 1000 1100) (allowed true)
    ∷ (row (allows 100 1000 1101) (allowed false)
    ∷ (row (checks two_rows 2000) (fault None)
    ∷ (row (checks two_rows 2001) (fault (Some PastLast))
    ∷ (row (checks two_rows 1002) (fault (Some BetweenSteps))
    ∷ [])))))))))))

abbrev pub Right : Row → Type 0
Right r = answer_to r.asked ≡ r.answered

-- every row is right
abbrev pub RowsRight : Type 0
RowsRight = AllByRecursion Right rows
