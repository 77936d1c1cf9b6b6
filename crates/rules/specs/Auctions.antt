-- What a price executes in a call auction.
use Rattle.std.specs.Prelude.{ℕ, ◌+◌, min, Bool, cond, List, [], ◌∷◌}
use Rattle.rules.specs.declared.order.Order.{Order}
use Rattle.rules.specs.declared.opening.Score.{Score}
use Rattle.rules.specs.Accepts.{accepts_buying, accepts_selling}
use Rattle.grid.specs.Prices.{distance}
use Rattle.rules.specs.Outranks.{outranks}

-- what the price of a call auction depends on: the last price and the orders on both sides
pub record Auction : Type 0 where
  pub last : ℕ
  pub buys : List Order
  pub sells : List Order

abbrev pub auction : ℕ → List Order → List Order → Auction
auction last buys sells = record { last = last; buys = buys; sells = sells }

-- the sum of f over a list
abbrev pub total : {X : Type 0} → (X → ℕ) → List X → ℕ
total f [] = 0
total f (x ∷ xs) = f x + total f xs

-- what a buy, or a sell, would trade at p
abbrev pub bought_at : ℕ → Order → ℕ
bought_at p o = cond (accepts_buying p o) o.«open» 0

abbrev pub sold_at : ℕ → Order → ℕ
sold_at p o = cond (accepts_selling p o) o.«open» 0

-- the buy total at p: what the buys that accept p have open
unfoldable pub buy_total : List Order → ℕ → ℕ
buy_total buys p = total (bought_at p) buys

-- the sell total at p: what the sells that accept p have open
unfoldable pub sell_total : List Order → ℕ → ℕ
sell_total sells p = total (sold_at p) sells

-- what p executes: the smaller total
abbrev pub volume : Auction → ℕ → ℕ
volume a p = min (buy_total a.buys p) (sell_total a.sells p)

-- what p leaves over: the difference of the totals, without sign
abbrev pub surplus : Auction → ℕ → ℕ
surplus a p = distance (buy_total a.buys p) (sell_total a.sells p)

abbrev pub score_of : Auction → ℕ → Score
score_of a p = record { price = p; volume = volume a p; surplus = surplus a p }

-- p beats q
abbrev pub beats : Auction → ℕ → ℕ → Bool
beats a p q = outranks a.last (score_of a p) (score_of a q)
