-- Which orders accept a price. A limit of 0 makes a market order, which accepts every price.
use Rattle.std.specs.Prelude.{ℕ, Bool, ◌||◌, ◌==◌, nat_le}
use Rattle.rules.specs.declared.order.Order.{Order}

-- a buy accepts every price up to its limit
abbrev pub accepts_buying : ℕ → Order → Bool
accepts_buying p o = o.limit == 0 || nat_le p o.limit

-- a sell accepts every price from its limit on
abbrev pub accepts_selling : ℕ → Order → Bool
accepts_selling p o = o.limit == 0 || nat_le o.limit p
