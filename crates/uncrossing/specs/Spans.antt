-- A part of a table.
use Rattle.std.specs.Prelude.{ℕ, ◌-◌, List, take, drop}
use Rattle.rules.specs.declared.order.Order.{Order}
use Rattle.rules.specs.declared.order.Side.TheVariants.{Buy}
use Rattle.rules.specs.declared.order.Validity.TheVariants.{Day}

-- the records from place i to place n, as `&table[i..n]` has them
abbrev pub span : {X : Type 0} → ℕ → ℕ → List X → List X
span i n xs = take (n - i) (drop i xs)

-- the order that stands for one past the end of a table
abbrev pub blank_order : Order
blank_order = record { number = 0; side = Buy; limit = 0; «open» = 0; validity = Day }
