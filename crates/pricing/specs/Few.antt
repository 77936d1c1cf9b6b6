-- How many orders an auction takes on each side.
use Rattle.std.specs.Prelude.{ℕ, ◌≤◌, List, length}
use Rattle.rules.specs.declared.order.Order.{Order}

abbrev pub max_orders : ℕ
max_orders = 4096

abbrev pub Few : List Order → Type 0
Few orders = length orders ≤ max_orders
