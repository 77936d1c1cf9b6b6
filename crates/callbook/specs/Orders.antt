-- Which orders may stand in a call book.
use Rattle.std.specs.Prelude.{◌≡◌, ℕ, ◌<◌, Bool, true, false, ◌&&◌, Ok, Err, Result, nat_le}
use Rattle.grid.specs.Neighbours.{Lawful, Unlawful, NextAbove, NextBelow}
use Rattle.script.specs.declared.statement.OrderPrice.{OrderPrice}
use Rattle.script.specs.declared.statement.OrderPrice.TheVariants.{Limit, Market}
use Rattle.callbook.specs.declared.order_check.OrderFault.{OrderFault}
use Rattle.callbook.specs.declared.order_check.OrderFault.TheVariants.{QuantityOutOfRange, NoLimit, LimitUnlawful}

-- a quantity is 1 to 49,999,999
abbrev pub is_quantity : ℕ → Bool
is_quantity q = nat_le 1 q && nat_le q 49999999

-- l is the limit that an order keeps: 0 for a market order, else a lawful limit above 0
abbrev pub Kept : (ℕ → Bool) → OrderPrice → ℕ → Type 0
Kept lawful Market l = l ≡ 0
Kept lawful (Limit x) l = (l ≡ x) × (0 < x) × Lawful lawful x

-- f is what is wrong with the limit
abbrev pub LimitFault : (ℕ → Bool) → OrderPrice → OrderFault → Type 0
LimitFault lawful Market f = ⊥
LimitFault lawful (Limit x) QuantityOutOfRange = ⊥
LimitFault lawful (Limit x) NoLimit = x ≡ 0
LimitFault lawful (Limit x) (LimitUnlawful limit fault below above) = (limit ≡ x) × (0 < x) × Unlawful lawful x fault × NextBelow lawful x below × NextAbove lawful x above

-- the first that is wrong is told: the quantity, then the limit
abbrev pub Faulty : (ℕ → Bool) → ℕ → OrderPrice → OrderFault → Type 0
Faulty lawful q price QuantityOutOfRange = is_quantity q ≡ false
Faulty lawful q price NoLimit = (is_quantity q ≡ true) × LimitFault lawful price NoLimit
Faulty lawful q price (LimitUnlawful limit fault below above) = (is_quantity q ≡ true) × LimitFault lawful price (LimitUnlawful limit fault below above)

abbrev pub OrderChecked : (ℕ → Bool) → ℕ → OrderPrice → Result ℕ OrderFault → Type 0
OrderChecked lawful q price (Ok l) = (is_quantity q ≡ true) × Kept lawful price l
OrderChecked lawful q price (Err f) = Faulty lawful q price f
