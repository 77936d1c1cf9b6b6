-- The number of each refusal; faults of the text, and lines that come too early, have none.
use Rattle.std.specs.Prelude.{ℕ, Some, None, Option}
use Rattle.callbook.specs.declared.order_check.OrderFault.{OrderFault}
use Rattle.callbook.specs.declared.order_check.OrderFault.TheVariants.{QuantityOutOfRange, NoLimit, LimitUnlawful}
use Rattle.callbook.specs.declared.fault.BookFault.{BookFault}
use Rattle.callbook.specs.declared.fault.BookFault.TheVariants.{NoGrid, NoStaticPrice, NoLastPrice, OrdersStand, EvenGridUnfit, TickTableUnfit, CollarUnfit, NotPrice, OrderUnfit, BookFull, NoMemory}

abbrev pub order_refusal : OrderFault → ℕ
order_refusal QuantityOutOfRange = 2
order_refusal NoLimit = 3
order_refusal (LimitUnlawful limit fault below above) = 4

abbrev pub refusal_of : BookFault → Option ℕ
refusal_of NoGrid = None
refusal_of NoStaticPrice = None
refusal_of NoLastPrice = None
refusal_of OrdersStand = None
refusal_of (EvenGridUnfit f) = Some 5
refusal_of (TickTableUnfit f) = Some 5
refusal_of (CollarUnfit f) = Some 5
refusal_of NotPrice = Some 5
refusal_of (OrderUnfit f) = Some (order_refusal f)
refusal_of BookFull = Some 25
refusal_of NoMemory = None
