-- Which numbers, tickets and records are in range, and what goes together.
use Rattle.std.specs.Prelude.{ℕ, Bool, true, false, not, ◌&&◌, ◌||◌, ◌==◌, nat_le}
use Rattle.grid.specs.Prices.{is_price}
use Rattle.rules.specs.declared.order.Order.{Order}
use Rattle.rules.specs.declared.order.Side.{Side}
use Rattle.rules.specs.declared.order.Side.TheVariants.{Buy, Sell}
use Rattle.rules.specs.declared.order.Validity.{Validity}
use Rattle.rules.specs.declared.order.Validity.TheVariants.{Day, Ioc, Vfu}
use Rattle.trading.specs.declared.stop.StopOrder.{StopOrder}
use Rattle.trading.specs.declared.ticket.Kind.{Kind}
use Rattle.trading.specs.declared.ticket.Kind.TheVariants.{Limit, Market, Stop}
use Rattle.trading.specs.Books.{is_day, is_vfu}

-- an order number is 1 to 99,999,999
abbrev pub is_number : ℕ → Bool
is_number n = nat_le 1 n && nat_le n 99999999

-- a quantity is 1 to 49,999,999
abbrev pub is_quantity : ℕ → Bool
is_quantity q = nat_le 1 q && nat_le q 49999999

abbrev pub is_above0 : ℕ → Bool
is_above0 n = not (n == 0)

-- kind, limit, trigger and validity of a ticket go together: a market ticket has limit 0 and is VFU; every other ticket has a
-- limit above 0; a stop is a day ticket, and a stop alone has a trigger above 0
abbrev pub pair_up : Kind → ℕ → ℕ → Validity → Bool
pair_up Limit limit trigger validity = is_above0 limit && trigger == 0
pair_up Market limit trigger validity = limit == 0 && (trigger == 0 && is_vfu validity)
pair_up Stop limit trigger validity = is_above0 limit && (is_above0 trigger && is_day validity)

abbrev pub same_side : Side → Side → Bool
same_side Buy Buy = true
same_side Buy Sell = false
same_side Sell Buy = false
same_side Sell Sell = true

-- limit and validity of an order that stands in a queue: it is never IOC, and a market order is VFU
abbrev pub may_stand : ℕ → Validity → Bool
may_stand limit Day = is_price limit
may_stand limit Ioc = false
may_stand limit Vfu = limit == 0 || is_price limit

-- an order may stand in the queue of a side
abbrev pub order_fits : Side → Order → Bool
order_fits side o = same_side o.side side && (is_number o.number && (is_quantity o.«open» && may_stand o.limit o.validity))

-- a stop may stand among the stops
abbrev pub stop_fits : StopOrder → Bool
stop_fits s = is_number s.number && (is_quantity s.quantity && (is_price s.trigger && is_price s.limit))
