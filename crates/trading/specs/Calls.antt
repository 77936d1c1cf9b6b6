-- The calls on a book: what refuses each, and what each comes to.
use Rattle.std.specs.Prelude.{ℕ, ◌-◌, Bool, true, false, cond, not, ◌&&◌, ◌||◌, List, [], ◌∷◌, Some, None, Option, ◌==◌, nat_le}
use Rattle.std.specs.Bool.{beq}
use Rattle.grid.specs.Prices.{is_price}
use Rattle.grid.specs.Neighbours.{next_above, next_below, fault_by}
use Rattle.grid.specs.declared.GridFault.{GridFault}
use Rattle.rules.specs.declared.order.Order.{Order}
use Rattle.trading.specs.declared.stop.StopOrder.{StopOrder}
use Rattle.trading.specs.declared.ticket.Kind.{Kind}
use Rattle.trading.specs.declared.ticket.Kind.TheVariants.{Limit, Market, Stop}
use Rattle.trading.specs.declared.ticket.Ticket.{Ticket}
use Rattle.trading.specs.declared.fault.BookFault.{BookFault}
use Rattle.trading.specs.declared.fault.BookFault.TheVariants.{NumberOutOfRange, QuantityOutOfRange, Unpaired, LimitUnlawful, TriggerUnlawful, OpeningNotPrice, WrongPhase, NumberLive, NumberNotLive, BookFull, StopReached, NoFirstTrade}
use Rattle.trading.specs.declared.answer.Outcome.TheVariants.{Accepted, PriorityKept, PriorityLost}
use Rattle.trading.specs.declared.report.ReportLine.{ReportLine}
use Rattle.trading.specs.declared.report.ReportLine.TheVariants.{Lapse}
use Rattle.trading.specs.declared.state.Phase.TheVariants.{Call as CallPhase}
use Rattle.trading.specs.declared.request.Request.{Request}
use Rattle.trading.specs.declared.request.Request.TheVariants.{Enter, Amend, Cancel, Call, Uncross, End}
use Rattle.trading.specs.Queues.{joined, first_that, without_first, first_changed, stop_ahead}
use Rattle.trading.specs.Books.{Venue, Book, held, is_call, is_continuous, is_ended, is_ioc, is_vfu, with_phase, with_stops, with_orders, reduced}
use Rattle.trading.specs.Ranges.{is_number, is_quantity, is_above0, pair_up}
use Rattle.trading.specs.Sweeps.{Moved, moved, after, join, swept_by, sweeps, reached, then_released}
use Rattle.trading.specs.Effects.{Effect, plainly}
use Rattle.trading.specs.Uncrossings.{all_lapses, emptied, uncrossed}

-- ---- checks

-- a check: whether it holds, and the fault it is then refused with
pub record Check : Type 0 where
  pub holds : Bool
  pub fault : BookFault

abbrev pub check : Bool → BookFault → Check
check holds fault = record { holds = holds; fault = fault }

-- the fault of the first check that holds
abbrev pub first_fault : List Check → Option BookFault
first_fault [] = None
first_fault (c ∷ cs) = let later = first_fault cs in cond c.holds (Some c.fault) later

abbrev pub number_check : ℕ → Check
number_check n = check (not (is_number n)) NumberOutOfRange

abbrev pub quantity_check : ℕ → Check
quantity_check q = check (not (is_quantity q)) QuantityOutOfRange

-- a limit or a trigger above 0 that is not lawful, and why
abbrev pub unlawful : Venue → ℕ → Bool
unlawful v p = is_above0 p && not (v.grid.lawful p)

abbrev pub why_unlawful : Venue → ℕ → GridFault
why_unlawful v p = fault_by (next_above v.grid.lawful v.grid.top p) (next_below v.grid.lawful v.grid.top p)

abbrev pub limit_check : Venue → ℕ → Check
limit_check v p = check (unlawful v p) (LimitUnlawful (why_unlawful v p))

abbrev pub trigger_check : Venue → ℕ → Check
trigger_check v p = check (unlawful v p) (TriggerUnlawful (why_unlawful v p))

abbrev pub ended_check : Book → Check
ended_check b = check (is_ended b.phase) WrongPhase

-- ---- making a book

-- a new book wants an opening price that is a price; it need not be lawful
abbrev pub new_checks : ℕ → List Check
new_checks p = check (not (is_price p)) OpeningNotPrice ∷ []

-- ---- looking for a number

abbrev pub numbered : ℕ → Order → Bool
numbered n o = o.number == n

abbrev pub stop_numbered : ℕ → StopOrder → Bool
stop_numbered n s = s.number == n

-- the first record found under a number, looked for in buys, sells, stops
pub data Place : Type 0 where
  nowhere : Place
  in_buys : Order → Place
  in_sells : Order → Place
  in_stops : StopOrder → Place

abbrev pub place_of : Option Order → Option Order → Option StopOrder → Place
place_of (Some o) y z = in_buys o
place_of None (Some o) z = in_sells o
place_of None None (Some s) = in_stops s
place_of None None None = nowhere

abbrev pub place : ℕ → Book → Place
place n b = place_of (first_that (numbered n) b.buys) (first_that (numbered n) b.sells) (first_that (stop_numbered n) b.stops)

abbrev pub is_somewhere : Place → Bool
is_somewhere nowhere = false
is_somewhere (in_buys o) = true
is_somewhere (in_sells o) = true
is_somewhere (in_stops s) = true

-- among buys or sells
abbrev pub is_order : Place → Bool
is_order nowhere = false
is_order (in_buys o) = true
is_order (in_sells o) = true
is_order (in_stops s) = false

-- the limit of the order found; nothing asks for it where none was found
abbrev pub limit_at : Place → ℕ
limit_at nowhere = 0
limit_at (in_buys o) = o.limit
limit_at (in_sells o) = o.limit
limit_at (in_stops s) = s.limit

-- the quantity of the record found
abbrev pub quantity_at : Place → ℕ
quantity_at nowhere = 0
quantity_at (in_buys o) = o.«open»
quantity_at (in_sells o) = o.«open»
quantity_at (in_stops s) = s.quantity

-- the book without it
abbrev pub taken_out : ℕ → Book → Place → Book
taken_out n b nowhere = b
taken_out n b (in_buys o) = with_orders (without_first (numbered n) b.buys) b.sells b
taken_out n b (in_sells o) = with_orders b.buys (without_first (numbered n) b.sells) b
taken_out n b (in_stops s) = with_stops (without_first (stop_numbered n) b.stops) b

-- the book with q taken off the order found
abbrev pub reduced_by : ℕ → Order → Order
reduced_by q o = reduced o q

abbrev pub cut_by : ℕ → ℕ → Book → Place → Book
cut_by n q b nowhere = b
cut_by n q b (in_buys o) = with_orders (first_changed (numbered n) (reduced_by q) b.buys) b.sells b
cut_by n q b (in_sells o) = with_orders b.buys (first_changed (numbered n) (reduced_by q) b.sells) b
cut_by n q b (in_stops s) = b

-- ---- entering

abbrev pub is_stop : Kind → Bool
is_stop Limit = false
is_stop Market = false
is_stop Stop = true

abbrev pub stop_of : Ticket → StopOrder
stop_of t = record { number = t.number; side = t.side; trigger = t.trigger; limit = t.limit; quantity = t.quantity }

abbrev pub order_of : Ticket → Order
order_of t = record { number = t.number; side = t.side; limit = t.limit; «open» = t.quantity; validity = t.validity }

abbrev pub is_empty : {X : Type 0} → List X → Bool
is_empty [] = true
is_empty (x ∷ xs) = false

-- n is how many records the tables hold at the most
abbrev pub enter_checks : Venue → ℕ → Ticket → Book → List Check
enter_checks v n t b =
    check (is_ended b.phase || (is_call b.phase && is_ioc t.validity)) WrongPhase
    ∷ (number_check t.number
    ∷ (quantity_check t.quantity
    ∷ (check (not (pair_up t.kind t.limit t.trigger t.validity)) Unpaired
    ∷ (limit_check v t.limit
    ∷ (trigger_check v t.trigger
    ∷ (check (is_somewhere (place t.number b)) NumberLive
    ∷ (check (nat_le n (held b)) BookFull
    ∷ (check (is_stop t.kind && reached b.last (stop_of t)) StopReached
    ∷ (check (is_ioc t.validity && is_empty (swept_by v (order_of t) b).trades) NoFirstTrade
    ∷ [])))))))))

-- an order enters: in continuous trading a day or IOC order sweeps; else it joins its queue
abbrev pub enters_as : Venue → Order → Book → Moved
enters_as v o b =
    let swept = sweeps v o b in
    let joins = moved (join o b) [] in
    cond (is_continuous b.phase && not (is_vfu o.validity)) swept joins

-- a stop joins the stops
abbrev pub stop_joins : StopOrder → Book → Moved
stop_joins s b = moved (with_stops (joined stop_ahead s b.stops) b) []

abbrev pub entered : Venue → Ticket → Book → Moved
entered v t b =
    let stop = stop_joins (stop_of t) b in
    let order = enters_as v (order_of t) b in
    cond (is_stop t.kind) stop order

unfoldable pub enter_effect : Venue → Ticket → Book → Effect
enter_effect v t b = plainly Accepted (then_released v (entered v t b))

-- ---- amending

-- a market order stays one, and so does a limit order
abbrev pub amend_checks : Venue → ℕ → ℕ → ℕ → Book → List Check
amend_checks v n limit quantity b =
    ended_check b
    ∷ (number_check n
    ∷ (quantity_check quantity
    ∷ (check (not (is_order (place n b))) NumberNotLive
    ∷ (check (not (beq (limit_at (place n b) == 0) (limit == 0))) Unpaired
    ∷ (limit_check v limit
    ∷ [])))))

-- what is taken off, if anything is
abbrev pub lapse_above0 : ℕ → ℕ → List ReportLine
lapse_above0 n q = cond (q == 0) [] (Lapse n q ∷ [])

-- the same limit and no more quantity
abbrev pub keeps_priority : Order → ℕ → ℕ → Bool
keeps_priority o limit quantity = o.limit == limit && nat_le quantity o.«open»

-- the order with a new limit and quantity
abbrev pub renewed : Order → ℕ → ℕ → Order
renewed o limit quantity = record { number = o.number; side = o.side; limit = limit; «open» = quantity; validity = o.validity }

abbrev pub cut : ℕ → ℕ → Book → Place → Order → Moved
cut n quantity b at o = moved (cut_by n (o.«open» - quantity) b at) (lapse_above0 n (o.«open» - quantity))

abbrev pub enters_again : Venue → ℕ → ℕ → ℕ → Book → Place → Order → Moved
enters_again v n limit quantity b at o = after (Lapse n o.«open» ∷ []) (enters_as v (renewed o limit quantity) (taken_out n b at))

abbrev pub amended : Venue → ℕ → ℕ → ℕ → Book → Place → Order → Effect
amended v n limit quantity b at o =
    let kept = plainly PriorityKept (then_released v (cut n quantity b at o)) in
    let lost = plainly PriorityLost (then_released v (enters_again v n limit quantity b at o)) in
    cond (keeps_priority o limit quantity) kept lost

-- where no order is found the amendment is refused, and this is not asked
abbrev pub amend_at : Venue → ℕ → ℕ → ℕ → Book → Place → Effect
amend_at v n limit quantity b nowhere = plainly PriorityKept (moved b [])
amend_at v n limit quantity b (in_buys o) = amended v n limit quantity b (in_buys o) o
amend_at v n limit quantity b (in_sells o) = amended v n limit quantity b (in_sells o) o
amend_at v n limit quantity b (in_stops s) = plainly PriorityKept (moved b [])

unfoldable pub amend_effect : Venue → ℕ → ℕ → ℕ → Book → Effect
amend_effect v n limit quantity b = amend_at v n limit quantity b (place n b)

-- ---- cancelling

abbrev pub cancel_checks : ℕ → Book → List Check
cancel_checks n b = ended_check b ∷ (number_check n ∷ (check (not (is_somewhere (place n b))) NumberNotLive ∷ []))

unfoldable pub cancel_effect : ℕ → Book → Effect
cancel_effect n b = plainly Accepted (moved (taken_out n b (place n b)) (Lapse n (quantity_at (place n b)) ∷ []))

-- ---- all calls

-- the checks that the book makes of a request, in their order
abbrev pub checks_of : Venue → ℕ → Book → Request → List Check
checks_of v n b (Enter t) = enter_checks v n t b
checks_of v n b (Amend number limit quantity) = amend_checks v number limit quantity b
checks_of v n b (Cancel number) = cancel_checks number b
checks_of v n b Call = check (not (is_continuous b.phase)) WrongPhase ∷ []
checks_of v n b (Uncross next) = check (not (is_call b.phase)) WrongPhase ∷ []
checks_of v n b End = ended_check b ∷ []

-- what a request comes to where none of them holds
abbrev pub effect_of : Venue → Book → Request → Effect
effect_of v b (Enter t) = enter_effect v t b
effect_of v b (Amend number limit quantity) = amend_effect v number limit quantity b
effect_of v b (Cancel number) = cancel_effect number b
effect_of v b Call = plainly Accepted (moved (with_phase CallPhase b) [])
effect_of v b (Uncross next) = uncrossed v next b
effect_of v b End = record { outcome = Accepted; before = []; lapses = all_lapses b; later = []; book = emptied b }
