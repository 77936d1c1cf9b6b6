-- Small sessions to check by hand, computed on the rules.
use Rattle.std.specs.Prelude.{◌≡◌, ℕ, Bool, true, List, [], ◌∷◌, ◌++◌, length, drop, replicate, Some, None, Option}
use Rattle.std.specs.List.{AllByRecursion}
use Rattle.grid.specs.Steps.{on_steps}
use Rattle.grid.specs.declared.GridFault.TheVariants.{PastLast, BelowFirst, BetweenSteps}
use Rattle.collar.specs.Bands.{within}
use Rattle.rules.specs.declared.order.Order.{Order}
use Rattle.rules.specs.declared.order.Side.{Side}
use Rattle.rules.specs.declared.order.Side.TheVariants.{Buy, Sell}
use Rattle.rules.specs.declared.order.Validity.{Validity}
use Rattle.rules.specs.declared.order.Validity.TheVariants.{Day, Ioc, Vfu}
use Rattle.rules.specs.declared.opening.Opening.TheVariants.{NoPrice, Printed, RefusedByCollar}
use Rattle.rules.specs.Examples.{RowsRight}
use Rattle.trading.specs.declared.stop.StopOrder.{StopOrder}
use Rattle.trading.specs.declared.ticket.Kind.{Kind}
use Rattle.trading.specs.declared.ticket.Kind.TheVariants.{Limit, Market, Stop}
use Rattle.trading.specs.declared.fault.BookFault.{BookFault}
use Rattle.trading.specs.declared.fault.BookFault.TheVariants.{NumberOutOfRange, QuantityOutOfRange, Unpaired, LimitUnlawful, TriggerUnlawful, OpeningNotPrice, ReportTooShort, NotWellFormed, WrongPhase, NumberLive, NumberNotLive, BookFull, StopReached, NoFirstTrade}
use Rattle.trading.specs.declared.answer.Outcome.{Outcome}
use Rattle.trading.specs.declared.answer.Outcome.TheVariants.{Accepted, PriorityKept, PriorityLost, Uncrossed}
use Rattle.trading.specs.declared.report.ReportLine.{ReportLine}
use Rattle.trading.specs.declared.report.ReportLine.TheVariants.{Trade, Lapse}
use Rattle.trading.specs.declared.state.Phase.{Phase}
use Rattle.trading.specs.declared.state.Phase.TheVariants.{Call as CallPhase, Continuous, Ended}
use Rattle.trading.specs.declared.state.State.{State}
use Rattle.trading.specs.declared.request.Next.TheVariants.{Trading, Close}
use Rattle.trading.specs.declared.request.Request.{Request}
use Rattle.trading.specs.declared.request.Request.TheVariants.{Enter, Amend, Cancel, Call, Uncross, End}
use Rattle.trading.specs.Books.{Venue, Book, new_book, new_state, with_prices, blank_order, blank_stop}
use Rattle.trading.specs.Effects.{lines_of}
use Rattle.trading.specs.Calls.{first_fault, new_checks}
use Rattle.trading.specs.Desks.{Desk, desk_of, Ruling, refused, taken, ruling}

-- ---- what the examples are written in

abbrev pub enter : ℕ → Side → Kind → ℕ → ℕ → ℕ → Validity → Request
enter n side kind limit trigger q validity =
    Enter (record { number = n; side = side; kind = kind; limit = limit; trigger = trigger; quantity = q; validity = validity })

-- the number, the limit and the quantity
abbrev pub buy : ℕ → ℕ → ℕ → Request
buy n limit q = enter n Buy Limit limit 0 q Day

abbrev pub sell : ℕ → ℕ → ℕ → Request
sell n limit q = enter n Sell Limit limit 0 q Day

abbrev pub ioc_buy : ℕ → ℕ → ℕ → Request
ioc_buy n limit q = enter n Buy Limit limit 0 q Ioc

abbrev pub ioc_sell : ℕ → ℕ → ℕ → Request
ioc_sell n limit q = enter n Sell Limit limit 0 q Ioc

abbrev pub vfu_buy : ℕ → ℕ → ℕ → Request
vfu_buy n limit q = enter n Buy Limit limit 0 q Vfu

abbrev pub vfu_sell : ℕ → ℕ → ℕ → Request
vfu_sell n limit q = enter n Sell Limit limit 0 q Vfu

-- the number and the quantity
abbrev pub market_buy : ℕ → ℕ → Request
market_buy n q = enter n Buy Market 0 0 q Vfu

abbrev pub market_sell : ℕ → ℕ → Request
market_sell n q = enter n Sell Market 0 0 q Vfu

-- the number, the trigger, the limit and the quantity
abbrev pub stop_buy : ℕ → ℕ → ℕ → ℕ → Request
stop_buy n trigger limit q = enter n Buy Stop limit trigger q Day

abbrev pub stop_sell : ℕ → ℕ → ℕ → ℕ → Request
stop_sell n trigger limit q = enter n Sell Stop limit trigger q Day

abbrev pub uncross : Request
uncross = Uncross Trading

abbrev pub close : Request
close = Uncross Close

-- what a call is seen to do
pub data Seen : Type 0 where
  says : Outcome → List ReportLine → Phase → Seen
  turns_away : BookFault → Seen

-- ---- running them

-- every price from 1 to 9,999, everything allowed
abbrev pub everything : ℕ → ℕ → ℕ → Bool
everything static last p = true

abbrev pub around : ℕ → ℕ → ℕ → ℕ → Bool
around k static last p = within k last p

abbrev pub around_static : ℕ → ℕ → ℕ → ℕ → Bool
around_static k static last p = within k static p

abbrev pub venue : ℕ → ℕ → (ℕ → ℕ → ℕ → Bool) → Venue
venue first step allows = record { grid = record { lawful = on_steps first step 9999; top = 9999 }; allows = allows }

abbrev pub free : Venue
free = venue 1 1 everything

-- a tenth around the last price
abbrev pub collared : Venue
collared = venue 1 1 (around 100)

-- a tenth around the static price
abbrev pub collared_static : Venue
collared_static = venue 1 1 (around_static 100)

abbrev pub every_second : Venue
every_second = venue 100 2 everything

abbrev pub state_of : Book → State
state_of b = record { phase = b.phase; buys = length b.buys; sells = length b.sells; stops = length b.stops; static_price = b.static; last = b.last }

-- a queue laid over the front of its table
abbrev pub laid : {X : Type 0} → List X → List X → List X
laid queue table = queue ++ drop (length queue) table

-- one way for a book to lie in the tables of a desk
abbrev pub laid_out : Desk → Book → Desk
laid_out d b = desk_of (state_of b) (laid b.buys d.buys) (laid b.sells d.sells) (laid b.stops d.stops)

-- a new book with tables of n records
abbrev pub new_desk : ℕ → ℕ → Desk
new_desk n p = desk_of (new_state p) (replicate n blank_order) (replicate n blank_order) (replicate n blank_stop)

-- the number, the side, the limit, what is open, and the validity
abbrev pub order_record : ℕ → Side → ℕ → ℕ → Validity → Order
order_record n side limit q validity = record { number = n; side = side; limit = limit; «open» = q; validity = validity }

-- the number, the side, the trigger, the limit and the quantity
abbrev pub stop_record : ℕ → Side → ℕ → ℕ → ℕ → StopOrder
stop_record n side trigger limit q = record { number = n; side = side; trigger = trigger; limit = limit; quantity = q }

-- tables of n records with these in front; both prices are 100
abbrev pub holding : ℕ → Phase → List Order → List Order → List StopOrder → Desk
holding n phase buys sells stops = laid_out (new_desk n 100) (record { phase = phase; static = 100; last = 100; buys = buys; sells = sells; stops = stops })

abbrev pub desk_after : Desk → Ruling → Desk
desk_after d (refused f) = d
desk_after d (taken e) = laid_out d e.book

abbrev pub seen : Ruling → Seen
seen (refused f) = turns_away f
seen (taken e) = says e.outcome (lines_of e) e.book.phase

-- what is seen of calls, each with a report of `room` lines
unfoldable pub run : Venue → ℕ → Desk → List Request → List Seen
run v room d [] = []
run v room d (q ∷ qs) = let r = ruling v d room q in seen r ∷ run v room (desk_after d r) qs

pub record Example : Type 0 where
  pub venue_is : Venue
  pub room : ℕ
  pub desk : Desk
  pub calls : List Request
  pub sights : List Seen

-- from a new book with tables of 8 records and a report of 9 lines
abbrev pub example : Venue → ℕ → List Request → List Seen → Example
example v opening calls sights = record { venue_is = v; room = 9; desk = new_desk 8 opening; calls = calls; sights = sights }

abbrev pub on_desk : ℕ → Desk → List Request → List Seen → Example
on_desk room d calls sights = record { venue_is = free; room = room; desk = d; calls = calls; sights = sights }

-- in call, in continuous trading: accepted, with no lines
abbrev pub ok : Seen
ok = says Accepted [] CallPhase

abbrev pub okc : Seen
okc = says Accepted [] Continuous

abbrev pub starts : Seen
starts = says (Uncrossed NoPrice) [] Continuous

-- refused by 21, whatever is asked
abbrev pub malformed : ℕ → Desk → Example
malformed room d = on_desk room d (End ∷ []) (turns_away NotWellFormed ∷ [])

-- a count that does not fit its table
abbrev pub broken : Desk
broken = desk_of (record { phase = CallPhase; buys = 9; sells = 0; stops = 0; static_price = 100; last = 100 }) (replicate 8 blank_order) (replicate 8 blank_order) (replicate 8 blank_stop)

-- a new book over tables of different lengths
abbrev pub uneven : Desk
uneven = desk_of (new_state 100) (replicate 4 blank_order) (replicate 3 blank_order) (replicate 1 blank_stop)

-- two buys of one number, the first with a limit that no price of the grid is; behind them sells, IOC, with nothing open
abbrev pub unasked : Desk
unasked = desk_of (record { phase = CallPhase; buys = 2; sells = 0; stops = 0; static_price = 100; last = 100 }) (order_record 1 Buy 10000 2 Day ∷ order_record 1 Buy 99 1 Day ∷ replicate 6 (order_record 0 Sell 7 0 Ioc)) (replicate 8 blank_order) (replicate 8 blank_stop)

-- ---- the examples

abbrev pub examples : List Example
examples =
    -- an opening: the better buys and sells trade, the rest stays
    example free 100 (buy 1 101 10 ∷ buy 2 100 5 ∷ sell 3 100 12 ∷ uncross ∷ [])
    (ok ∷ ok ∷ ok ∷ says (Uncrossed (Printed 100 12)) (Trade 1 3 100 10 ∷ Trade 2 3 100 2 ∷ []) Continuous ∷ [])
    -- market orders and a VFU order at an opening: what is left of them lapses
    ∷ example free 100 (market_buy 1 7 ∷ market_sell 2 4 ∷ vfu_sell 3 100 2 ∷ vfu_sell 4 105 6 ∷ uncross ∷ [])
    (ok ∷ ok ∷ ok ∷ ok ∷ says (Uncrossed (Printed 105 7)) (Trade 1 2 105 4 ∷ Trade 1 3 105 2 ∷ Trade 1 4 105 1 ∷ Lapse 4 5 ∷ []) Continuous ∷ [])
    -- a sweep that stops at the collar: the rest joins, and the book goes to call
    ∷ example collared 1000 (uncross ∷ sell 1 1050 5 ∷ sell 2 1200 5 ∷ buy 3 1200 8 ∷ Cancel 3 ∷ [])
    (starts ∷ okc ∷ okc ∷ says Accepted (Trade 3 1 1050 5 ∷ []) CallPhase ∷ says Accepted (Lapse 3 3 ∷ []) CallPhase ∷ [])
    -- the rest of an IOC order that meets the collar lapses, and trading goes on; with no first trade it is refused
    ∷ example collared 1000 (ioc_buy 9 1000 1 ∷ uncross ∷ ioc_buy 9 1200 1 ∷ sell 1 1050 5 ∷ sell 2 1200 5 ∷ ioc_buy 3 1200 8 ∷ ioc_buy 4 1200 1 ∷ [])
    (turns_away WrongPhase ∷ starts ∷ turns_away NoFirstTrade ∷ okc ∷ okc ∷ says Accepted (Trade 3 1 1050 5 ∷ Lapse 3 3 ∷ []) Continuous ∷ turns_away NoFirstTrade ∷ [])
    -- VFU orders sleep through a sweep, and wake at the next call
    ∷ example free 100 (uncross ∷ vfu_sell 1 100 5 ∷ sell 2 101 5 ∷ buy 3 101 8 ∷ Call ∷ uncross ∷ [])
    (starts ∷ okc ∷ okc ∷ says Accepted (Trade 3 2 101 5 ∷ []) Continuous ∷ ok ∷ says (Uncrossed (Printed 101 3)) (Trade 3 1 101 3 ∷ Lapse 1 2 ∷ []) Continuous ∷ [])
    -- a stop released by an uncrossing: its trade comes after the lapse lines
    ∷ example free 100 (stop_buy 9 102 110 4 ∷ buy 1 105 10 ∷ sell 2 103 10 ∷ sell 3 108 10 ∷ vfu_sell 4 109 1 ∷ uncross ∷ [])
    (ok ∷ ok ∷ ok ∷ ok ∷ ok ∷ says (Uncrossed (Printed 103 10)) (Trade 1 2 103 10 ∷ Lapse 4 1 ∷ Trade 9 3 108 4 ∷ []) Continuous ∷ [])
    -- two stops released one after the other, neither between the two trades of the sweep that reaches the first
    ∷ example free 100 (uncross ∷ sell 1 101 5 ∷ sell 2 102 5 ∷ sell 3 103 5 ∷ stop_buy 8 101 103 3 ∷ stop_buy 9 103 110 1 ∷ buy 4 102 10 ∷ [])
    (starts ∷ okc ∷ okc ∷ okc ∷ okc ∷ okc ∷ says Accepted (Trade 4 1 101 5 ∷ Trade 4 2 102 5 ∷ Trade 8 3 103 3 ∷ Trade 9 3 103 1 ∷ []) Continuous ∷ [])
    -- the first stop that is reached is released, not the first of all; then a sweep that reaches none, and that the collar stops
    ∷ example collared 1000 (uncross ∷ buy 1 990 5 ∷ buy 2 980 5 ∷ stop_buy 8 1010 1020 1 ∷ stop_sell 9 990 980 2 ∷ sell 3 990 5 ∷ stop_sell 9 970 500 1
    ∷ buy 4 880 1 ∷ sell 5 880 9 ∷ [])
    (starts ∷ okc ∷ okc ∷ okc ∷ okc ∷ says Accepted (Trade 1 3 990 5 ∷ Trade 2 9 980 2 ∷ []) Continuous ∷ okc ∷ okc
    ∷ says Accepted (Trade 2 5 980 3 ∷ []) CallPhase ∷ [])
    -- priority kept by a cut, lost by more quantity or another limit
    ∷ example free 100 (buy 1 100 5 ∷ buy 2 100 5 ∷ Amend 1 100 4 ∷ Amend 1 100 4 ∷ Amend 1 100 6 ∷ sell 3 100 7 ∷ uncross ∷ Amend 1 101 4 ∷ sell 4 101 9 ∷ [])
    (ok ∷ ok ∷ says PriorityKept (Lapse 1 1 ∷ []) CallPhase ∷ says PriorityKept [] CallPhase ∷ says PriorityLost (Lapse 1 4 ∷ []) CallPhase ∷ ok
    ∷ says (Uncrossed (Printed 100 7)) (Trade 2 3 100 5 ∷ Trade 1 3 100 2 ∷ []) Continuous ∷ says PriorityLost (Lapse 1 4
    ∷ []) Continuous ∷ says Accepted (Trade 1 4 101 4 ∷ []) Continuous ∷ [])
    -- an amendment that sweeps
    ∷ example free 100 (uncross ∷ buy 1 90 5 ∷ sell 2 100 3 ∷ Amend 1 100 4 ∷ [])
    (starts ∷ okc ∷ okc ∷ says PriorityLost (Lapse 1 5 ∷ Trade 1 2 100 3 ∷ []) Continuous ∷ [])
    -- an uncrossing to the end: everything lapses, and nothing is taken afterwards
    ∷ example free 100 (buy 1 100 10 ∷ sell 2 100 4 ∷ market_sell 3 1 ∷ sell 4 120 2 ∷ stop_sell 5 90 80 3 ∷ close ∷ buy 6 100 1 ∷ Cancel 1 ∷ End ∷ [])
    (ok ∷ ok ∷ ok ∷ ok ∷ ok ∷ says (Uncrossed (Printed 100 5)) (Trade 1 3 100 1 ∷ Trade 1 2 100 4 ∷ Lapse 1 5 ∷ Lapse 4 2 ∷ Lapse 5 3 ∷ []) Ended
    ∷ turns_away WrongPhase ∷ turns_away WrongPhase ∷ turns_away WrongPhase ∷ [])
    -- refused by the collar the book stays in call, unchanged
    ∷ example collared 1000 (buy 1 1200 5 ∷ sell 2 1200 5 ∷ market_sell 3 1 ∷ close ∷ uncross ∷ Cancel 1 ∷ End ∷ [])
    (ok ∷ ok ∷ ok ∷ says (Uncrossed (RefusedByCollar 1200)) [] CallPhase ∷ says (Uncrossed (RefusedByCollar 1200)) [] CallPhase
    ∷ says Accepted (Lapse 1 5 ∷ []) CallPhase ∷ says Accepted (Lapse 3 1 ∷ Lapse 2 5 ∷ []) Ended ∷ [])
    -- 1 and 2: numbers and quantities out of range
    ∷ example free 100 (buy 0 100 1 ∷ buy 100000000 100 1 ∷ buy 99999999 100 49999999 ∷ buy 2 100 50000000 ∷ sell 2 100 0 ∷ Cancel 0
    ∷ Amend 99999999 100 50000000 ∷ [])
    (turns_away NumberOutOfRange ∷ turns_away NumberOutOfRange ∷ ok ∷ turns_away QuantityOutOfRange ∷ turns_away QuantityOutOfRange ∷ turns_away NumberOutOfRange
    ∷ turns_away QuantityOutOfRange ∷ [])
    -- 3: what does not go together
    ∷ example free 100 (enter 1 Buy Market 100 0 1 Vfu ∷ enter 1 Buy Market 0 0 1 Day ∷ buy 1 0 1 ∷ enter 1 Buy Limit 100 100 1 Day ∷ stop_buy 1 0 110 1
    ∷ enter 1 Sell Stop 80 90 1 Vfu ∷ market_buy 1 1 ∷ Amend 1 100 1 ∷ sell 2 100 1 ∷ Amend 2 0 1 ∷ [])
    (turns_away Unpaired ∷ turns_away Unpaired ∷ turns_away Unpaired ∷ turns_away Unpaired ∷ turns_away Unpaired ∷ turns_away Unpaired ∷ ok ∷ turns_away Unpaired
    ∷ ok ∷ turns_away Unpaired ∷ [])
    -- 4: limits and triggers that are not lawful, the limit first
    ∷ example every_second 100 (buy 1 101 1 ∷ buy 1 98 1 ∷ buy 1 9999 1 ∷ stop_buy 1 111 120 1 ∷ stop_buy 1 111 121 1 ∷ buy 1 102 1 ∷ Amend 1 103 1 ∷ [])
    (turns_away (LimitUnlawful BetweenSteps) ∷ turns_away (LimitUnlawful BelowFirst) ∷ turns_away (LimitUnlawful PastLast)
    ∷ turns_away (TriggerUnlawful BetweenSteps) ∷ turns_away (LimitUnlawful BetweenSteps) ∷ ok ∷ turns_away (LimitUnlawful BetweenSteps) ∷ [])
    -- 6: a report of 8 lines for tables of 8 records; 21: a count that does not fit; 6 comes first
    ∷ on_desk 8 (new_desk 8 100) (uncross ∷ End ∷ []) (turns_away ReportTooShort ∷ turns_away ReportTooShort ∷ [])
    ∷ on_desk 9 broken (uncross ∷ Cancel 0 ∷ []) (turns_away NotWellFormed ∷ turns_away NotWellFormed ∷ [])
    ∷ on_desk 8 broken (End ∷ []) (turns_away ReportTooShort ∷ [])
    -- 22: what a phase does not take
    ∷ example free 100 (Call ∷ uncross ∷ uncross ∷ close ∷ Call ∷ End ∷ End ∷ Amend 1 100 1 ∷ [])
    (turns_away WrongPhase ∷ starts ∷ turns_away WrongPhase ∷ turns_away WrongPhase ∷ ok ∷ says Accepted [] Ended ∷ turns_away WrongPhase ∷ turns_away WrongPhase ∷ [])
    -- 23 and 24: a number that is live, and one that is not; a stop is not amended, but cancelled
    ∷ example free 100 (buy 1 100 1 ∷ sell 1 100 1 ∷ stop_buy 2 110 120 3 ∷ buy 2 100 1 ∷ Amend 2 120 1 ∷ Cancel 3 ∷ Cancel 2 ∷ [])
    (ok ∷ turns_away NumberLive ∷ ok ∷ turns_away NumberLive ∷ turns_away NumberNotLive ∷ turns_away NumberNotLive ∷ says Accepted (Lapse 2 3 ∷ []) CallPhase ∷ [])
    -- 25: tables of 2 records, and of none
    ∷ on_desk 3 (new_desk 2 100) (buy 1 100 1 ∷ stop_buy 2 110 120 1 ∷ sell 3 100 1 ∷ [])
    (ok ∷ ok ∷ turns_away BookFull ∷ [])
    ∷ on_desk 1 (new_desk 0 100) (buy 1 100 1 ∷ uncross ∷ []) (turns_away BookFull ∷ starts ∷ [])
    -- 26: stops that are reached as they come
    ∷ example free 100 (stop_buy 1 100 110 1 ∷ stop_sell 1 100 90 1 ∷ stop_buy 1 101 110 1 ∷ stop_sell 2 99 90 1 ∷ [])
    (turns_away StopReached ∷ turns_away StopReached ∷ ok ∷ ok ∷ [])
    -- two buy stops reached at once: the lower trigger first
    ∷ example free 100 (uncross ∷ sell 1 103 1 ∷ sell 2 104 2 ∷ stop_buy 8 102 104 1 ∷ stop_buy 9 101 104 1 ∷ buy 3 103 1 ∷ [])
    (starts ∷ okc ∷ okc ∷ okc ∷ okc ∷ says Accepted (Trade 3 1 103 1 ∷ Trade 9 2 104 1 ∷ Trade 8 2 104 1 ∷ []) Continuous ∷ [])
    -- two sell stops reached at once: the higher trigger first
    ∷ example free 100 (uncross ∷ buy 1 97 1 ∷ buy 2 96 2 ∷ stop_sell 8 98 96 1 ∷ stop_sell 9 99 96 1 ∷ sell 3 97 1 ∷ [])
    (starts ∷ okc ∷ okc ∷ okc ∷ okc ∷ says Accepted (Trade 1 3 97 1 ∷ Trade 2 9 96 1 ∷ Trade 2 8 96 1 ∷ []) Continuous ∷ [])
    -- a buy stop and a sell stop reached at once, by a print that follows a sweep which the collar stopped: the buy first; until then none is released
    ∷ example collared 1000 (uncross ∷ sell 1 1050 1 ∷ sell 2 1200 1 ∷ stop_buy 9 1010 1300 1 ∷ buy 3 1200 2 ∷ Cancel 3 ∷ Cancel 2 ∷ stop_sell 8 1040 900 1
    ∷ buy 4 1030 2 ∷ sell 5 1030 1 ∷ sell 6 1031 1 ∷ uncross ∷ [])
    (starts ∷ okc ∷ okc ∷ okc ∷ says Accepted (Trade 3 1 1050 1 ∷ []) CallPhase ∷ says Accepted (Lapse 3 1 ∷ []) CallPhase
    ∷ says Accepted (Lapse 2 1 ∷ []) CallPhase ∷ ok ∷ ok ∷ ok ∷ ok
    ∷ says (Uncrossed (Printed 1030 1)) (Trade 4 5 1030 1 ∷ Trade 9 6 1031 1 ∷ Trade 4 8 1030 1 ∷ []) Continuous ∷ [])
    -- the collar around the static price: only a print moves it
    ∷ example collared_static 1000 (buy 1 1050 5 ∷ sell 2 1050 5 ∷ uncross ∷ sell 3 1100 1 ∷ buy 4 1100 1 ∷ sell 5 1155 1 ∷ buy 6 1155 1 ∷ sell 7 1156 1
    ∷ buy 8 1156 2 ∷ uncross ∷ Cancel 8 ∷ uncross ∷ buy 9 1156 1 ∷ [])
    (ok ∷ ok ∷ says (Uncrossed (Printed 1050 5)) (Trade 1 2 1050 5 ∷ []) Continuous ∷ okc ∷ says Accepted (Trade 4 3 1100 1 ∷ []) Continuous ∷ okc
    ∷ says Accepted (Trade 6 5 1155 1 ∷ []) Continuous ∷ okc ∷ ok ∷ says (Uncrossed (RefusedByCollar 1156)) [] CallPhase
    ∷ says Accepted (Lapse 8 2 ∷ []) CallPhase ∷ starts ∷ ok ∷ [])
    -- each trade of a sweep moves the collar around the last price
    ∷ example collared 1000 (uncross ∷ sell 1 1100 1 ∷ sell 2 1200 1 ∷ buy 3 1200 3 ∷ [])
    (starts ∷ okc ∷ okc ∷ says Accepted (Trade 3 1 1100 1 ∷ Trade 3 2 1200 1 ∷ []) Continuous ∷ [])
    -- a reached stop is not released where the collar stopped the sweep, nor in call; an uncrossing without a price lapses VFU orders, then releases it
    ∷ example collared 1000 (uncross ∷ sell 1 1050 1 ∷ sell 2 1200 1 ∷ stop_buy 9 1040 1060 2 ∷ buy 3 1200 2 ∷ Amend 9 1060 1 ∷ Cancel 3 ∷ sell 4 1055 1
    ∷ vfu_buy 5 1000 4 ∷ vfu_sell 6 1300 2 ∷ uncross ∷ Cancel 5 ∷ Cancel 6 ∷ Cancel 9 ∷ [])
    (starts ∷ okc ∷ okc ∷ okc ∷ says Accepted (Trade 3 1 1050 1 ∷ []) CallPhase ∷ turns_away NumberNotLive ∷ says Accepted (Lapse 3 1 ∷ []) CallPhase ∷ ok ∷ ok
    ∷ ok ∷ says (Uncrossed NoPrice) (Lapse 5 4 ∷ Lapse 6 2 ∷ Trade 9 4 1055 1 ∷ []) Continuous ∷ turns_away NumberNotLive ∷ turns_away NumberNotLive
    ∷ says Accepted (Lapse 9 1 ∷ []) Continuous ∷ [])
    -- an uncrossing to the end without a price
    ∷ example free 100 (buy 1 100 1 ∷ stop_sell 2 90 80 3 ∷ close ∷ [])
    (ok ∷ ok ∷ says (Uncrossed NoPrice) (Lapse 1 1 ∷ Lapse 2 3 ∷ []) Ended ∷ [])
    -- an IOC sell: nobody but a sleeping order; then its rest lapses
    ∷ example free 100 (uncross ∷ vfu_buy 1 101 5 ∷ ioc_sell 2 100 3 ∷ buy 3 100 2 ∷ ioc_sell 4 99 5 ∷ Cancel 4 ∷ [])
    (starts ∷ okc ∷ turns_away NoFirstTrade ∷ okc ∷ says Accepted (Trade 3 4 100 2 ∷ Lapse 4 3 ∷ []) Continuous ∷ turns_away NumberNotLive ∷ [])
    -- an IOC entry and an amendment release stops
    ∷ example free 100 (uncross ∷ sell 1 105 9 ∷ stop_buy 8 103 110 1 ∷ ioc_buy 2 105 1 ∷ sell 3 106 9 ∷ buy 4 90 1 ∷ Cancel 1 ∷ stop_buy 9 106 110 2
    ∷ Amend 4 106 1 ∷ [])
    (starts ∷ okc ∷ okc ∷ says Accepted (Trade 2 1 105 1 ∷ Trade 8 1 105 1 ∷ []) Continuous ∷ okc ∷ okc ∷ says Accepted (Lapse 1 7 ∷ []) Continuous ∷ okc
    ∷ says PriorityLost (Lapse 4 1 ∷ Trade 4 3 106 1 ∷ Trade 9 3 106 2 ∷ []) Continuous ∷ [])
    -- the rest of a released stop joins as a day order, and is met
    ∷ example free 100 (uncross ∷ sell 1 101 1 ∷ sell 2 103 1 ∷ stop_buy 8 101 103 4 ∷ buy 3 101 1 ∷ ioc_sell 4 103 2 ∷ Call ∷ uncross ∷ Cancel 8 ∷ [])
    (starts ∷ okc ∷ okc ∷ okc ∷ says Accepted (Trade 3 1 101 1 ∷ Trade 8 2 103 1 ∷ []) Continuous ∷ says Accepted (Trade 8 4 103 2 ∷ []) Continuous ∷ ok
    ∷ starts ∷ says Accepted (Lapse 8 1 ∷ []) Continuous ∷ [])
    -- a cancelled stop is gone
    ∷ example free 100 (stop_buy 1 110 120 3 ∷ Cancel 1 ∷ Cancel 1 ∷ uncross ∷ [])
    (ok ∷ says Accepted (Lapse 1 3 ∷ []) CallPhase ∷ turns_away NumberNotLive ∷ starts ∷ [])
    -- a reached stop that stands in continuous trading is released by an amendment that keeps priority
    ∷ on_desk 9 (holding 8 Continuous (order_record 1 Buy 90 5 Day ∷ []) (order_record 2 Sell 110 5 Day ∷ []) (stop_record 9 Buy 95 110 1 ∷ [])) (Amend 1 90 4 ∷ [])
    (says PriorityKept (Lapse 1 1 ∷ Trade 9 2 110 1 ∷ []) Continuous ∷ [])
    -- and by the entry of a stop, not by a cancel
    ∷ on_desk 9 (holding 8 Continuous (order_record 1 Buy 90 5 Day ∷ []) (order_record 2 Sell 110 5 Day ∷ []) (stop_record 9 Buy 95 110 1 ∷ [])) (Cancel 1
    ∷ stop_sell 8 80 70 1 ∷ [])
    (says Accepted (Lapse 1 5 ∷ []) Continuous ∷ says Accepted (Trade 9 2 110 1 ∷ []) Continuous ∷ [])
    -- tables of 4,097 records: 4,096 count, and a report of 4,097 lines will do
    ∷ on_desk 4097 (new_desk 4097 100) (End ∷ []) (says Accepted [] Ended ∷ [])
    -- 25: for an IOC order too, though it would not stand
    ∷ on_desk 3 (new_desk 2 100) (uncross ∷ buy 1 100 1 ∷ buy 2 99 1 ∷ ioc_sell 3 99 1 ∷ [])
    (starts ∷ okc ∷ okc ∷ turns_away BookFull ∷ [])
    -- 3: what else does not go together
    ∷ example free 100 (enter 1 Buy Market 0 101 1 Vfu ∷ stop_buy 1 110 0 1 ∷ uncross ∷ enter 1 Sell Market 0 0 1 Ioc ∷ enter 1 Buy Stop 110 110 1 Ioc
    ∷ ioc_sell 1 0 1 ∷ [])
    (turns_away Unpaired ∷ turns_away Unpaired ∷ starts ∷ turns_away Unpaired ∷ turns_away Unpaired ∷ turns_away Unpaired ∷ [])
    -- sells amended and cancelled; a number live in the sells
    ∷ example free 100 (sell 1 100 5 ∷ sell 2 100 5 ∷ buy 1 99 1 ∷ Amend 1 100 3 ∷ Amend 2 101 4 ∷ buy 3 101 6 ∷ uncross ∷ Cancel 2 ∷ Cancel 2 ∷ [])
    (ok ∷ ok ∷ turns_away NumberLive ∷ says PriorityKept (Lapse 1 2 ∷ []) CallPhase ∷ says PriorityLost (Lapse 2 5 ∷ []) CallPhase ∷ ok
    ∷ says (Uncrossed (Printed 101 6)) (Trade 3 1 101 3 ∷ Trade 3 2 101 3 ∷ []) Continuous ∷ says Accepted (Lapse 2 1 ∷ []) Continuous
    ∷ turns_away NumberNotLive ∷ [])
    -- market and VFU orders amended stay what they are
    ∷ example free 100 (market_buy 1 5 ∷ Amend 1 0 3 ∷ market_buy 2 5 ∷ Amend 1 0 4 ∷ market_sell 3 6 ∷ uncross ∷ vfu_sell 4 105 3 ∷ Amend 4 104 4 ∷ buy 5 104 1
    ∷ Call ∷ uncross ∷ [])
    (ok ∷ says PriorityKept (Lapse 1 2 ∷ []) CallPhase ∷ ok ∷ says PriorityLost (Lapse 1 3 ∷ []) CallPhase ∷ ok
    ∷ says (Uncrossed (Printed 100 6)) (Trade 2 3 100 5 ∷ Trade 1 3 100 1 ∷ Lapse 1 3 ∷ []) Continuous ∷ okc ∷ says PriorityLost (Lapse 4 3 ∷ []) Continuous
    ∷ okc ∷ ok ∷ says (Uncrossed (Printed 104 1)) (Trade 5 4 104 1 ∷ Lapse 4 3 ∷ []) Continuous ∷ [])
    -- 26 in continuous trading; an end from there; 22: nothing is taken afterwards
    ∷ example free 100 (uncross ∷ stop_buy 1 100 110 1 ∷ buy 2 90 1 ∷ End ∷ Call ∷ uncross ∷ close ∷ Cancel 2 ∷ [])
    (starts ∷ turns_away StopReached ∷ okc ∷ says Accepted (Lapse 2 1 ∷ []) Ended ∷ turns_away WrongPhase ∷ turns_away WrongPhase ∷ turns_away WrongPhase
    ∷ turns_away WrongPhase ∷ [])
    -- tables of different lengths: the shortest counts
    ∷ on_desk 2 uneven (buy 1 100 1 ∷ buy 2 100 1 ∷ uncross ∷ []) (ok ∷ turns_away BookFull ∷ starts ∷ [])
    -- 6: on the same tables a report of one line is too short, one of two is not
    ∷ on_desk 1 uneven (End ∷ []) (turns_away ReportTooShort ∷ [])
    -- one number in all three queues: buys, sells, stops are looked through in this order
    ∷ on_desk 9 (holding 8 CallPhase (order_record 1 Buy 99 1 Day ∷ []) (order_record 1 Sell 101 2 Day ∷ []) (stop_record 1 Buy 105 105 3 ∷ [])) (Cancel 1
    ∷ Amend 1 101 1 ∷ Cancel 1 ∷ Amend 1 101 1 ∷ Cancel 1 ∷ Cancel 1 ∷ [])
    (says Accepted (Lapse 1 1 ∷ []) CallPhase ∷ says PriorityKept (Lapse 1 1 ∷ []) CallPhase ∷ says Accepted (Lapse 1 1 ∷ []) CallPhase
    ∷ turns_away NumberNotLive ∷ says Accepted (Lapse 1 3 ∷ []) CallPhase ∷ turns_away NumberNotLive ∷ [])
    -- 21: an IOC order stands
    ∷ malformed 9 (holding 8 CallPhase (order_record 1 Buy 100 1 Ioc ∷ []) [] [])
    -- 21: a sell among the buys
    ∷ malformed 9 (holding 8 CallPhase (order_record 1 Sell 100 1 Day ∷ []) [] [])
    -- 21: a buy among the sells
    ∷ malformed 9 (holding 8 CallPhase [] (order_record 1 Buy 100 1 Day ∷ []) [])
    -- 21: a day order at market
    ∷ malformed 9 (holding 8 CallPhase (order_record 1 Buy 0 1 Day ∷ []) [] [])
    -- 21: a VFU limit that is no price
    ∷ malformed 9 (holding 8 CallPhase (order_record 1 Buy 100000000 1 Vfu ∷ []) [] [])
    -- 21: number 0
    ∷ malformed 9 (holding 8 CallPhase (order_record 0 Buy 100 1 Day ∷ []) [] [])
    -- 21: quantity 0
    ∷ malformed 9 (holding 8 CallPhase [] (order_record 1 Sell 100 0 Day ∷ []) [])
    -- 21: buys out of order
    ∷ malformed 9 (holding 8 CallPhase (order_record 1 Buy 100 1 Day ∷ order_record 2 Buy 101 1 Day ∷ []) [] [])
    -- 21: sells out of order
    ∷ malformed 9 (holding 8 CallPhase [] (order_record 1 Sell 100 1 Day ∷ order_record 2 Sell 0 1 Vfu ∷ []) [])
    -- 21: stops out of order
    ∷ malformed 9 (holding 8 CallPhase [] [] (stop_record 1 Sell 90 90 1 ∷ stop_record 2 Buy 110 110 1 ∷ []))
    -- 21: a stop without a trigger
    ∷ malformed 9 (holding 8 CallPhase [] [] (stop_record 1 Buy 0 100 1 ∷ []))
    -- 21: a stop without a limit
    ∷ malformed 9 (holding 8 CallPhase [] [] (stop_record 1 Buy 110 0 1 ∷ []))
    -- 21: a static price that is none
    ∷ malformed 9 (laid_out (new_desk 8 100) (with_prices 0 100 (new_book 100)))
    -- 21: a last price that is none
    ∷ malformed 9 (laid_out (new_desk 8 100) (with_prices 100 100000000 (new_book 100)))
    -- 21: more records than the tables hold together
    ∷ malformed 3 (holding 2 CallPhase (order_record 1 Buy 90 1 Day ∷ order_record 2 Buy 90 1 Day ∷ []) (order_record 3 Sell 110 1 Day ∷ []) [])
    -- 21 does not ask what free records hold, nor that limits are lawful or numbers differ
    ∷ on_desk 9 unasked (End ∷ []) (says Accepted (Lapse 1 2 ∷ Lapse 1 1 ∷ []) Ended ∷ [])
    ∷ []

abbrev pub AsTold : Example → Type 0
AsTold x = run x.venue_is x.room x.desk x.calls ≡ x.sights

-- every call of every example is seen to do what is written beside it
abbrev pub SessionsAsTold : Type 0
SessionsAsTold = AllByRecursion AsTold examples

-- ---- new books

-- an opening price, and the fault that a book is then refused with
pub record OpeningRow : Type 0 where
  pub opening : ℕ
  pub fault : Option BookFault

abbrev pub opens_at : ℕ → Option BookFault → OpeningRow
opens_at opening fault = record { opening = opening; fault = fault }

abbrev pub opening_rows : List OpeningRow
opening_rows = opens_at 0 (Some OpeningNotPrice) ∷ opens_at 1 None ∷ opens_at 99999999 None ∷ opens_at 100000000 (Some OpeningNotPrice) ∷ []

abbrev pub OpensSo : OpeningRow → Type 0
OpensSo x = first_fault (new_checks x.opening) ≡ x.fault

-- every opening price is taken or refused as is written beside it
abbrev pub OpeningsAsTold : Type 0
OpeningsAsTold = AllByRecursion OpensSo opening_rows

-- ---- the openings and edges of the rules, all together

-- the largest quantity is taken, and one more is refused by 2
abbrev pub quantity_edge : Example
quantity_edge = example free 100 (buy 1 100 49999999 ∷ buy 2 100 50000000 ∷ []) (ok ∷ turns_away QuantityOutOfRange ∷ [])

-- the seven openings, the edge of a collar and the edges of a tick table, and the edge of a quantity
abbrev pub TenAsTold : Type 0
TenAsTold = RowsRight × AsTold quantity_edge
