-- The book as it lies in memory, and what the rules say to a call on it.
use Rattle.std.specs.Prelude.{ℕ, ◌+◌, min, Bool, not, ◌&&◌, List, ◌∷◌, length, take, Some, None, Option, nat_le, nat_lt}
use Rattle.grid.specs.Prices.{is_price}
use Rattle.rules.specs.declared.order.Order.{Order}
use Rattle.rules.specs.declared.order.Side.TheVariants.{Buy, Sell}
use Rattle.trading.specs.declared.stop.StopOrder.{StopOrder}
use Rattle.trading.specs.declared.state.State.{State}
use Rattle.trading.specs.declared.fault.BookFault.{BookFault}
use Rattle.trading.specs.declared.fault.BookFault.TheVariants.{ReportTooShort, NotWellFormed}
use Rattle.trading.specs.declared.request.Request.{Request}
use Rattle.trading.specs.Queues.{all_pass, in_order, order_ahead, stop_ahead}
use Rattle.trading.specs.Books.{Venue, Book}
use Rattle.trading.specs.Ranges.{order_fits, stop_fits}
use Rattle.trading.specs.Effects.{Effect}
use Rattle.trading.specs.Calls.{Check, check, first_fault, checks_of, effect_of}

-- the state and the three tables, as a call is lent them
pub record Desk : Type 0 where
  pub state : State
  pub buys : List Order
  pub sells : List Order
  pub stops : List StopOrder

abbrev pub desk_of : State → List Order → List Order → List StopOrder → Desk
desk_of state buys sells stops = record { state = state; buys = buys; sells = sells; stops = stops }

-- a table's first records, as many as its count, are its queue
abbrev pub book_of : Desk → Book
book_of d = record {
  phase = d.state.phase;
  static = d.state.static_price;
  last = d.state.last;
  buys = take d.state.buys d.buys;
  sells = take d.state.sells d.sells;
  stops = take d.state.stops d.stops;
}

-- how many records the book may hold: the least of the tables' lengths and 4,096
abbrev pub capacity : Desk → ℕ
capacity d = min 4096 (min (length d.buys) (min (length d.sells) (length d.stops)))

-- ---- well-formed tables

-- each count fits its table, and together they fit the capacity
abbrev pub counts_fit : Desk → Bool
counts_fit d =
    nat_le d.state.buys (length d.buys)
    && (nat_le d.state.sells (length d.sells)
    && (nat_le d.state.stops (length d.stops)
    && nat_le (d.state.buys + d.state.sells + d.state.stops) (capacity d)))

-- each record may stand where it stands, none is ahead of the one before it, and static and last price are prices
abbrev pub queues_fit : Book → Bool
queues_fit b =
    all_pass (order_fits Buy) b.buys
    && (in_order order_ahead b.buys
    && (all_pass (order_fits Sell) b.sells
    && (in_order order_ahead b.sells
    && (all_pass stop_fits b.stops
    && (in_order stop_ahead b.stops
    && (is_price b.static && is_price b.last))))))

abbrev pub well_formed : Desk → Bool
well_formed d = counts_fit d && queues_fit (book_of d)

-- ---- what the rules say

pub data Ruling : Type 0 where
  refused : BookFault → Ruling
  taken : Effect → Ruling

abbrev pub ruled : Option BookFault → Effect → Ruling
ruled None e = taken e
ruled (Some f) e = refused f

-- every call first wants a report of one line more than the capacity, and well-formed tables; then its own checks follow.
-- `room` is the length of the report.
abbrev pub all_checks : Venue → Desk → ℕ → Request → List Check
all_checks v d room request =
    check (nat_lt room (capacity d + 1)) ReportTooShort
    ∷ (check (not (well_formed d)) NotWellFormed
    ∷ checks_of v (capacity d) (book_of d) request)

-- the first check that holds refuses the call; where none holds, it is taken
abbrev pub ruling : Venue → Desk → ℕ → Request → Ruling
ruling v d room request =
    let e = effect_of v (book_of d) request in
    ruled (first_fault (all_checks v d room request)) e
