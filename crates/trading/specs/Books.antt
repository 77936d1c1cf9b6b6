-- The book: its phase, its two prices and its three queues.
use Rattle.std.specs.Prelude.{ℕ, ◌+◌, ◌-◌, Bool, true, false, List, [], length}
use Rattle.rules.specs.declared.order.Order.{Order}
use Rattle.rules.specs.declared.order.Side.{Side}
use Rattle.rules.specs.declared.order.Side.TheVariants.{Buy, Sell}
use Rattle.rules.specs.declared.order.Validity.{Validity}
use Rattle.rules.specs.declared.order.Validity.TheVariants.{Day, Ioc, Vfu}
use Rattle.rules.specs.Auctions.{Auction, auction}
use Rattle.rules.specs.Candidates.{Grid, grid_of}
use Rattle.trading.specs.declared.stop.StopOrder.{StopOrder}
use Rattle.trading.specs.declared.state.Phase.{Phase}
use Rattle.trading.specs.declared.state.Phase.TheVariants.{Call, Continuous, Ended}
use Rattle.trading.specs.declared.state.State.{State}

-- what the venue lays down: the lawful prices, and which price the collar allows, given the static and the last price
pub record Venue : Type 0 where
  pub grid : Grid
  pub allows : ℕ → ℕ → ℕ → Bool

-- the venue of a grid's meaning and a collar's meaning
abbrev pub venue_of : (ℕ → Bool) → (ℕ → ℕ → ℕ → Bool) → Venue
venue_of lawful allows = record { grid = grid_of lawful; allows = allows }

pub record Book : Type 0 where
  pub phase : Phase
  pub static : ℕ
  pub last : ℕ
  pub buys : List Order
  pub sells : List Order
  pub stops : List StopOrder

-- an empty book in call; the opening price is its static and its last price
abbrev pub new_book : ℕ → Book
new_book p = record { phase = Call; static = p; last = p; buys = []; sells = []; stops = [] }

-- the state of one
abbrev pub new_state : ℕ → State
new_state p = record { phase = Call; buys = 0; sells = 0; stops = 0; static_price = p; last = p }

-- how many records it holds
abbrev pub held : Book → ℕ
held b = length b.buys + length b.sells + length b.stops

-- what the price of its auction depends on
abbrev pub auction_of : Book → Auction
auction_of b = auction b.last b.buys b.sells

-- ---- phases and validities

abbrev pub is_call : Phase → Bool
is_call Call = true
is_call Continuous = false
is_call Ended = false

abbrev pub is_continuous : Phase → Bool
is_continuous Call = false
is_continuous Continuous = true
is_continuous Ended = false

abbrev pub is_ended : Phase → Bool
is_ended Call = false
is_ended Continuous = false
is_ended Ended = true

abbrev pub is_day : Validity → Bool
is_day Day = true
is_day Ioc = false
is_day Vfu = false

abbrev pub is_ioc : Validity → Bool
is_ioc Day = false
is_ioc Ioc = true
is_ioc Vfu = false

abbrev pub is_vfu : Validity → Bool
is_vfu Day = false
is_vfu Ioc = false
is_vfu Vfu = true

-- ---- the book with a part changed

abbrev pub with_phase : Phase → Book → Book
with_phase p b = record { phase = p; static = b.static; last = b.last; buys = b.buys; sells = b.sells; stops = b.stops }

abbrev pub with_last : ℕ → Book → Book
with_last p b = record { phase = b.phase; static = b.static; last = p; buys = b.buys; sells = b.sells; stops = b.stops }

abbrev pub with_prices : ℕ → ℕ → Book → Book
with_prices s p b = record { phase = b.phase; static = s; last = p; buys = b.buys; sells = b.sells; stops = b.stops }

abbrev pub with_orders : List Order → List Order → Book → Book
with_orders bs ss b = record { phase = b.phase; static = b.static; last = b.last; buys = bs; sells = ss; stops = b.stops }

abbrev pub with_stops : List StopOrder → Book → Book
with_stops ss b = record { phase = b.phase; static = b.static; last = b.last; buys = b.buys; sells = b.sells; stops = ss }

-- the queue of a side, and the one opposite
abbrev pub own_queue : Side → Book → List Order
own_queue Buy b = b.buys
own_queue Sell b = b.sells

abbrev pub opposite : Side → Book → List Order
opposite Buy b = b.sells
opposite Sell b = b.buys

abbrev pub with_own_queue : Side → List Order → Book → Book
with_own_queue Buy os b = with_orders os b.sells b
with_own_queue Sell os b = with_orders b.buys os b

abbrev pub with_opposite : Side → List Order → Book → Book
with_opposite Buy os b = with_orders b.buys os b
with_opposite Sell os b = with_orders os b.sells b

-- an order with another open quantity, and one that has lost q of it
abbrev pub with_open : Order → ℕ → Order
with_open o q = record { number = o.number; side = o.side; limit = o.limit; «open» = q; validity = o.validity }

abbrev pub reduced : Order → ℕ → Order
reduced o q = with_open o (o.«open» - q)

-- records of zeros, as a blank table has them
abbrev pub blank_order : Order
blank_order = record { number = 0; side = Buy; limit = 0; «open» = 0; validity = Day }

abbrev pub blank_stop : StopOrder
blank_stop = record { number = 0; side = Buy; trigger = 0; limit = 0; quantity = 0 }
