-- Continuous trading: an order sweeps the opposite queue; stops are released.
use Rattle.std.specs.Prelude.{ℕ, zero, suc, ◌-◌, min, Bool, true, false, cond, List, [], ◌∷◌, ◌++◌, length, Some, None, Option, ◌==◌, nat_le}
use Rattle.rules.specs.declared.order.Order.{Order}
use Rattle.rules.specs.declared.order.Side.{Side}
use Rattle.rules.specs.declared.order.Side.TheVariants.{Buy, Sell}
use Rattle.rules.specs.declared.order.Validity.TheVariants.{Day}
use Rattle.trading.specs.declared.stop.StopOrder.{StopOrder}
use Rattle.trading.specs.declared.sweep.Ending.{Ending}
use Rattle.trading.specs.declared.sweep.Ending.TheVariants.{Filled, Nobody, Collared}
use Rattle.trading.specs.declared.report.ReportLine.{ReportLine}
use Rattle.trading.specs.declared.report.ReportLine.TheVariants.{Trade, Lapse}
use Rattle.trading.specs.declared.state.Phase.TheVariants.{Call}
use Rattle.trading.specs.Queues.{joined, first_that, without_first, order_ahead}
use Rattle.trading.specs.Books.{Venue, Book, is_day, is_continuous, with_phase, with_last, with_stops, own_queue, opposite, with_own_queue, with_opposite, with_open, reduced}

-- ---- the sweep

-- a price is within a limit: at or below that of a buy, at or above that of a sell
abbrev pub within : Side → ℕ → ℕ → Bool
within Buy limit price = nat_le price limit
within Sell limit price = nat_le limit price

-- what a sweep comes to: its trades, the opposite queue afterwards, what is left of the order, and the last price
pub record Swept : Type 0 where
  pub trades : List ReportLine
  pub queue : List Order
  pub rest : ℕ
  pub last : ℕ
  pub ending : Ending

abbrev pub stopped : List Order → ℕ → ℕ → Ending → Swept
stopped os rest last ending = record { trades = []; queue = os; rest = rest; last = last; ending = ending }

-- o stays in the queue
abbrev pub keeping : Order → Swept → Swept
keeping o s = record { trades = s.trades; queue = o ∷ s.queue; rest = s.rest; last = s.last; ending = s.ending }

abbrev pub trading : ReportLine → Swept → Swept
trading line s = record { trades = line ∷ s.trades; queue = s.queue; rest = s.rest; last = s.last; ending = s.ending }

-- the line of a trade of an order of a side with a resting one
abbrev pub trade_of : Side → ℕ → ℕ → ℕ → ℕ → ReportLine
trade_of Buy number resting price q = Trade number resting price q
trade_of Sell number resting price q = Trade resting number price q

-- t, with `rest` of it left, meets the queue; `allows last price` is the collar's answer. Orders that sleep until the next call
-- are passed over. A day order within the limit of t trades the smaller quantity at its own limit, which becomes the last price;
-- at 0 it leaves.
unfoldable pub sweep : (ℕ → ℕ → Bool) → Order → ℕ → ℕ → List Order → Swept
sweep allows t rest last [] = stopped [] rest last (cond (rest == 0) Filled Nobody)
sweep allows t rest last (o ∷ os) =
    let line = trade_of t.side t.number o.number o.limit (min rest o.«open») in
    let used_up = sweep allows t (rest - o.«open») o.limit os in
    let partly = stopped (reduced o rest ∷ os) 0 o.limit Filled in
    let met = trading line (cond (nat_le o.«open» rest) used_up partly) in
    let refused = stopped (o ∷ os) rest last Collared in
    let in_reach = cond (allows last o.limit) met refused in
    let out-of-reach = stopped (o ∷ os) rest last Nobody in
    let day = cond (within t.side t.limit o.limit) in_reach out-of-reach in
    let asleep = keeping o (sweep allows t rest last os) in
    let some = cond (is_day o.validity) day asleep in
    cond (rest == 0) (stopped (o ∷ os) rest last Filled) some

-- t sweeps the book's opposite queue
abbrev pub swept_by : Venue → Order → Book → Swept
swept_by v t b = sweep (v.allows b.static) t t.«open» b.last (opposite t.side b)

-- ---- what comes of it

-- a book, with the lines written on the way to it
pub record Moved : Type 0 where
  pub book : Book
  pub lines : List ReportLine

abbrev pub moved : Book → List ReportLine → Moved
moved b ls = record { book = b; lines = ls }

abbrev pub after : List ReportLine → Moved → Moved
after ls m = record { book = m.book; lines = ls ++ m.lines }

-- an order joins its queue
abbrev pub join : Order → Book → Book
join o b = with_own_queue o.side (joined order_ahead o (own_queue o.side b)) b

-- what is left of a day order joins, and where the collar refused the book goes to call; what is left of an IOC order lapses
abbrev pub settled : Bool → Order → Book → ℕ → Ending → Moved
settled day t b rest Filled = moved b []
settled true t b rest Nobody = moved (join (with_open t rest) b) []
settled true t b rest Collared = moved (with_phase Call (join (with_open t rest) b)) []
settled false t b rest Nobody = moved b (Lapse t.number rest ∷ [])
settled false t b rest Collared = moved b (Lapse t.number rest ∷ [])

abbrev pub settle : Order → Book → Swept → Moved
settle t b s = after s.trades (settled (is_day t.validity) t (with_last s.last (with_opposite t.side s.queue b)) s.rest s.ending)

-- an order sweeps, and its rest is settled
unfoldable pub sweeps : Venue → Order → Book → Moved
sweeps v t b = settle t b (swept_by v t b)

-- ---- stops

-- a buy is reached when the last price is at or above its trigger, a sell when it is at or below
abbrev pub reached : ℕ → StopOrder → Bool
reached last s = within s.side last s.trigger

-- it sweeps as a day order
abbrev pub as_day_order : StopOrder → Order
as_day_order s = record { number = s.number; side = s.side; limit = s.limit; «open» = s.quantity; validity = Day }

abbrev pub only_if : {X : Type 0} → Bool → Option X → Option X
only_if false o = None
only_if true o = o

-- the first reached stop, in continuous trading
abbrev pub due_stop : Book → Option StopOrder
due_stop b = only_if (is_continuous b.phase) (first_that (reached b.last) b.stops)

abbrev pub without_due : Book → Book
without_due b = with_stops (without_first (reached b.last) b.stops) b

-- the stop leaves its queue and sweeps, and `again` follows
abbrev pub freed : Venue → (Book → Moved) → Book → Option StopOrder → Moved
freed v again b None = moved b []
freed v again b (Some s) = let m = sweeps v (as_day_order s) (without_due b) in after m.lines (again m.book)

-- while a stop is due, it is released; n times at the most, and the number of stops is enough
unfoldable pub release : Venue → ℕ → Book → Moved
release v zero b = moved b []
release v (suc n) b = freed v (release v n) b (due_stop b)

abbrev pub release_all : Venue → Book → Moved
release_all v b = release v (length b.stops) b

-- stops are released after what was done
abbrev pub then_released : Venue → Moved → Moved
then_released v m = after m.lines (release_all v m.book)
