-- The uncrossing: the price of the call auction, the trades at it, and what lapses.
use Rattle.std.specs.Prelude.{ℕ, min, Bool, cond, not, List, [], ◌∷◌, ◌++◌, filter, ◌==◌, nat_lt}
use Rattle.rules.specs.declared.order.Order.{Order}
use Rattle.rules.specs.declared.opening.Opening.{Opening}
use Rattle.rules.specs.declared.opening.Opening.TheVariants.{NoPrice, Printed, RefusedByCollar}
use Rattle.rules.specs.Accepts.{accepts_buying, accepts_selling}
use Rattle.rules.specs.Openings.{opening}
use Rattle.trading.specs.declared.stop.StopOrder.{StopOrder}
use Rattle.trading.specs.declared.answer.Outcome.TheVariants.{Uncrossed}
use Rattle.trading.specs.declared.report.ReportLine.{ReportLine}
use Rattle.trading.specs.declared.report.ReportLine.TheVariants.{Trade, Lapse}
use Rattle.trading.specs.declared.request.Next.{Next}
use Rattle.trading.specs.declared.request.Next.TheVariants.{Trading, Close}
use Rattle.trading.specs.declared.state.Phase.TheVariants.{Continuous, Ended}
use Rattle.trading.specs.Books.{Venue, Book, auction_of, is_vfu, with_phase, with_stops, with_orders, with_prices, reduced}
use Rattle.trading.specs.Sweeps.{moved, release_all}
use Rattle.trading.specs.Effects.{Effect, plainly}

-- ---- pairing

-- the trades at a price, and both queues afterwards
pub record Paired : Type 0 where
  pub trades : List ReportLine
  pub buys : List Order
  pub sells : List Order

abbrev pub unpaired : List Order → List Order → Paired
unpaired bs ss = record { trades = []; buys = bs; sells = ss }

abbrev pub keeping_buy : Order → Paired → Paired
keeping_buy b r = record { trades = r.trades; buys = b ∷ r.buys; sells = r.sells }

abbrev pub keeping_sell : Order → Paired → Paired
keeping_sell s r = record { trades = r.trades; buys = r.buys; sells = s ∷ r.sells }

abbrev pub paired : ReportLine → Paired → Paired
paired line r = record { trades = line ∷ r.trades; buys = r.buys; sells = r.sells }

-- the trade of a buy and a sell at p: the smaller quantity
abbrev pub trade_at : ℕ → Order → Order → ReportLine
trade_at p b s = Trade b.number s.number p (min b.«open» s.«open»)

-- the buy b, which accepts p, meets the sells; behind it stand the buys bs, which go on by `next`
unfoldable pub meets : ℕ → Order → (List Order → Paired) → List Order → List Order → Paired
meets p b next bs [] = unpaired (b ∷ bs) []
meets p b next bs (s ∷ ss) =
    let buy-left = meets p (reduced b s.«open») next bs ss in
    let none_left = next ss in
    let sell-left = next (reduced s b.«open» ∷ ss) in
    let buy-used = cond (b.«open» == s.«open») none_left sell-left in
    let trade = paired (trade_at p b s) (cond (nat_lt s.«open» b.«open») buy-left buy-used) in
    let pass = keeping_sell s (meets p b next bs ss) in
    cond (accepts_selling p s) trade pass

-- the first buy and the first sell that accept p trade the smaller quantity at it, until one side has none
unfoldable pub pairs : ℕ → List Order → List Order → Paired
pairs p [] ss = unpaired [] ss
pairs p (b ∷ bs) ss =
    let trade = meets p b (pairs p bs) bs ss in
    let pass = keeping_buy b (pairs p bs ss) in
    cond (accepts_buying p b) trade pass

-- ---- lapsing

abbrev pub lapse_of : Order → ReportLine
lapse_of o = Lapse o.number o.«open»

abbrev pub stop_lapse : StopOrder → ReportLine
stop_lapse s = Lapse s.number s.quantity

unfoldable pub lapses_by : {R : Type 0} → (R → ReportLine) → List R → List ReportLine
lapses_by lapse [] = []
lapses_by lapse (r ∷ rs) = lapse r ∷ lapses_by lapse rs

-- valid for the uncrossing only, or not
abbrev pub lapsing : Order → Bool
lapsing o = is_vfu o.validity

abbrev pub lasting : Order → Bool
lasting o = not (is_vfu o.validity)

-- all VFU orders lapse; what lasts goes into continuous trading
abbrev pub vfu_lapses : Book → List ReportLine
vfu_lapses b = lapses_by lapse_of (filter lapsing b.buys) ++ lapses_by lapse_of (filter lapsing b.sells)

abbrev pub without_vfu : Book → Book
without_vfu b = with_phase Continuous (with_orders (filter lasting b.buys) (filter lasting b.sells) b)

-- everything lapses, and the book is ended
abbrev pub all_lapses : Book → List ReportLine
all_lapses b = lapses_by lapse_of b.buys ++ (lapses_by lapse_of b.sells ++ lapses_by stop_lapse b.stops)

abbrev pub emptied : Book → Book
emptied b = with_phase Ended (with_stops [] (with_orders [] [] b))

-- ---- the uncrossing

-- after a print or no price: the VFU orders lapse and stops are released, or everything lapses
abbrev pub going_on : Venue → Next → Opening → List ReportLine → Book → Effect
going_on v Trading o trades b =
    let m = release_all v (without_vfu b) in
    record { outcome = Uncrossed o; before = trades; lapses = vfu_lapses b; later = m.lines; book = m.book }
going_on v Close o trades b = record { outcome = Uncrossed o; before = trades; lapses = all_lapses b; later = []; book = emptied b }

-- the price is printed: it becomes the static and the last price
abbrev pub printed_at : ℕ → Book → Book
printed_at p b = with_prices p p (with_orders (pairs p b.buys b.sells).buys (pairs p b.buys b.sells).sells b)

-- refused by the collar, the book stays in call as it was
abbrev pub uncrossed_as : Venue → Next → Book → Opening → Effect
uncrossed_as v next b NoPrice = going_on v next NoPrice [] b
uncrossed_as v next b (Printed p volume) = going_on v next (Printed p volume) (pairs p b.buys b.sells).trades (printed_at p b)
uncrossed_as v next b (RefusedByCollar p) = plainly (Uncrossed (RefusedByCollar p)) (moved b [])

-- the collar is asked with the static and the last price before the uncrossing
abbrev pub uncrossed : Venue → Next → Book → Effect
uncrossed v next b = uncrossed_as v next b (opening v.grid v.allows b.static (auction_of b))
