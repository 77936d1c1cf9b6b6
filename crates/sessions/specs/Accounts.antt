-- Where the quantity of an order number goes.
use Rattle.std.specs.Prelude.{ℕ, ◌+◌, cond, ◌||◌, Ok, Err, Result, ◌==◌}
use Rattle.rules.specs.declared.order.Order.{Order}
use Rattle.rules.specs.Auctions.{total}
use Rattle.trading.specs.declared.stop.StopOrder.{StopOrder}
use Rattle.trading.specs.declared.answer.Answer.{Answer}
use Rattle.trading.specs.declared.answer.Outcome.{Outcome}
use Rattle.trading.specs.declared.answer.Outcome.TheVariants.{Accepted, PriorityKept, PriorityLost, Uncrossed}
use Rattle.trading.specs.declared.fault.BookFault.{BookFault}
use Rattle.trading.specs.declared.report.ReportLine.{ReportLine}
use Rattle.trading.specs.declared.report.ReportLine.TheVariants.{Trade, Lapse}
use Rattle.trading.specs.declared.request.Request.{Request}
use Rattle.trading.specs.declared.request.Request.TheVariants.{Enter, Amend, Cancel, Call, Uncross, End}
use Rattle.trading.specs.Books.{Book}

-- q where the number n is k, else 0
abbrev pub of_number : ℕ → ℕ → ℕ → ℕ
of_number k n q = cond (n == k) q 0

-- the quantity of a trade line that names k
abbrev pub traded_in : ℕ → ReportLine → ℕ
traded_in k (Trade b s p q) = cond (b == k || s == k) q 0
traded_in k (Lapse n q) = 0

-- the quantity of a lapse line of k
abbrev pub withdrawn_in : ℕ → ReportLine → ℕ
withdrawn_in k (Trade b s p q) = 0
withdrawn_in k (Lapse n q) = of_number k n q

-- what the records of k in the three queues have open
abbrev pub open_order : ℕ → Order → ℕ
open_order k o = of_number k o.number o.«open»

abbrev pub open_stop : ℕ → StopOrder → ℕ
open_stop k s = of_number k s.number s.quantity

abbrev pub open_of : ℕ → Book → ℕ
open_of k b = total (open_order k) b.buys + total (open_order k) b.sells + total (open_stop k) b.stops

-- the new quantity of an amendment that lost priority
abbrev pub if_lost : Outcome → ℕ → ℕ
if_lost Accepted q = 0
if_lost PriorityKept q = 0
if_lost PriorityLost q = q
if_lost (Uncrossed o) q = 0

-- what a call that was taken entered under k
abbrev pub entered_by : ℕ → Request → Outcome → ℕ
entered_by k (Enter t) outcome = of_number k t.number t.quantity
entered_by k (Amend n limit q) outcome = if_lost outcome (of_number k n q)
entered_by k (Cancel n) outcome = 0
entered_by k Call outcome = 0
entered_by k (Uncross next) outcome = 0
entered_by k End outcome = 0

-- a refused call enters nothing
abbrev pub entered_in : ℕ → Request → Result Answer BookFault → ℕ
entered_in k request (Ok a) = entered_by k request a.outcome
entered_in k request (Err f) = 0
