-- VFU orders leave a queue, in place.
use Rattle.std.specs.Prelude.{◌≡◌, ℕ, ◌+◌, ◌-◌, ◌≤◌, List, take, drop, filter}
use Rattle.rules.specs.declared.order.Order.{Order}
use Rattle.trading.specs.declared.report.ReportLine.{ReportLine}
use Rattle.trading.specs.Uncrossings.{lapse_of, lapses_by, lapsing, lasting}
use Rattle.lent.specs.Contents.{Page, Wrote}
use Rattle.uncrossing.specs.Spans.{span}

-- the lapse lines of the VFU orders of a queue
abbrev pub vfu_lines : List Order → List ReportLine
vfu_lines os = lapses_by lapse_of (filter lapsing os)

-- the orders from i to n that last, as many as `count`, stand at the front of the table, and the lines of the others follow those
-- of the page
pub record SiftedTo (xs ys : List Order) (i n : ℕ) (p p' : Page) (count : ℕ) : Type 0 where
  pub queue : take count ys ≡ filter lasting (span i n xs)
  pub beyond : drop n ys ≡ drop n xs
  pub lines : Wrote (vfu_lines (span i n xs)) p p'
  pub few : p'.written + count ≤ p.written + (n - i)
