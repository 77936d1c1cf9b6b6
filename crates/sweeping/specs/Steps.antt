-- One step of a sweep through a queue, and the sweep of a table with its report.
use Rattle.std.specs.Prelude.{◌≡◌, ℕ, ◌+◌, ◌-◌, ◌<◌, ◌≤◌, min, Bool, true, false, cond, List, Option, Result, MatchOption, MatchResult, length, get_or, take, drop, nat_le, slice_index_or, slice_set}
use Rattle.std.specs.List.{remove, AllByRecursion}
use Rattle.rules.specs.declared.order.Order.{Order}
use Rattle.rules.specs.declared.order.Side.TheVariants.{Buy}
use Rattle.rules.specs.declared.order.Validity.TheVariants.{Day}
use Rattle.trading.specs.declared.report.ReportLine.{ReportLine}
use Rattle.trading.specs.declared.sweep.Ending.{Ending}
use Rattle.trading.specs.Books.{is_day, reduced}
use Rattle.trading.specs.Sweeps.{Swept, stopped, trading, trade_of, sweep}
use Rattle.trading.specs.Moves.{written_at}
use Rattle.queue.specs.declared.queue.Queue.{Queue}
use Rattle.queue.specs.Lent.{listed}
use Rattle.lent.specs.Contents.{Page}
use Rattle.sweeping.specs.declared.trade.AfterTrade.{AfterTrade}
use Rattle.sweeping.specs.declared.tables.AfterSweep.{AfterSweep}

-- what a list holds past its end
abbrev pub blank : Order
blank = record { number = 0; side = Buy; limit = 0; «open» = 0; validity = Day }

-- the line of a trade of t with a resting order
abbrev pub trade_with : Order → Order → ℕ → ReportLine
trade_with t o q = trade_of t.side t.number o.number o.limit q

-- the queue once `rest` has met the order at i: it leaves, or it is reduced
abbrev pub traded : ℕ → List Order → ℕ → List Order
traded rest os i = cond (nat_le (get_or os i blank).«open» rest) (remove os i) (slice_set os i (reduced (slice_index_or os i blank) rest))

-- the sweep begins with a trade with the order at i, and goes on with what is left
abbrev pub Met : (ℕ → ℕ → Bool) → Order → ℕ → ℕ → List Order → ℕ → Type 0
Met allows t rest last os i =
    sweep allows t rest last os ≡ trading (trade_with t (slice_index_or os i blank) (min rest (get_or os i blank).«open»)) (sweep allows t (rest - (get_or os i blank).«open») (get_or os i blank).limit (traded rest os i))

-- what a choice says of the sweep: it goes on with the order at i, or it ends
abbrev pub Chosen : (ℕ → ℕ → Bool) → Order → ℕ → ℕ → List Order → Result ℕ Ending → Type 0
Chosen allows t rest last os r =
    MatchResult r (λ i. (0 < rest) × (i < length os) × Met allows t rest last os i) (λ e. sweep allows t rest last os ≡ stopped os rest last e)

-- an order that does not meet others before the next call
abbrev pub Asleep : Order → Type 0
Asleep o = is_day o.validity ≡ false

-- where the first day order stands, if there is one
abbrev pub FirstDay : List Order → Option ℕ → Type 0
FirstDay os r =
    MatchOption r (AllByRecursion Asleep os)
    (λ i. (i < length os) × AllByRecursion Asleep (take i os) × (is_day (slice_index_or os i blank).validity ≡ true))

-- t, with n left of it, has traded with the order at i: the queue a became b, and r tells what is left
pub record TradedAt (t : Order) (n i : ℕ) (a : Queue Order) (p : Page) (b : Queue Order) (p' : Page) (r : AfterTrade) : Type 0 where
  pub queue : listed b ≡ traded n (listed a) i
  pub beyond : drop a.count b.records.now ≡ drop a.count a.records.now
  pub rest : r.rest ≡ n - (get_or (listed a) i blank).«open»
  pub last : r.last ≡ (get_or (listed a) i blank).limit
  pub count : b.count ≤ a.count
  pub gone : 0 < r.rest → b.count + 1 ≡ a.count
  pub fewer : r.rest + b.count < n + a.count
  pub line : p'.lines ≡ slice_set p.lines p.written (trade_with t (slice_index_or (listed a) i blank) (min n (get_or (listed a) i blank).«open»))
  pub place : p'.written ≡ p.written + 1

-- the sweep s has come about: its queue, which a became, lies in the table, its trades follow the lines of the page, and r tells
-- the rest
pub record QueueSwept (s : Swept) (a : Queue Order) (p : Page) (b : Queue Order) (p' : Page) (r : AfterSweep) : Type 0 where
  pub queue : listed b ≡ s.queue
  pub rest : r.rest ≡ s.rest
  pub last : r.last ≡ s.last
  pub ending : r.ending ≡ s.ending
  pub lines : p'.lines ≡ written_at p.lines p.written s.trades
  pub place : p'.written ≡ p.written + length s.trades
  pub beyond : drop a.count b.records.now ≡ drop a.count a.records.now
  pub count : b.count ≤ a.count
  pub few : p'.written ≤ p.written + a.count
