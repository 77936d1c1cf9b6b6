-- Counts that fit tables and page, and how they fall.
use Rattle.std.specs.Prelude.{◌≡◌, ℕ, ◌+◌, ◌-◌, ◌≤◌, length}
use Rattle.trading.specs.declared.state.State.{State}
use Rattle.trading.specs.Desks.{Desk}
use Rattle.lent.specs.Contents.{Page}
use Rattle.uncrossing.specs.declared.pairing.Met.{Met}

-- the counts of orders fit the tables, and behind its lines the page has one for each order
pub record OrdersFit (d : Desk) (p : Page) : Type 0 where
  pub buys : d.state.buys ≤ length d.buys
  pub sells : d.state.sells ≤ length d.sells
  pub lines : p.written + (d.state.buys + d.state.sells) ≤ length p.lines

-- the same with the stops
pub record AllFit (d : Desk) (p : Page) : Type 0 where
  pub buys : d.state.buys ≤ length d.buys
  pub sells : d.state.sells ≤ length d.sells
  pub stops : d.state.stops ≤ length d.stops
  pub lines : p.written + (d.state.buys + d.state.sells + d.state.stops) ≤ length p.lines

-- the queues go on from places within them, and fit the tables
pub record QueuesStart (met : Met) (d : Desk) : Type 0 where
  pub buys_start : met.buys ≤ d.state.buys
  pub sells_start : met.sells ≤ d.state.sells
  pub buys : d.state.buys ≤ length d.buys
  pub sells : d.state.sells ≤ length d.sells

-- how many orders are left where the queues go on
abbrev pub orders_left : Met → State → ℕ
orders_left met s = (s.buys - met.buys) + (s.sells - met.sells)

-- behind its lines the page has one for each order that is left
pub record RestFits (met : Met) (d : Desk) (p : Page) : Type 0 where
  pub queues : QueuesStart met d
  pub lines : p.written + orders_left met d.state ≤ length p.lines

-- the same with the stops
pub record StopsFit (met : Met) (d : Desk) (p : Page) : Type 0 where
  pub stops : d.state.stops ≤ length d.stops
  pub lines : p.written + (orders_left met d.state + d.state.stops) ≤ length p.lines

-- each line more took an order away, and the stops are as before
pub record Fewer (d : Desk) (p : Page) (d' : Desk) (p' : Page) : Type 0 where
  pub orders : p'.written + (d'.state.buys + d'.state.sells) ≤ p.written + (d.state.buys + d.state.sells)
  pub stops : d'.state.stops ≡ d.state.stops
  pub table : d'.stops ≡ d.stops

-- the same where the queues go on from a place
pub record FewerFrom (met : Met) (d : Desk) (p : Page) (d' : Desk) (p' : Page) : Type 0 where
  pub orders : p'.written + (d'.state.buys + d'.state.sells) ≤ p.written + orders_left met d.state
  pub stops : d'.state.stops ≡ d.state.stops
  pub table : d'.stops ≡ d.stops
