-- What orders do to a book in memory, whatever stops stand in it.
use Rattle.std.specs.Prelude.{◌≡◌, ℕ, ◌+◌, ◌<◌, ◌≤◌, Bool, List, length}
use Rattle.rules.specs.declared.order.Order.{Order}
use Rattle.rules.specs.Candidates.{Grid}
use Rattle.trading.specs.declared.stop.StopOrder.{StopOrder}
use Rattle.trading.specs.Books.{Venue, Book, with_last, opposite, with_opposite}
use Rattle.trading.specs.Sweeps.{Swept, sweep, Moved, moved}
use Rattle.trading.specs.Desks.{Desk, book_of}
use Rattle.trading.specs.Moves.{Ready}
use Rattle.lent.specs.Contents.{Page, beside}
use Rattle.lent.specs.Moves.{Comes}
use Rattle.sweeping.specs.declared.tables.AfterSweep.{AfterSweep}

-- a venue by its grid and the meaning of its collar
abbrev pub venue : Grid → (ℕ → ℕ → ℕ → Bool) → Venue
venue g allows = record { grid = g; allows = allows }

-- each side has room for one record more, and the page for a line of each order and one line more
pub record Roomy (d : Desk) (p : Page) : Type 0 where
  pub for_buy : d.state.buys < length d.buys
  pub for_sell : d.state.sells < length d.sells
  pub lines : p.written + (d.state.buys + d.state.sells) + 1 ≤ length p.lines

-- a move has come about in a book that was ready for one record more, whatever stops stand in it; the table of stops stays
pub record Moves (move : Book → Moved) (d : Desk) (p : Page) (d' : Desk) (p' : Page) : Type 0 where
  pub came : (stops : List StopOrder) (n room from : ℕ) → Ready n (beside d stops) room from 1 → Comes n (move (book_of (beside d stops))) (beside d stops) p (beside d' stops) p'
  pub stops : d'.stops ≡ d.stops

-- t sweeps the opposite queue of a book
abbrev pub swept_in : (ℕ → ℕ → ℕ → Bool) → Order → Book → Swept
swept_in allows t b = sweep (allows b.static) t t.«open» b.last (opposite t.side b)

-- the book and the lines after a sweep of t, before its rest is settled
abbrev pub unsettled : Order → Book → Swept → Moved
unsettled t b s = moved (with_last s.last (with_opposite t.side s.queue b)) s.trades

-- the sweep of t has come about, and r tells what is left of it
pub record SweptBy (allows : ℕ → ℕ → ℕ → Bool) (t : Order) (d : Desk) (p : Page) (d' : Desk) (p' : Page) (r : AfterSweep) : Type 0 where
  pub moves : Moves (λ b. unsettled t b (swept_in allows t b)) d p d' p'
  pub rest : (stops : List StopOrder) → r.rest ≡ (swept_in allows t (book_of (beside d stops))).rest
  pub ending : (stops : List StopOrder) → r.ending ≡ (swept_in allows t (book_of (beside d stops))).ending
  pub few : p'.written ≤ p.written + (d.state.buys + d.state.sells)
  pub buys_fall : d'.state.buys ≤ d.state.buys
  pub sells_fall : d'.state.sells ≤ d.state.sells
  pub stops_stay : d'.state.stops ≡ d.state.stops
