-- The checks of an entry that look at the queues, and what an entry comes to.
use Rattle.std.specs.Prelude.{◌≡◌, ℕ, ◌&&◌, List, [], ◌∷◌, nat_le}
use Rattle.trading.specs.declared.stop.StopOrder.{StopOrder}
use Rattle.trading.specs.Desks.{Desk, book_of}
use Rattle.trading.specs.Moves.{Ready}
use Rattle.lent.specs.Contents.{Page}
use Rattle.lent.specs.Moves.{Comes}
use Rattle.trading.specs.declared.ticket.Ticket.{Ticket}
use Rattle.trading.specs.declared.fault.BookFault.TheVariants.{NumberLive, BookFull, StopReached, NoFirstTrade}
use Rattle.trading.specs.Books.{Venue, Book, held, is_ioc}
use Rattle.trading.specs.Sweeps.{swept_by, reached}
use Rattle.trading.specs.Calls.{Check, check, place, is_somewhere, is_stop, stop_of, order_of, is_empty, stop_joins}

-- the last four checks of an entry; n is how many records the tables hold at the most
abbrev pub queue_checks : Venue → ℕ → Ticket → Book → List Check
queue_checks v n t b =
    check (is_somewhere (place t.number b)) NumberLive
    ∷ (check (nat_le n (held b)) BookFull
    ∷ (check (is_stop t.kind && reached b.last (stop_of t)) StopReached
    ∷ (check (is_ioc t.validity && is_empty (swept_by v (order_of t) b).trades) NoFirstTrade
    ∷ [])))

-- a stop has joined, in a book that was ready for one record more, and the tables of orders stay; no line was written, whatever
-- the report holds
pub record StopCame (stop : StopOrder) (d d' : Desk) : Type 0 where
  pub came : (p : Page) (n room from : ℕ) → Ready n d room from 1 → Comes n (stop_joins stop (book_of d)) d p d' p
  pub buys : d'.buys ≡ d.buys
  pub sells : d'.sells ≡ d.sells
