-- A book after the trades at a price, while the orders that are used up still lie in front of the queues.
use Rattle.std.specs.Prelude.{◌≡◌, ℕ, take}
use Rattle.trading.specs.Books.{Book}
use Rattle.trading.specs.Desks.{Desk}
use Rattle.lent.specs.Contents.{Page}
use Rattle.uncrossing.specs.declared.pairing.Met.{Met}
use Rattle.uncrossing.specs.Spans.{span}
use Rattle.uncrossing.specs.Meetings.{MetBy}

-- the book of a desk whose queues go on from a place
abbrev pub book_from : Met → Desk → Book
book_from met d = record {
  phase = d.state.phase;
  static = d.state.static_price;
  last = d.state.last;
  buys = span met.buys d.state.buys d.buys;
  sells = span met.sells d.state.sells d.sells;
  stops = take d.state.stops d.stops;
}

-- p was printed: it is the static and the last price, and the queues have traded at it
pub record PrintedAs (p : ℕ) (d : Desk) (page : Page) (d' : Desk) (page' : Page) (met : Met) : Type 0 where
  pub state : d'.state ≡ record { phase = d.state.phase; buys = d.state.buys; sells = d.state.sells; stops = d.state.stops; static_price = p; last = p }
  pub paired : MetBy p d page d' page' met
