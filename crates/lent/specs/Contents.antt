-- What lies in the tables and on the report that a call is lent.
use Rattle.std.specs.Prelude.{◌≡◌, ℕ, ◌+◌, min, List, length}
use Rattle.trading.specs.declared.report.ReportLine.{ReportLine}
use Rattle.trading.specs.Moves.{written_at}
use Rattle.trading.specs.Desks as desks
use Rattle.trading.specs.Books as books
use Rattle.lent.specs.declared.desk.Desk.{Desk}
use Rattle.lent.specs.declared.desk.Book.{Book}
use Rattle.lent.specs.declared.desk.Tables.{Tables}
use Rattle.trading.specs.declared.state.State.{State}
use Rattle.trading.specs.declared.stop.StopOrder.{StopOrder}
use Rattle.lent.specs.declared.report.Report.{Report}

-- the state and the records of the tables
abbrev pub contents : Desk → desks.Desk
contents d = desks.desk_of d.state.now d.buys.now d.sells.now d.stops.now

-- a state with tables that are only read
abbrev pub laid : State → Tables → desks.Desk
laid s t = desks.desk_of s t.buys.now t.sells.now t.stops.now

-- a desk with another table of stops
abbrev pub beside : desks.Desk → List StopOrder → desks.Desk
beside d stops = desks.desk_of d.state d.buys d.sells stops

-- how many records a book may hold in these tables, whatever its state
abbrev pub capacity_in : Tables → ℕ
capacity_in t = min 4096 (min (length t.buys.now) (min (length t.sells.now) (length t.stops.now)))

-- the phase, the prices and the queues
abbrev pub book_seen : Book → books.Book
book_seen b = record { phase = b.phase; static = b.static_price; last = b.last; buys = b.buys.now; sells = b.sells.now; stops = b.stops.now }

-- the lines of a report, and how many of them are written
pub record Page : Type 0 where
  pub lines : List ReportLine
  pub written : ℕ

-- lines follow those of a page: p became p'
pub record Wrote (ls : List ReportLine) (p p' : Page) : Type 0 where
  pub lines : p'.lines ≡ written_at p.lines p.written ls
  pub place : p'.written ≡ p.written + length ls

abbrev pub page : Report → Page
page r = record { lines = r.lines.now; written = r.written }

-- b lies where a lay, in tables of the same lengths: what b holds in the end is what the lender of a gets back
pub record DeskKept (a b : Desk) : Type 0 where
  pub state : b.state.ghost_name ≡ a.state.ghost_name
  pub buys : b.buys.ghost_name ≡ a.buys.ghost_name
  pub sells : b.sells.ghost_name ≡ a.sells.ghost_name
  pub stops : b.stops.ghost_name ≡ a.stops.ghost_name
  pub buys_length : length b.buys.now ≡ length a.buys.now
  pub sells_length : length b.sells.now ≡ length a.sells.now
  pub stops_length : length b.stops.now ≡ length a.stops.now

pub record ReportKept (a b : Report) : Type 0 where
  pub lines : b.lines.ghost_name ≡ a.lines.ghost_name
  pub lines_length : length b.lines.now ≡ length a.lines.now

-- the same of both
pub record Kept (d : Desk) (r : Report) (d' : Desk) (r' : Report) : Type 0 where
  pub desk : DeskKept d d'
  pub report : ReportKept r r'
