-- A part of a call as code carries it out on a desk and a report: what it wants, and what has come about.
use Rattle.std.specs.Prelude.{◌≡◌, ℕ, ◌+◌, ◌≤◌, List, ◌++◌, length, take, drop}
use Rattle.trading.specs.declared.report.ReportLine.{ReportLine}
use Rattle.trading.specs.Sweeps.{Moved}
use Rattle.trading.specs.Desks.{Desk, book_of}
use Rattle.trading.specs.Carried.{CountsFit}

-- lines written into a report from a place on
abbrev pub written_at : List ReportLine → ℕ → List ReportLine → List ReportLine
written_at report at lines = take at report ++ (lines ++ drop (at + length lines) report)

-- how many records the counts tell
abbrev pub counted : Desk → ℕ
counted d = d.state.buys + d.state.sells + d.state.stops

-- each table has n records, of which the queues and `new` records more take up no more than n; and behind the first `at` lines
-- the report has a line for each of them
pub record Ready (n : ℕ) (d : Desk) (room at new : ℕ) : Type 0 where
  pub buys : n ≤ length d.buys
  pub sells : n ≤ length d.sells
  pub stops : n ≤ length d.stops
  pub records : counted d + new ≤ n
  pub lines : at + (counted d + new) ≤ room

-- the tables keep their lengths, and their records from n on
pub record Beyond (n : ℕ) (d d' : Desk) : Type 0 where
  pub buys_length : length d'.buys ≡ length d.buys
  pub sells_length : length d'.sells ≡ length d.sells
  pub stops_length : length d'.stops ≡ length d.stops
  pub buys : drop n d'.buys ≡ drop n d.buys
  pub sells : drop n d'.sells ≡ drop n d.sells
  pub stops : drop n d'.stops ≡ drop n d.stops

-- the move m has come about: its book lies in the tables, its lines stand in the report from `at` on, and `end` is the
-- place after them
pub record Came (n : ℕ) (m : Moved) (d : Desk) (report : List ReportLine) (at : ℕ) (d' : Desk) (report' : List ReportLine) (end : ℕ) : Type 0 where
  pub book : book_of d' ≡ m.book
  pub counts : CountsFit d'
  pub lines : report' ≡ written_at report at m.lines
  pub place : end ≡ at + length m.lines
  pub beyond : Beyond n d d'
