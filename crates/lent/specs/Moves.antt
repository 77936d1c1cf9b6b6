-- A part of a call on lent tables and a page: what it wants, and what has come about.
use Rattle.std.specs.Prelude.{ℕ, length}
use Rattle.trading.specs.Desks.{Desk, capacity}
use Rattle.trading.specs.Moves.{Ready, Came}
use Rattle.trading.specs.Sweeps.{Moved}
use Rattle.lent.specs.Contents.{Page}

-- there is room in the tables for `new` records more, and on the page behind its lines for a line of each record
abbrev pub ReadyFor : ℕ → Desk → Page → Type 0
ReadyFor new d p = Ready (capacity d) d (length p.lines) p.written new

-- the move m has come about: its book lies in the tables, which keep their records from n on, and its lines follow those on the page
abbrev pub Comes : ℕ → Moved → Desk → Page → Desk → Page → Type 0
Comes n m d p d' p' = Came n m d p.lines p.written d' p'.lines p'.written
