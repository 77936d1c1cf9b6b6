-- A new book.
use Rattle.std.specs.Prelude.{◌≡◌, ℕ, List, [], Some, None, Result, MatchResult}
use Rattle.rules.specs.declared.order.Order.{Order}
use Rattle.trading.specs.declared.stop.StopOrder.{StopOrder}
use Rattle.trading.specs.declared.state.State.{State}
use Rattle.trading.specs.declared.fault.BookFault.{BookFault}
use Rattle.trading.specs.Books.{Venue, new_state}
use Rattle.trading.specs.Calls.{first_fault, new_checks}
use Rattle.trading.specs.Desks.{desk_of}
use Rattle.sessions.specs.Runs.{Session}

-- the state of a new book, which begins a session on whatever tables, on every grid and under every collar
pub record Begins (p : ℕ) (s : State) : Type 0 where
  pub new : s ≡ new_state p
  pub session : (v : Venue) (buys sells : List Order) (stops : List StopOrder) → Session v (desk_of s buys sells stops) []

-- the first check that holds refuses the opening price; else the book is new
abbrev pub MadeNew : ℕ → Result State BookFault → Type 0
MadeNew p r = MatchResult r (λ s. (first_fault (new_checks p) ≡ None) × Begins p s) (λ f. first_fault (new_checks p) ≡ Some f)
