-- A record taken out of its queue.
use Rattle.std.specs.Prelude.{◌≡◌, ℕ, ◌+◌, ◌<◌, ◌≤◌}
use Rattle.trading.specs.Desks.{Desk, book_of, capacity}
use Rattle.trading.specs.Calls.{place, quantity_at, taken_out}
use Rattle.trading.specs.Carried.{CountsFit, Untouched}
use Rattle.trading.specs.Moves.{counted}
use Rattle.book.specs.declared.finding.Spot.{Spot}
use Rattle.book.specs.declared.finding.Spot.TheVariants.{Buys, Sells, Stops}
use Rattle.book.specs.Finding.{AtSpot}

-- the queues fit their tables
pub record Fit (d : Desk) : Type 0 where
  pub counts : CountsFit d
  pub few : counted d ≤ capacity d

-- a spot is within its queue
abbrev pub Within : Desk → Spot → Type 0
Within d (Buys i) = i < d.state.buys
Within d (Sells i) = i < d.state.sells
Within d (Stops i) = i < d.state.stops

-- the record at a spot has left its queue; q is its quantity
pub record Out (d : Desk) (n q : ℕ) (d' : Desk) : Type 0 where
  pub book : book_of d' ≡ taken_out n (book_of d) (place n (book_of d))
  pub quantity : q ≡ quantity_at (place n (book_of d))
  pub counts : CountsFit d'
  pub fewer : counted d' + 1 ≡ counted d
  pub untouched : Untouched d d'

-- whatever number it was found under
abbrev pub OutOf : Desk → Spot → ℕ → Desk → Type 0
OutOf d spot q d' = (n : ℕ) → AtSpot n (book_of d) spot → Out d n q d'
