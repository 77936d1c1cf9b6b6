-- What an uncrossing comes to, as code carries it out.
use Rattle.std.specs.Prelude.{◌≡◌, ℕ, Bool, true}
use Rattle.rules.specs.declared.opening.Opening.{Opening}
use Rattle.rules.specs.Candidates.{Grid}
use Rattle.trading.specs.declared.request.Next.{Next}
use Rattle.trading.specs.Sweeps.{Moved, moved}
use Rattle.trading.specs.Effects.{Effect, lines_of}
use Rattle.trading.specs.Uncrossings.{uncrossed_as}
use Rattle.trading.specs.Desks.{Desk, book_of, capacity, well_formed}
use Rattle.lent.specs.Contents.{Page}
use Rattle.lent.specs.Moves.{ReadyFor, Comes}
use Rattle.sweeping.specs.Beside.{venue}

-- the tables are well-formed, and the page has room for a line of each record
pub record Openable (d : Desk) (p : Page) : Type 0 where
  pub formed : well_formed d ≡ true
  pub ready : ReadyFor 0 d p

-- an effect as one move, its free lines in their own order
abbrev pub wholly : Effect → Moved
wholly e = moved e.book (lines_of e)

-- an opening was carried out, on whatever grid
abbrev pub OpeningCame : (ℕ → ℕ → ℕ → Bool) → Next → Opening → Desk → Page → Desk → Page → Type 0
OpeningCame allows next opening d p d' p' =
    (g : Grid) → Comes (capacity d) (wholly (uncrossed_as (venue g allows) next (book_of d) opening)) d p d' p'
