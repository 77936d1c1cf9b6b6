-- The release of stops, in memory.
use Rattle.std.specs.Prelude.{◌≡◌, ℕ, Bool, true, None, Option, MatchOption, slice_index_or}
use Rattle.std.specs.List.{remove}
use Rattle.rules.specs.declared.order.Side.TheVariants.{Buy}
use Rattle.rules.specs.Candidates.{Grid}
use Rattle.trading.specs.declared.stop.StopOrder.{StopOrder}
use Rattle.trading.specs.Books.{Book, is_continuous, with_stops}
use Rattle.trading.specs.Sweeps.{Moved, sweeps, reached, as_day_order, due_stop}
use Rattle.trading.specs.Desks.{Desk, book_of}
use Rattle.trading.specs.Moves.{Ready}
use Rattle.lent.specs.Contents.{Page}
use Rattle.lent.specs.Moves.{Comes}
use Rattle.queue.specs.Places.{FirstAt}
use Rattle.sweeping.specs.Beside.{venue}

-- what a list of stops holds past its end
abbrev pub blank_stop : StopOrder
blank_stop = record { number = 0; side = Buy; trigger = 0; limit = 0; quantity = 0 }

-- where the stop that is due stands: the first reached one, in continuous trading
abbrev pub DueAt : Book → Option ℕ → Type 0
DueAt b r = MatchOption r (due_stop b ≡ None) (λ i. (is_continuous b.phase ≡ true) × FirstAt (reached b.last) b.stops i)

-- the stop at i leaves its queue, and sweeps as a day order
abbrev pub released_at : Grid → (ℕ → ℕ → ℕ → Bool) → ℕ → Book → Moved
released_at g allows i b = sweeps (venue g allows) (as_day_order (slice_index_or b.stops i blank_stop)) (with_stops (remove b.stops i) b)

-- the release of the stop at i has come about
pub record ReleasedAt (allows : ℕ → ℕ → ℕ → Bool) (i : ℕ) (d : Desk) (p : Page) (d' : Desk) (p' : Page) : Type 0 where
  pub came : (g : Grid) (n room from : ℕ) → Ready n d room from 0 → Comes n (released_at g allows i (book_of d)) d p d' p'
