-- An order that is to be amended, as code finds it.
use Rattle.std.specs.Prelude.{◌≡◌, ℕ, ◌+◌, ◌<◌, ◌≤◌, length, Some, None, Result, MatchResult, slice_set}
use Rattle.rules.specs.declared.order.Order.{Order}
use Rattle.trading.specs.declared.fault.BookFault.{BookFault}
use Rattle.trading.specs.Books.{Book, Venue}
use Rattle.trading.specs.Calls.{Place, nowhere, in_buys, in_sells, place, first_fault, amend_checks, cut, enters_again}
use Rattle.trading.specs.Desks.{Desk, desk_of, book_of, capacity}
use Rattle.trading.specs.Moves.{Ready}
use Rattle.lent.specs.Contents.{Page}
use Rattle.lent.specs.Moves.{Comes}
use Rattle.book.specs.declared.finding.Spot.{Spot}
use Rattle.book.specs.declared.finding.Spot.TheVariants.{Buys, Sells, Stops}
use Rattle.book.specs.declared.amendment.Standing.{Standing}
use Rattle.book.specs.Finding.{AtSpot}
use Rattle.book.specs.Out.{Fit}

-- the place of an order at a spot; a stop is no order
abbrev pub place_as : Spot → Order → Place
place_as (Buys i) o = in_buys o
place_as (Sells i) o = in_sells o
place_as (Stops i) o = nowhere

-- the rules find this order at this spot
pub record Stands (n : ℕ) (b : Book) (x : Standing) : Type 0 where
  pub at : AtSpot n b x.spot
  pub is : place n b ≡ place_as x.spot x.order

abbrev pub MayAmend : Venue → ℕ → ℕ → ℕ → Book → Result Standing BookFault → Type 0
MayAmend v n limit quantity b r =
    MatchResult r (λ x. (first_fault (amend_checks v n limit quantity b) ≡ None) × Stands n b x) (λ f. first_fault (amend_checks v n limit quantity b) ≡ Some f)

-- a spot of an order lies in its table
abbrev pub Inside : Spot → Desk → Type 0
Inside (Buys i) d = i < length d.buys
Inside (Sells i) d = i < length d.sells
Inside (Stops i) d = ⊥

-- the desk with an order put at a spot
abbrev pub desk_with : Spot → Order → Desk → Desk
desk_with (Buys i) o d = desk_of d.state (slice_set d.buys i o) d.sells d.stops
desk_with (Sells i) o d = desk_of d.state d.buys (slice_set d.sells i o) d.stops
desk_with (Stops i) o d = d

-- the order that stands under n has been cut to a quantity
pub record CutCame (n quantity : ℕ) (x : Standing) (d : Desk) (p : Page) (d' : Desk) (p' : Page) : Type 0 where
  pub came : Fit d → Stands n (book_of d) x → Comes (capacity d) (cut n quantity (book_of d) (place n (book_of d)) x.order) d p d' p'
  pub few : p'.written ≤ p.written + 1
  pub state : d'.state ≡ d.state
  pub stops : d'.stops ≡ d.stops

-- it has entered again, and there is room for the release of stops
pub record AgainCame (v : Venue) (n limit quantity : ℕ) (o : Order) (d : Desk) (p : Page) (d' : Desk) (p' : Page) : Type 0 where
  pub came : Comes (capacity d) (enters_again v n limit quantity (book_of d) (place n (book_of d)) o) d p d' p'
  pub ready : Ready (capacity d') d' (length p.lines) p'.written 0
