-- Where the first record with a number stands, as code finds it.
use Rattle.std.specs.Prelude.{◌≡◌, ℕ, Option, MatchOption, slice_index_or}
use Rattle.rules.specs.declared.order.Order.{Order}
use Rattle.trading.specs.declared.stop.StopOrder.{StopOrder}
use Rattle.trading.specs.Books.{Book}
use Rattle.trading.specs.Calls.{numbered, stop_numbered, place, nowhere, in_buys, in_sells, in_stops}
use Rattle.queue.specs.Places.{FirstAt}
use Rattle.book.specs.declared.finding.Spot.{Spot}
use Rattle.book.specs.declared.finding.Spot.TheVariants.{Buys, Sells, Stops}

-- the place that the rules find is the record at this spot
abbrev pub AtSpot : ℕ → Book → Spot → Type 0
AtSpot n b (Buys i) = FirstAt (numbered n) b.buys i × ((o : Order) → place n b ≡ in_buys (slice_index_or b.buys i o))
AtSpot n b (Sells i) = FirstAt (numbered n) b.sells i × ((o : Order) → place n b ≡ in_sells (slice_index_or b.sells i o))
AtSpot n b (Stops i) = FirstAt (stop_numbered n) b.stops i × ((s : StopOrder) → place n b ≡ in_stops (slice_index_or b.stops i s))

abbrev pub FoundBy : ℕ → Book → Option Spot → Type 0
FoundBy n b r = MatchOption r (place n b ≡ nowhere) (λ spot. AtSpot n b spot)
