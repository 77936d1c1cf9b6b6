-- The trades at a price, in place.
use Rattle.std.specs.Prelude.{◌≡◌, ℕ, ◌+◌, ◌<◌, ◌≤◌, Bool, true, false, ◌&&◌, List, [], ◌∷◌, Option, MatchOption, get_or, take, drop, slice_index_or, slice_set}
use Rattle.rules.specs.declared.order.Order.{Order}
use Rattle.rules.specs.Accepts.{accepts_buying, accepts_selling}
use Rattle.trading.specs.Books.{reduced}
use Rattle.trading.specs.Desks.{Desk}
use Rattle.trading.specs.Uncrossings.{Paired, pairs}
use Rattle.lent.specs.Contents.{Page, Wrote}
use Rattle.uncrossing.specs.declared.pairing.Met.{Met}
use Rattle.uncrossing.specs.Spans.{span, blank_order}
use Rattle.uncrossing.specs.Fits.{orders_left}

-- the first of each queue accept the price
abbrev pub firsts_meet : ℕ → List Order → List Order → Bool
firsts_meet p [] ss = false
firsts_meet p (b ∷ bs) [] = false
firsts_meet p (b ∷ bs) (s ∷ ss) = accepts_buying p b && accepts_selling p s

-- the first of each queue, where both accept the price
abbrev pub NextPair : ℕ → List Order → List Order → Option (Order × Order) → Type 0
NextPair p bs ss r =
    MatchOption r (firsts_meet p bs ss ≡ false)
    (λ x. (firsts_meet p bs ss ≡ true) × (x.0 ≡ slice_index_or bs 0 blank_order) × (x.1 ≡ slice_index_or ss 0 blank_order))

-- the pairing of the queues of a desk
abbrev pub paired_at : ℕ → Desk → Paired
paired_at p d = pairs p (take d.state.buys d.buys) (take d.state.sells d.sells)

-- q was taken off the order at i, and its queue goes on from j
pub record TookOff (xs ys : List Order) (i q j : ℕ) : Type 0 where
  pub used_up : (get_or xs i blank_order).«open» ≤ q → (j ≡ i + 1) × (ys ≡ xs)
  pub left_over : q < (get_or xs i blank_order).«open» → (j ≡ i) × (ys ≡ slice_set xs i (reduced (slice_index_or xs i blank_order) q))

-- the pairing of the queues at p has come about: the queues are the spans from where they go on, the trades follow the lines of
-- the page, each took an order away, and the stops stay
pub record MetBy (p : ℕ) (d : Desk) (page : Page) (d' : Desk) (page' : Page) (met : Met) : Type 0 where
  pub buys_left : span met.buys d.state.buys d'.buys ≡ (paired_at p d).buys
  pub sells_left : span met.sells d.state.sells d'.sells ≡ (paired_at p d).sells
  pub trades : Wrote (paired_at p d).trades page page'
  pub buys_start : met.buys ≤ d.state.buys
  pub sells_start : met.sells ≤ d.state.sells
  pub few : page'.written + orders_left met d.state ≤ page.written + (d.state.buys + d.state.sells)
  pub buys_beyond : drop d.state.buys d'.buys ≡ drop d.state.buys d.buys
  pub sells_beyond : drop d.state.sells d'.sells ≡ drop d.state.sells d.sells
  pub stops : d'.stops ≡ d.stops
