-- What a line does to a call book.
use Rattle.std.specs.Prelude.{◌≡◌, ℕ, ◌+◌, ◌<◌, ◌≤◌, Bool, ◌&&◌, ◌⊎◌, List, [], ◌∷◌, ◌++◌, length, Some, None, Ok, Err, vec_items, MatchBool, Option, Result}
use Rattle.std.specs.Option.{option_map}
use Rattle.grid.specs.Prices.{is_price}
use Rattle.grid.specs.Steps.{on_steps}
use Rattle.ticks.specs.Rows.{on_rows}
use Rattle.grid.specs.Decades.{on_decades}
use Rattle.grid.specs.Setup.{even_fault}
use Rattle.ticks.specs.Setup.{table_fault}
use Rattle.ticks.specs.Any.{on_any}
use Rattle.ticks.specs.declared.any.AnyGrid.{AnyGrid}
use Rattle.ticks.specs.declared.row.TickRow.{TickRow}
use Rattle.collar.specs.Bands.{in_band, within}
use Rattle.collar.specs.Setup.{band_fault, factor_fault}
use Rattle.collar.specs.Any.{allows_any}
use Rattle.collar.specs.declared.CollarFault.{CollarFault}
use Rattle.collar.specs.declared.any.AnyCollar.{AnyCollar}
use Rattle.rules.specs.Candidates.{grid_of}
use Rattle.rules.specs.declared.order.Order.{Order}
use Rattle.rules.specs.declared.order.Side.{Side}
use Rattle.rules.specs.declared.order.Side.TheVariants.{Buy, Sell}
use Rattle.rules.specs.declared.order.Validity.{Validity}
use Rattle.rules.specs.declared.order.Validity.TheVariants.{Day, Vfu}
use Rattle.rules.specs.declared.opening.Opening.{Opening}
use Rattle.rules.specs.Auctions.{auction}
use Rattle.rules.specs.Openings.{opening}
use Rattle.rules.specs.Winners.{PriceLaw}
use Rattle.pricing.specs.Few.{Few}
use Rattle.script.specs.declared.statement.CollarWords.{CollarWords}
use Rattle.script.specs.declared.statement.CollarWords.TheVariants.{Plain, AroundStatic}
use Rattle.script.specs.declared.statement.PlainCollar.{PlainCollar}
use Rattle.script.specs.declared.statement.PlainCollar.TheVariants.{Unlimited, FixedBand, AroundLast}
use Rattle.script.specs.declared.statement.OrderPrice.{OrderPrice}
use Rattle.script.specs.declared.statement.Statement.{Statement}
use Rattle.script.specs.declared.statement.Statement.TheVariants.{Blank, GridEven, GridTable, GridDecade, Collar, Static, Last, Order as Ordered, Open}
use Rattle.script.specs.declared.statement.OrderPrice.TheVariants.{Limit, Market}
use Rattle.callbook.specs.declared.order_check.OrderFault.{OrderFault}
use Rattle.callbook.specs.declared.fault.BookFault.{BookFault}
use Rattle.callbook.specs.declared.fault.BookFault.TheVariants.{NoGrid, NoStaticPrice, NoLastPrice, OrdersStand, EvenGridUnfit, TickTableUnfit, CollarUnfit, NotPrice, OrderUnfit, BookFull, NoMemory}
use Rattle.callbook.specs.Orders.{OrderChecked}
use Rattle.callbook.specs.Desks.{Desk, no_orders, with_grid, with_collar, with_static, with_last, with_orders, Guarded}

-- ---- collars

-- the prices that a collar allows, by its words
abbrev pub plain_allows : PlainCollar → ℕ → ℕ → ℕ → Bool
plain_allows Unlimited static last p = is_price p
plain_allows (FixedBand low high) static last p = in_band low high p
plain_allows (AroundLast k) static last p = within k last p

abbrev pub words_allow : CollarWords → ℕ → ℕ → ℕ → Bool
words_allow (Plain c) static last p = plain_allows c static last p
words_allow (AroundStatic k c) static last p = within k static p && plain_allows c static last p

-- why the words make no collar: what is wrong underneath is told first
abbrev pub plain_fault : PlainCollar → Option CollarFault
plain_fault Unlimited = None
plain_fault (FixedBand low high) = band_fault low high
plain_fault (AroundLast k) = factor_fault k

abbrev pub first_fault : Option CollarFault → Option CollarFault → Option CollarFault
first_fault None other = other
first_fault (Some f) other = Some f

abbrev pub words_fault : CollarWords → Option CollarFault
words_fault (Plain c) = plain_fault c
words_fault (AroundStatic k c) = first_fault (plain_fault c) (factor_fault k)

-- the collar of these words
pub record Made (words : CollarWords) (c : AnyCollar) : Type 0 where
  pub fits : words_fault words ≡ None
  pub allows : (static last p : ℕ) → allows_any c static last p ≡ words_allow words static last p

-- ---- orders

-- how many orders stand in the book
abbrev pub held : Desk → ℕ
held d = length d.buys + length d.sells

-- the order that a line brings: a market order, whose limit is 0, is valid for the auction only
abbrev pub validity_of : OrderPrice → Validity
validity_of (Limit x) = Day
validity_of Market = Vfu

abbrev pub order_of : Desk → Side → ℕ → OrderPrice → ℕ → Order
order_of d side quantity price limit = record { number = held d + 1; side = side; limit = limit; «open» = quantity; validity = validity_of price }

-- the order stands behind those of its side
abbrev pub with_order : Side → Order → Desk → Desk
with_order Buy o d = with_orders (d.buys ++ (o ∷ [])) d.sells d
with_order Sell o d = with_orders d.buys (d.sells ++ (o ∷ [])) d

-- an order on this grid: taken, or refused by the first that holds; an order that passes every check may find no memory
abbrev pub OrderTaken : (ℕ → Bool) → Desk → Side → ℕ → OrderPrice → Result Unit BookFault → Desk → Type 0
OrderTaken lawful d side quantity price (Ok _) d' =
    (limit : ℕ) × OrderChecked lawful quantity price (Ok limit) × (held d < 4096) × (d' ≡ with_order side (order_of d side quantity price limit) d)
OrderTaken lawful d side quantity price (Err f) d' =
    (d' ≡ d)
    × (((e : OrderFault) × (f ≡ OrderUnfit e) × OrderChecked lawful quantity price (Err e))
    ⊎ ((limit : ℕ) × OrderChecked lawful quantity price (Ok limit) × (((f ≡ BookFull) × (4096 ≤ held d)) ⊎ ((f ≡ NoMemory) × (held d < 4096)))))

abbrev pub OrderOn : Option AnyGrid → Desk → Side → ℕ → OrderPrice → Result Unit BookFault → Desk → Type 0
OrderOn None d side quantity price r d' = (r ≡ Err NoGrid) × (d' ≡ d)
OrderOn (Some g) d side quantity price r d' = OrderTaken (on_any g) d side quantity price r d'

-- ---- the opening

-- the auction is held: the outcome is that of the rules and keeps the price law, and no order stays; it is refused exactly
-- where a side has more orders than an auction takes
abbrev pub Held : (ℕ → Bool) → ℕ → ℕ → Desk → Result Opening BookFault → Desk → Type 0
Held lawful static last d (Ok o) d' =
    (d' ≡ with_orders [] [] d)
    × Few d.buys × Few d.sells
    × (o ≡ opening (grid_of lawful) (allows_any d.collar) static (auction last d.buys d.sells))
    × PriceLaw lawful (allows_any d.collar) static (auction last d.buys d.sells) o
Held lawful static last d (Err f) d' = (d' ≡ d) × (f ≡ BookFull) × (Few d.buys × Few d.sells → ⊥)

-- a grid, a static price and a last price are wanted, in this order
abbrev pub HeldBy : Option AnyGrid → Option ℕ → Option ℕ → Desk → Result Opening BookFault → Desk → Type 0
HeldBy None static last d r d' = (r ≡ Err NoGrid) × (d' ≡ d)
HeldBy (Some g) None last d r d' = (r ≡ Err NoStaticPrice) × (d' ≡ d)
HeldBy (Some g) (Some s) None d r d' = (r ≡ Err NoLastPrice) × (d' ≡ d)
HeldBy (Some g) (Some s) (Some l) d r d' = Held (on_any g) s l d r d'

abbrev pub AuctionHeld : Desk → Result Opening BookFault → Desk → Type 0
AuctionHeld d r d' = HeldBy d.grid d.static_price d.last d r d'

-- ---- a line

-- the grid of these prices is named, unless it is unfit or orders stand in the book
abbrev pub GridNamed : Option BookFault → (ℕ → Bool) → Desk → Result (Option Opening) BookFault → Desk → Type 0
GridNamed (Some f) lawful d r d' = (r ≡ Err f) × (d' ≡ d)
GridNamed None lawful d r d' =
    MatchBool (no_orders d)
    ((r ≡ Ok None) × ((g : AnyGrid) × ((p : ℕ) → on_any g p ≡ lawful p) × (d' ≡ with_grid g d)))
    ((r ≡ Err OrdersStand) × (d' ≡ d))

abbrev pub CollarNamed : Option CollarFault → (ℕ → ℕ → ℕ → Bool) → Desk → Result (Option Opening) BookFault → Desk → Type 0
CollarNamed (Some f) allows d r d' = (r ≡ Err (CollarUnfit f)) × (d' ≡ d)
CollarNamed None allows d r d' = (r ≡ Ok None) × ((c : AnyCollar) × ((static last p : ℕ) → allows_any c static last p ≡ allows static last p) × (d' ≡ with_collar c d))

-- nothing is printed
abbrev pub silent : Result Unit BookFault → Result (Option Opening) BookFault
silent (Ok _) = Ok None
silent (Err f) = Err f

-- the outcome is printed
abbrev pub told : Result Opening BookFault → Result (Option Opening) BookFault
told (Ok o) = Ok (Some o)
told (Err f) = Err f

abbrev pub even_refusal : ℕ → ℕ → ℕ → Option BookFault
even_refusal first step last = option_map EvenGridUnfit (even_fault first step last)

abbrev pub table_refusal : List TickRow → ℕ → Option BookFault
table_refusal rows end = option_map TickTableUnfit (table_fault rows end)

-- what a statement does
abbrev pub Applied : Desk → Statement → Result (Option Opening) BookFault → Desk → Type 0
Applied d Blank r d' = (r ≡ Ok None) × (d' ≡ d)
Applied d (GridEven first step last) r d' = GridNamed (even_refusal first step last) (on_steps first step last) d r d'
Applied d (GridTable rows end) r d' = GridNamed (table_refusal (vec_items rows) end) (on_rows (vec_items rows) (length (vec_items rows)) end) d r d'
Applied d GridDecade r d' = GridNamed None on_decades d r d'
Applied d (Collar words) r d' = CollarNamed (words_fault words) (words_allow words) d r d'
Applied d (Static p) r d' = (s : Result Unit BookFault) × (r ≡ silent s) × Guarded (is_price p) NotPrice d (with_static p d) s d'
Applied d (Last p) r d' = (s : Result Unit BookFault) × (r ≡ silent s) × Guarded (is_price p) NotPrice d (with_last p d) s d'
Applied d (Ordered side quantity price) r d' = (s : Result Unit BookFault) × (r ≡ silent s) × OrderOn d.grid d side quantity price s d'
Applied d Open r d' = (s : Result Opening BookFault) × (r ≡ told s) × AuctionHeld d s d'
