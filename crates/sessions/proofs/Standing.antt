-- What the records of a session's book are like, and the book with them.
use Rattle.std.proofs.Common.{◌≡◌, ℕ, ◌+◌, ◌<◌, ◌≤◌, Bool, true, false, List, [], ◌∷◌, sym, refl, subst, arith}
use Rattle.std.specs.List.{AllByRecursion}
use Rattle.std.proofs.lemmas.Bool.{and_from, true≢false}
use Rattle.std.proofs.lemmas.Bool.Decides.{nat_tests}
use Rattle.grid.specs.Prices.{is_price, top_price}
use Rattle.grid.specs.Neighbours.{Lawful}
use Rattle.rules.specs.declared.order.Order.{Order}
use Rattle.rules.specs.declared.order.Side.{Side}
use Rattle.rules.specs.declared.order.Side.TheVariants.{Buy, Sell}
use Rattle.rules.specs.declared.order.Validity.{Validity}
use Rattle.rules.specs.declared.order.Validity.TheVariants.{Day, Ioc, Vfu}
use Rattle.rules.specs.Auctions.{total}
use Rattle.trading.specs.declared.stop.StopOrder.{StopOrder}
use Rattle.trading.specs.declared.report.ReportLine.{ReportLine}
use Rattle.trading.specs.declared.report.ReportLine.TheVariants.{Trade, Lapse}
use Rattle.trading.specs.Queues.{all_pass, order_ahead, stop_ahead}
use Rattle.trading.specs.Books.{Venue, Book, is_continuous, is_day, is_ioc, is_vfu}
use Rattle.trading.specs.Ranges.{is_number, is_quantity, same_side, may_stand, order_fits, stop_fits}
use Rattle.trading.specs.Sweeps.{Moved}
use Rattle.sessions.specs.Accounts.{of_number}
use Rattle.trading.specs.Desks.{queues_fit}
use Rattle.sessions.proofs.Ranking.{Sorted, sorted_in_order}

-- ---- numbers

-- how many records have the number k
abbrev pub named : ℕ → Order → ℕ
named k o = of_number k o.number 1

abbrev pub stop_named : ℕ → StopOrder → ℕ
stop_named k s = of_number k s.number 1

abbrev pub count : ℕ → Book → ℕ
count k b = total (named k) b.buys + total (named k) b.sells + total (stop_named k) b.stops

-- no number is live twice
abbrev pub Unique : Book → Type 0
Unique b = (k : ℕ) → count k b ≤ 1

-- a trade is between two
abbrev pub Two : ReportLine → Type 0
Two (Trade b s p q) = b ≡ s → ⊥
Two (Lapse n q) = Unit {0}

-- ---- records

-- an order that stands in the queue of a side
pub record Good (v : Venue) (side : Side) (o : Order) : Type 0 where
  pub on_side : o.side ≡ side
  pub number : is_number o.number ≡ true
  pub quantity : is_quantity o.«open» ≡ true
  pub stands : may_stand o.limit o.validity ≡ true
  pub is_lawful : 0 < o.limit → Lawful v.grid.lawful o.limit

pub record GoodStop (v : Venue) (s : StopOrder) : Type 0 where
  pub fits : stop_fits s ≡ true
  pub is_lawful : Lawful v.grid.lawful s.limit

same_side_lem : (s t : Side) → s ≡ t → same_side s t ≡ true
same_side_lem s t e = subst (λ u. same_side s u ≡ true) e (itself s)
  where
    itself : (u : Side) → same_side u u ≡ true
    itself Buy = refl
    itself Sell = refl

pub good_fits : (v : Venue) (side : Side) (o : Order) → Good v side o → order_fits side o ≡ true
good_fits v side o g =
    and_from (same_side o.side side) _ (same_side_lem o.side side g.on_side)
    (and_from (is_number o.number) _ g.number (and_from (is_quantity o.«open») _ g.quantity g.stands))

pub quantity_some : (q : ℕ) → is_quantity q ≡ true → 0 < q
quantity_some q e = grind (arith, nat_tests)

pub quantity_less : (p q : ℕ) → is_quantity q ≡ true → 0 < p → p ≤ q → is_quantity p ≡ true
quantity_less p q e h l = grind (arith, nat_tests)

pub price_some : (p : ℕ) → is_price p ≡ true → 0 < p
price_some p e = grind (arith, nat_tests)

pub price_from : (p : ℕ) → 1 ≤ p → p ≤ top_price → is_price p ≡ true
price_from p h l = grind (arith, nat_tests)

pub good_some : (v : Venue) (side : Side) (o : Order) → Good v side o → 0 < o.«open»
good_some v side o g = quantity_some o.«open» g.quantity

-- a day order has a limit that is a price; whatever is not VFU is a day order
pub day_priced : (limit : ℕ) (w : Validity) → may_stand limit w ≡ true → is_day w ≡ true → is_price limit ≡ true
day_priced limit Day h d = h
day_priced limit Ioc h d = absurd (true≢false (sym d))
day_priced limit Vfu h d = absurd (true≢false (sym d))

pub day_limited : (limit : ℕ) (w : Validity) → may_stand limit w ≡ true → is_day w ≡ true → 0 < limit
day_limited limit w h d = price_some limit (day_priced limit w h d)

pub lasting_limited : (limit : ℕ) (w : Validity) → may_stand limit w ≡ true → is_vfu w ≡ false → 0 < limit
lasting_limited limit Day h e = price_some limit h
lasting_limited limit Ioc h e = absurd (true≢false (sym h))
lasting_limited limit Vfu h e = absurd (true≢false e)

pub never_ioc : (limit : ℕ) (w : Validity) → may_stand limit w ≡ true → is_ioc w ≡ false
never_ioc limit Day h = refl
never_ioc limit Ioc h = absurd (true≢false (sym h))
never_ioc limit Vfu h = refl

-- ---- the book

-- its records are good and in order, its prices are prices
pub record Rested (v : Venue) (b : Book) : Type 0 where
  pub buys : AllByRecursion (Good v Buy) b.buys
  pub sells : AllByRecursion (Good v Sell) b.sells
  pub stops : AllByRecursion (GoodStop v) b.stops
  pub buys_sorted : Sorted order_ahead b.buys
  pub sells_sorted : Sorted order_ahead b.sells
  pub stops_sorted : Sorted stop_ahead b.stops
  pub static : is_price b.static ≡ true
  pub last : is_price b.last ≡ true

-- each limit of a day buy is below each of a day sell: some number parts them
abbrev pub BuysBelow : ℕ → Order → Type 0
BuysBelow c o = is_day o.validity ≡ true → o.limit < c

abbrev pub SellsFrom : ℕ → Order → Type 0
SellsFrom c o = is_day o.validity ≡ true → c ≤ o.limit

pub record Apart (bs ss : List Order) : Type 0 where
  pub at : ℕ
  pub buys : AllByRecursion (BuysBelow at) bs
  pub sells : AllByRecursion (SellsFrom at) ss

-- what every book of a session keeps
pub record Sound (v : Venue) (b : Book) : Type 0 where
  pub rested : Rested v b
  pub unique : Unique b
  pub apart : is_continuous b.phase ≡ true → Apart b.buys b.sells

-- well-formed queues are among it
all_passes : {R : Type 0} (P : R → Type 0) (p : R → Bool) → ((x : R) → P x → p x ≡ true) → (xs : List R) → AllByRecursion P xs → all_pass p xs ≡ true
all_passes P p f [] a = refl
all_passes P p f (x ∷ xs) a = and_from (p x) (all_pass p xs) (f x a.0) (all_passes P p f xs a.1)

pub rested_fit : (v : Venue) (b : Book) → Rested v b → queues_fit b ≡ true
rested_fit v b r =
    and_from _ _ (all_passes (Good v Buy) (order_fits Buy) (good_fits v Buy) b.buys r.buys)
    (and_from _ _ (sorted_in_order order_ahead b.buys r.buys_sorted)
    (and_from _ _ (all_passes (Good v Sell) (order_fits Sell) (good_fits v Sell) b.sells r.sells)
    (and_from _ _ (sorted_in_order order_ahead b.sells r.sells_sorted)
    (and_from _ _ (all_passes (GoodStop v) stop_fits (λ s g. g.fits) b.stops r.stops)
    (and_from _ _ (sorted_in_order stop_ahead b.stops r.stops_sorted)
    (and_from _ _ r.static r.last))))))

-- a move that keeps the book sound, its trades between two
pub record Safe (v : Venue) (m : Moved) : Type 0 where
  pub sound : Sound v m.book
  pub two : AllByRecursion Two m.lines
