-- What follows the price of an uncrossing has come about.
use Rattle.std.proofs.Common.{◌≡◌, ℕ, ◌++◌, length, sym, subst, arith}
use Rattle.std.proofs.lemmas.List.{append-nil, append_assoc}
use Rattle.rules.specs.declared.opening.Opening.{Opening}
use Rattle.rules.specs.declared.opening.Opening.TheVariants.{NoPrice, Printed}
use Rattle.trading.specs.declared.request.Next.{Next}
use Rattle.trading.specs.declared.request.Next.TheVariants.{Trading, Close}
use Rattle.trading.specs.Books.{Venue, Book}
use Rattle.trading.specs.Sweeps.{Moved, moved, release_all, then_released}
use Rattle.trading.specs.Uncrossings.{pairs, vfu_lapses, without_vfu, all_lapses, emptied, printed_at, uncrossed_as}
use Rattle.trading.specs.Desks.{Desk, book_of, capacity}
use Rattle.lent.specs.Contents.{Page}
use Rattle.lent.specs.Moves.{ReadyFor, Comes}
use Rattle.uncrossing.specs.Fits.{Fewer}
use Rattle.sweeping.proofs.Following.{same_capacity, came_released}
use Rattle.book.specs.Opened.{wholly}
use Rattle.book.proofs.Coming.{came_as}

module _ (d d' : Desk) (m : Moved) (p p' : Page) (ready : ReadyFor 0 d p) (came : Comes (capacity d) m d p d' p') (fewer : Fewer d p d' p') where
  -- there is room for the release of stops
  pub ready_to_release : length p'.lines ≡ length p.lines → ReadyFor 0 d' p'
  ready_to_release long =
      let same = same_capacity (capacity d) d d' came.beyond in
      record { buys = omega arith; sells = omega arith; stops = omega arith; records = omega (arith, same, came.place, fewer.orders, fewer.stops, ready.records); lines = omega (arith, long, fewer.orders, fewer.stops, ready.lines) }

  -- with the stops that were released after it, it has come about
  pub released_front : (v : Venue) (d'' : Desk) (p'' : Page) → Comes (capacity d') (release_all v (book_of d')) d' p' d'' p'' → Comes (capacity d) (then_released v m) d p d'' p''
  released_front v d'' p'' c =
      let same = same_capacity (capacity d) d d' came.beyond in
      came_released v (capacity d) m d d' d'' p.lines p'.lines p''.lines p.written p'.written p''.written (omega (arith, came.place, fewer.orders, ready.lines)) came (subst (λ n. Comes n (release_all v (book_of d')) d' p' d'' p'') same c)

-- what is known of the opening and of where it leads
pub opening_as : (n : ℕ) (v : Venue) (next next' : Next) (b : Book) (o o' : Opening) (d : Desk) (p : Page) (d' : Desk) (p' : Page) → next ≡ next' → o ≡ o'
    → Comes n (wholly (uncrossed_as v next' b o')) d p d' p' → Comes n (wholly (uncrossed_as v next b o)) d p d' p'
opening_as n v next next' b o o' d p d' p' e f c =
    subst (λ x. Comes n (wholly (uncrossed_as v x b o)) d p d' p') (sym e) (subst (λ x. Comes n (wholly (uncrossed_as v next' b x)) d p d' p') (sym f) c)

module _ (n : ℕ) (v : Venue) (d : Desk) (p : Page) (d' : Desk) (p' : Page) where
  abbrev CameTo : Moved → Type 0
  CameTo m = Comes n m d p d' p'

  abbrev b : Book
  b = book_of d

  pub trading_unprinted : CameTo (then_released v (moved (without_vfu b) (vfu_lapses b))) → CameTo (wholly (uncrossed_as v Trading b NoPrice))
  trading_unprinted c = c

  pub closed_unprinted : CameTo (moved (emptied b) (all_lapses b)) → CameTo (wholly (uncrossed_as v Close b NoPrice))
  closed_unprinted c = came_as n (emptied b) (all_lapses b) _ d p d' p' (sym (append-nil (all_lapses b))) c

  pub trading_printed : (price volume : ℕ) → CameTo (then_released v (moved (without_vfu (printed_at price b)) ((pairs price b.buys b.sells).trades ++ vfu_lapses (printed_at price b)))) → CameTo (wholly (uncrossed_as v Trading b (Printed price volume)))
  trading_printed price volume c =
      let m = release_all v (without_vfu (printed_at price b)) in
      came_as n m.book _ _ d p d' p' (append_assoc (pairs price b.buys b.sells).trades (vfu_lapses (printed_at price b)) m.lines) c
