-- An order that enters again.
use Rattle.std.proofs.Common.{◌≡◌, ℕ, ◌+◌, ◌≤◌, [], ◌∷◌, length, set, ap, ◌∙◌, subst, arith}
use Rattle.rules.specs.declared.order.Order.{Order}
use Rattle.trading.specs.declared.report.ReportLine.TheVariants.{Lapse}
use Rattle.trading.specs.Books.{Venue, Book, held, blank_stop}
use Rattle.trading.specs.Sweeps.{moved}
use Rattle.trading.specs.Calls.{place, quantity_at, taken_out, renewed, enters_as}
use Rattle.trading.specs.Desks.{Desk, book_of, capacity}
use Rattle.trading.specs.Moves.{written_at, Ready}
use Rattle.lent.specs.Contents.{Page}
use Rattle.lent.specs.Moves.{Comes}
use Rattle.sessions.proofs.Balance.{count_length, size_held, enters_balanced}
use Rattle.lent.proofs.Pages.{written_one}
use Rattle.sweeping.proofs.Following.{came_after, ready_later, same_capacity}
use Rattle.book.specs.declared.finding.Spot.{Spot}
use Rattle.book.specs.declared.finding.Spot.TheVariants.{Buys, Sells, Stops}
use Rattle.book.specs.declared.amendment.Standing.{Standing}
use Rattle.book.specs.Finding.{AtSpot}
use Rattle.book.specs.Out.{Fit, Out}
use Rattle.book.specs.Amending.{place_as, Stands, AgainCame}

-- the quantity of an order is that of its place
placed_quantity : (n : ℕ) (b : Book) (x : Standing) → Stands n b x → quantity_at (place n b) ≡ x.order.«open»
placed_quantity n b x s = by_spot x.spot s.at s.is
  where
    by_spot : (spot : Spot) → AtSpot n b spot → place n b ≡ place_as spot x.order → quantity_at (place n b) ≡ x.order.«open»
    by_spot (Buys i) at is = ap quantity_at is
    by_spot (Sells i) at is = ap quantity_at is
    by_spot (Stops i) at is = absurd (let p = at.1 blank_stop in let z : ◌≡◌ {A = ℕ} 0 1 = cc in omega arith)

enters_fits : (v : Venue) (o : Order) (b : Book) → length (enters_as v o b).lines + held (enters_as v o b).book ≤ 1 + held b
enters_fits v o b = omega (arith, (enters_balanced v o b).fits, count_length (enters_as v o b).lines, size_held (enters_as v o b).book, size_held b)

module _ (n q : ℕ) (d d' : Desk) (x : Standing) (p p' : Page) (fit : Fit d) (stands : Stands n (book_of d) x) (wide : p.written + capacity d + 1 ≤ length p.lines) (out : Out d n q d')
    (line : p'.lines ≡ set p.lines p.written (Lapse n q)) (next : p'.written ≡ p.written + 1) where
  -- it has left and lapsed
  left_and_lapsed : Comes (capacity d) (moved (taken_out n (book_of d) (place n (book_of d))) (Lapse n x.order.«open» ∷ [])) d p d' p'
  left_and_lapsed = let u = out.untouched in record {
    book = out.book;
    counts = out.counts;
    lines = line ∙ written_one p.lines p.written (Lapse n q) (omega (arith, wide)) ∙ ap (λ k. written_at p.lines p.written (Lapse n k ∷ [])) (out.quantity ∙ placed_quantity n (book_of d) x stands);
    place = next;
    beyond = record { buys_length = u.buys_length; sells_length = u.sells_length; stops_length = u.stops_length; buys = u.buys_beyond; sells = u.sells_beyond; stops = u.stops_beyond };
  }

  -- there is room for it again
  pub room_again : Ready (capacity d) d' (length p.lines) p'.written 1
  room_again =
      let u = out.untouched in
      record { buys = omega (arith, u.buys_length); sells = omega (arith, u.sells_length); stops = omega (arith, u.stops_length); records = omega (arith, out.fewer, fit.few); lines = omega (arith, next, out.fewer, fit.few, wide) }

  pub came_again : (v : Venue) (limit quantity : ℕ) (d'' : Desk) (p'' : Page)
      → Comes (capacity d) (enters_as v (renewed x.order limit quantity) (book_of d')) d' p' d'' p'' → AgainCame v n limit quantity x.order d p d'' p''
  came_again v limit quantity d'' p'' c =
      let o = renewed x.order limit quantity in
      let first = left_and_lapsed in
      let whole = came_after (capacity d) (moved (taken_out n (book_of d) (place n (book_of d))) (Lapse n x.order.«open» ∷ [])) (enters_as v o (taken_out n (book_of d) (place n (book_of d)))) d d' d'' p.lines p'.lines p''.lines p.written p'.written p''.written (omega (arith, wide)) first
      (subst (λ b. Comes (capacity d) (enters_as v o b) d' p' d'' p'') out.book c) in
      let later = ready_later (capacity d) (enters_as v o (book_of d')) d' d'' p'.lines p''.lines p'.written p''.written (length p.lines) 1 (enters_fits v o (book_of d')) room_again c in
      let same = same_capacity (capacity d) d d'' whole.beyond in
      record {
        came = whole;
        ready = record { buys = omega arith; sells = omega arith; stops = omega arith; records = omega (arith, later.records, same); lines = omega (arith, later.lines) };
      }
