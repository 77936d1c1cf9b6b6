-- A ticket has entered.
use Rattle.std.proofs.Common.{◌≡◌, ℕ, ◌+◌, ◌≤◌, Bool, true, false, cond, not, ◌&&◌, List, [], length, take, drop, None, sym, refl, ap, subst, arith}
use Rattle.rules.specs.declared.order.Order.{Order}
use Rattle.trading.specs.declared.report.ReportLine.{ReportLine}
use Rattle.trading.specs.declared.state.State.{State}
use Rattle.trading.specs.declared.stop.StopOrder.{StopOrder}
use Rattle.trading.specs.declared.ticket.Ticket.{Ticket}
use Rattle.trading.specs.Queues.{joined, stop_ahead}
use Rattle.trading.specs.Books.{Venue, Book, held, is_continuous, is_vfu, with_stops}
use Rattle.trading.specs.Sweeps.{moved, join, sweeps, release_all}
use Rattle.trading.specs.Calls.{is_stop, stop_of, order_of, enters_as, stop_joins, entered, first_fault, enter_effect, effect_of}
use Rattle.trading.specs.Desks.{Desk, desk_of, book_of, capacity}
use Rattle.lent.specs.Contents.{Page, beside}
use Rattle.lent.specs.Moves.{ReadyFor, Comes}
use Rattle.sessions.proofs.Balance.{count_length, size_held, entered_balanced}
use Rattle.sweeping.specs.Beside.{Moves}
use Rattle.lent.proofs.Pages.{written_none}
use Rattle.sweeping.proofs.Following.{held_counted, ready_later, lines_fit, same_capacity}
use Rattle.book.specs.Entering.{StopCame, queue_checks}
use Rattle.lent.proofs.Behind.{past_later}
use Rattle.std.proofs.lemmas.Bool.{leb-false}
use Rattle.trading.specs.declared.answer.Outcome.TheVariants.{Accepted}
use Rattle.trading.specs.declared.request.Request.TheVariants.{Enter}
use Rattle.trading.specs.Carried.{Took}
use Rattle.checks.specs.Ground.{Standing}
use Rattle.book.proofs.Entries.{room_left}
use Rattle.book.proofs.Coming.{Fresh, told, released_took}

module _ (v : Venue) (o : Order) (d d' : Desk) (p p' : Page) where
  enters_by : (by : Bool) → is_continuous d.state.phase && not (is_vfu o.validity) ≡ by → Moves (λ b. cond by (sweeps v o b) (moved (join o b) [])) d p d' p' → Moves (enters_as v o) d p d' p'
  enters_by by e c = record {
    came = λ stops n room from ready.
        let b = book_of (beside d stops) in
        subst (λ k. Comes n (cond k (sweeps v o b) (moved (join o b) [])) (beside d stops) p (beside d' stops) p') (sym e) (c.came stops n room from ready);
    stops = c.stops;
  }

  pub enters_sweeping : is_continuous d.state.phase && not (is_vfu o.validity) ≡ true → Moves (sweeps v o) d p d' p' → Moves (enters_as v o) d p d' p'
  enters_sweeping e c = enters_by true e c

  pub enters_joining : is_continuous d.state.phase && not (is_vfu o.validity) ≡ false → Moves (λ b. moved (join o b) []) d p d' p' → Moves (enters_as v o) d p d' p'
  enters_joining e c = enters_by false e c

abbrev more_stops : State → State
more_stops s = record { phase = s.phase; buys = s.buys; sells = s.sells; stops = s.stops + 1; static_price = s.static_price; last = s.last }

pub joined_stops : (stop : StopOrder) (d : Desk) (stops' : List StopOrder) → length stops' ≡ length d.stops
    → take (d.state.stops + 1) stops' ≡ joined stop_ahead stop (take d.state.stops d.stops) → drop (d.state.stops + 1) stops' ≡ drop (d.state.stops + 1) d.stops
    → StopCame stop d (desk_of (more_stops d.state) d.buys d.sells stops')
joined_stops stop d stops' long queue beyond = record {
  came = λ p n room from ready.
      let b = book_of d in
      record {
        book = ap (λ q. with_stops q b) queue;
        counts = record { buys = omega (arith, ready.buys, ready.records); sells = omega (arith, ready.sells, ready.records); stops = omega (arith, ready.stops, ready.records) };
        lines = written_none p.lines p.written;
        place = omega arith;
        beyond = record { buys_length = refl; sells_length = refl; stops_length = long; buys = refl; sells = refl; stops = past_later stops' d.stops (d.state.stops + 1) n (omega (arith, ready.records)) beyond };
      };
  buys = refl;
  sells = refl;
}

module _ (n : ℕ) (v : Venue) (t : Ticket) (d : Desk) (p : Page) (d' : Desk) (p' : Page) where
  pub stop_entered : (s : StopOrder) → is_stop t.kind ≡ true → s ≡ stop_of t → Comes n (stop_joins s (book_of d)) d p d' p' → Comes n (entered v t (book_of d)) d p d' p'
  stop_entered s e is c =
      let b = book_of d in
      subst (λ k. Comes n (cond k (stop_joins (stop_of t) b) (enters_as v (order_of t) b)) d p d' p') (sym e) (subst (λ x. Comes n (stop_joins x b) d p d' p') is c)

  pub order_entered : (o : Order) → is_stop t.kind ≡ false → o ≡ order_of t → Comes n (enters_as v o (book_of d)) d p d' p' → Comes n (entered v t (book_of d)) d p d' p'
  order_entered o e is c =
      let b = book_of d in
      subst (λ k. Comes n (cond k (stop_joins (stop_of t) b) (enters_as v (order_of t) b)) d p d' p') (sym e) (subst (λ x. Comes n (enters_as v x b) d p d' p') is c)

-- what enters adds one to lines and records at the most
pub entered_fits : (v : Venue) (t : Ticket) (b : Book) → length (entered v t b).lines + held (entered v t b).book ≤ 1 + held b
entered_fits v t b = omega (arith, (entered_balanced v t b).fits, count_length (entered v t b).lines, size_held (entered v t b).book, size_held b)

-- there is room for the ticket, and a line of each record
pub ready_to_enter : (v : Venue) (d : Desk) (t : Ticket) (report : List ReportLine) (p : Page) → Standing d (length report) → Fresh report p → first_fault (queue_checks v (capacity d) t (book_of d)) ≡ None → ReadyFor 1 d p
ready_to_enter v d t report p s fresh e =
    let free = room_left v (capacity d) t (book_of d) e in
    let h = held_counted d s.counts in
    record { buys = omega arith; sells = omega arith; stops = omega arith; records = omega (arith, leb-false (capacity d) (held (book_of d)) free); lines = omega (arith, s.few, s.wide, fresh.written, ap length fresh.lines) }

-- and once it has entered, there is room for the release of stops
pub ready_to_release : (v : Venue) (t : Ticket) (d d' : Desk) (p p' : Page) → length p'.lines ≡ length p.lines
    → ReadyFor 1 d p → Comes (capacity d) (entered v t (book_of d)) d p d' p' → ReadyFor 0 d' p'
ready_to_release v t d d' p p' long ready came =
    let later = ready_later (capacity d) (entered v t (book_of d)) d d' p.lines p'.lines p.written p'.written (length p.lines) 1 (entered_fits v t (book_of d)) ready came in
    let same = same_capacity (capacity d) d d' came.beyond in
    record { buys = omega arith; sells = omega arith; stops = omega arith; records = omega (arith, later.records, same); lines = omega (arith, later.lines, long) }

pub entered_took : (v : Venue) (t : Ticket) (d d' d'' : Desk) (report : List ReportLine) (p p' p'' : Page) → Standing d (length report) → Fresh report p → ReadyFor 1 d p
    → Comes (capacity d) (entered v t (book_of d)) d p d' p' → Comes (capacity d') (release_all v (book_of d')) d' p' d'' p''
    → Took (effect_of v (book_of d) (Enter t)) d report (told Accepted d'' p'') d'' p''.lines
unfolding enter_effect
entered_took v t d d' d'' report p p' p'' s fresh ready came released =
    released_took v (Enter t) Accepted (entered v t (book_of d)) d d' d'' report p p' p'' s fresh refl (omega (arith, lines_fit (capacity d) (entered v t (book_of d)) d (length p.lines) p.written 1 (entered_fits v t (book_of d)) ready, ap length fresh.lines)) came released
