-- Moves that have come about, one after another.
use Rattle.std.proofs.Common.{◌≡◌, ℕ, ◌+◌, ◌≤◌, List, [], length, refl, ap, ◌∙◌, subst, arith}
use Rattle.std.proofs.lemmas.List.{length-append, length-take-le}
use Rattle.rules.specs.declared.order.Order.{Order}
use Rattle.trading.specs.declared.report.ReportLine.{ReportLine}
use Rattle.trading.specs.Books.{Venue, Book, held}
use Rattle.trading.specs.Sweeps.{Moved, moved, after, sweeps, release_all, then_released}
use Rattle.trading.specs.Desks.{Desk, book_of, capacity}
use Rattle.trading.specs.Carried.{CountsFit}
use Rattle.trading.specs.Moves.{written_at, counted, Ready, Beyond, Came}
use Rattle.lent.proofs.Pages.{written_none, written_after}
use Rattle.lent.specs.Contents.{Page}
use Rattle.lent.proofs.Behind.{own_stops}
use Rattle.lent.specs.Moves.{Comes}
use Rattle.sweeping.specs.Beside.{Moves}
use Rattle.sessions.proofs.Balance.{count_length, size_held, sweeps_balanced}

-- ---- desks

pub beyond_after : (n : ℕ) (d d' d'' : Desk) → Beyond n d d' → Beyond n d' d'' → Beyond n d d''
beyond_after n d d' d'' x y = record {
  buys_length = y.buys_length ∙ x.buys_length;
  sells_length = y.sells_length ∙ x.sells_length;
  stops_length = y.stops_length ∙ x.stops_length;
  buys = y.buys ∙ x.buys;
  sells = y.sells ∙ x.sells;
  stops = y.stops ∙ x.stops;
}

-- ---- moves

-- one move, and then another
pub came_after : (n : ℕ) (m m' : Moved) (d d' d'' : Desk) (report report' report'' : List ReportLine) (at at' at'' : ℕ) → at + length m.lines ≤ length report
    → Came n m d report at d' report' at' → Came n m' d' report' at' d'' report'' at'' → Came n (after m.lines m') d report at d'' report'' at''
came_after n m m' d d' d'' report report' report'' at at' at'' room x y = record {
  book = y.book;
  counts = y.counts;
  lines = y.lines ∙ ap (λ r. written_at r at' m'.lines) x.lines ∙ ap (λ k. written_at (written_at report at m.lines) k m'.lines) x.place ∙ written_after report at m.lines m'.lines room;
  place = omega (arith, x.place, y.place, length-append m.lines m'.lines);
  beyond = beyond_after n d d' d'' x.beyond y.beyond;
}

-- nothing is done
pub came_none : (n : ℕ) (d : Desk) (report : List ReportLine) (at : ℕ) → CountsFit d → Came n (moved (book_of d) []) d report at d report at
came_none n d report at fit = record {
  book = refl;
  counts = fit;
  lines = written_none report at;
  place = omega arith;
  beyond = record { buys_length = refl; sells_length = refl; stops_length = refl; buys = refl; sells = refl; stops = refl };
}

-- ---- what is ready afterwards

pub ready_fits : (n : ℕ) (d : Desk) (room at new : ℕ) → Ready n d room at new → CountsFit d
ready_fits n d room at new ready = record { buys = omega (arith, ready.buys, ready.records); sells = omega (arith, ready.sells, ready.records); stops = omega (arith, ready.stops, ready.records) }

pub held_counted : (d : Desk) → CountsFit d → held (book_of d) ≡ counted d
held_counted d fit = omega (arith, length-take-le d.state.buys d.buys fit.buys, length-take-le d.state.sells d.sells fit.sells, length-take-le d.state.stops d.stops fit.stops)

-- after a move by which lines and records grow by no more than `new`, there is room for the records and a line of each
pub ready_later : (n : ℕ) (m : Moved) (d d' : Desk) (report report' : List ReportLine) (at at' room new : ℕ) → length m.lines + held m.book ≤ new + held (book_of d)
    → Ready n d room at new → Came n m d report at d' report' at' → Ready n d' room at' 0
ready_later n m d d' report report' at at' room new fits ready came =
    let before = held_counted d (ready_fits n d room at new ready) in
    let later = held_counted d' came.counts in
    let same = ap held came.book in
    record {
      buys = omega (arith, ready.buys, came.beyond.buys_length);
      sells = omega (arith, ready.sells, came.beyond.sells_length);
      stops = omega (arith, ready.stops, came.beyond.stops_length);
      records = omega (arith, ready.records);
      lines = omega (arith, ready.lines, came.place);
    }

-- the lines of such a move have found room
pub lines_fit : (n : ℕ) (m : Moved) (d : Desk) (room at new : ℕ) → length m.lines + held m.book ≤ new + held (book_of d) → Ready n d room at new → at + length m.lines ≤ room
lines_fit n m d room at new fits ready = omega (arith, ready.lines, held_counted d (ready_fits n d room at new ready))

-- the tables' lengths stay, and with them the capacity
pub same_capacity : (n : ℕ) (d d' : Desk) → Beyond n d d' → capacity d' ≡ capacity d
same_capacity n d d' beyond = omega (arith, beyond.buys_length, beyond.sells_length, beyond.stops_length)

-- a sweep with its rest settled is such a move
pub sweeps_fit : (v : Venue) (t : Order) (b : Book) → length (sweeps v t b).lines + held (sweeps v t b).book ≤ 1 + held b
sweeps_fit v t b = omega (arith, (sweeps_balanced v t b).fits, count_length (sweeps v t b).lines, size_held (sweeps v t b).book, size_held b)

-- stops are released after what was done
pub came_released : (v : Venue) (n : ℕ) (m : Moved) (d d' d'' : Desk) (report report' report'' : List ReportLine) (at at' at'' : ℕ) → at + length m.lines ≤ length report
    → Came n m d report at d' report' at' → Came n (release_all v (book_of d')) d' report' at' d'' report'' at'' → Came n (then_released v m) d report at d'' report'' at''
came_released v n m d d' d'' report report' report'' at at' at'' room x y =
    came_after n m (release_all v m.book) d d' d'' report report' report'' at at' at'' room x (subst (λ b. Came n (release_all v b) d' report' at' d'' report'' at'') x.book y)

-- ---- a move on the desk's own stops

pub came_own : {move : Book → Moved} {d d' : Desk} {p p' : Page} → Moves move d p d' p' → (n room from : ℕ) → Ready n d room from 1 → Comes n (move (book_of d)) d p d' p'
came_own {move} {d} {d'} {p} {p'} h n room from ready = own_stops h.stops (h.came d.stops n room from ready)
