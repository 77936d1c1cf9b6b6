-- A record that leaves a table's queue has left the book.
use Rattle.std.proofs.Common.{◌≡◌, ℕ, ◌-◌, ◌<◌, List, length, get_or, take, drop, sym, refl, ap, ◌∙◌, arith}
use Rattle.std.specs.List.{remove}
use Rattle.std.proofs.lemmas.List.{get_or-take}
use Rattle.rules.specs.declared.order.Order.{Order}
use Rattle.trading.specs.declared.stop.StopOrder.{StopOrder}
use Rattle.trading.specs.declared.state.State.{State}
use Rattle.trading.specs.Calls.{taken_out, quantity_at}
use Rattle.trading.specs.Desks.{Desk, desk_of, book_of, capacity}
use Rattle.lent.proofs.Behind.{past_later}
use Rattle.book.specs.declared.finding.Spot.TheVariants.{Buys, Sells, Stops}
use Rattle.book.specs.Out.{Fit, OutOf}

-- a table whose queue the record at i has left
pub record Gone {R : Type 0} (count i : ℕ) (table table' : List R) : Type 0 where
  pub within : i < count
  pub queue : take (count - 1) table' ≡ remove (take count table) i
  pub beyond : drop count table' ≡ drop count table
  pub same_length : length table' ≡ length table

abbrev fewer_buys : State → State
fewer_buys s = record { phase = s.phase; buys = s.buys - 1; sells = s.sells; stops = s.stops; static_price = s.static_price; last = s.last }

abbrev fewer_sells : State → State
fewer_sells s = record { phase = s.phase; buys = s.buys; sells = s.sells - 1; stops = s.stops; static_price = s.static_price; last = s.last }

abbrev fewer_stops : State → State
fewer_stops s = record { phase = s.phase; buys = s.buys; sells = s.sells; stops = s.stops - 1; static_price = s.static_price; last = s.last }

module _ (d : Desk) (fit : Fit d) (i : ℕ) where
  pub buys_out : (blank : Order) (table : List Order) → Gone d.state.buys i d.buys table → OutOf d (Buys i) (get_or d.buys i blank).«open» (desk_of (fewer_buys d.state) table d.sells d.stops)
  buys_out blank table g n at =
      let here = at.1 blank in
      let b = book_of d in
      let c = fit.counts in
      record {
        book = (λ k. record { phase = b.phase; static = b.static; last = b.last; buys = (g.queue ∙ sym at.0.without) k; sells = b.sells; stops = b.stops }) ∙ sym (ap (taken_out n b) here);
        quantity = ap (λ (o : Order). o.«open») (sym (get_or-take d.state.buys d.buys i blank g.within)) ∙ sym (ap quantity_at here);
        counts = record { buys = omega (arith, g.same_length, c.buys); sells = c.sells; stops = c.stops };
        fewer = omega (arith, g.within);
        untouched = record { buys_length = g.same_length; sells_length = refl; stops_length = refl; buys_beyond = past_later table d.buys d.state.buys (capacity d) (omega (arith, fit.few)) g.beyond; sells_beyond = refl; stops_beyond = refl };
      }

  pub sells_out : (blank : Order) (table : List Order) → Gone d.state.sells i d.sells table → OutOf d (Sells i) (get_or d.sells i blank).«open» (desk_of (fewer_sells d.state) d.buys table d.stops)
  sells_out blank table g n at =
      let here = at.1 blank in
      let b = book_of d in
      let c = fit.counts in
      record {
        book = (λ k. record { phase = b.phase; static = b.static; last = b.last; buys = b.buys; sells = (g.queue ∙ sym at.0.without) k; stops = b.stops }) ∙ sym (ap (taken_out n b) here);
        quantity = ap (λ (o : Order). o.«open») (sym (get_or-take d.state.sells d.sells i blank g.within)) ∙ sym (ap quantity_at here);
        counts = record { buys = c.buys; sells = omega (arith, g.same_length, c.sells); stops = c.stops };
        fewer = omega (arith, g.within);
        untouched = record { buys_length = refl; sells_length = g.same_length; stops_length = refl; buys_beyond = refl; sells_beyond = past_later table d.sells d.state.sells (capacity d) (omega (arith, fit.few)) g.beyond; stops_beyond = refl };
      }

  pub stops_out : (blank : StopOrder) (table : List StopOrder) → Gone d.state.stops i d.stops table → OutOf d (Stops i) (get_or d.stops i blank).quantity (desk_of (fewer_stops d.state) d.buys d.sells table)
  stops_out blank table g n at =
      let here = at.1 blank in
      let b = book_of d in
      let c = fit.counts in
      record {
        book = (λ k. record { phase = b.phase; static = b.static; last = b.last; buys = b.buys; sells = b.sells; stops = (g.queue ∙ sym at.0.without) k }) ∙ sym (ap (taken_out n b) here);
        quantity = ap (λ (s : StopOrder). s.quantity) (sym (get_or-take d.state.stops d.stops i blank g.within)) ∙ sym (ap quantity_at here);
        counts = record { buys = c.buys; sells = c.sells; stops = omega (arith, g.same_length, c.stops) };
        fewer = omega (arith, g.within);
        untouched = record { buys_length = refl; sells_length = refl; stops_length = g.same_length; buys_beyond = refl; sells_beyond = refl; stops_beyond = past_later table d.stops d.state.stops (capacity d) (omega (arith, fit.few)) g.beyond };
      }
