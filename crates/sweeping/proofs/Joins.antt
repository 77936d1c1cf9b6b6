-- Orders that join, in memory.
use Rattle.std.proofs.Common.{◌≡◌, ℕ, ◌+◌, List, [], length, take, drop, sym, refl, ap, ◌∙◌, arith}
use Rattle.rules.specs.declared.order.Order.{Order}
use Rattle.rules.specs.declared.order.Side.{Side}
use Rattle.rules.specs.declared.order.Side.TheVariants.{Buy, Sell}
use Rattle.trading.specs.declared.state.State.{State}
use Rattle.trading.specs.Queues.{joined, order_ahead}
use Rattle.trading.specs.Books.{Book, with_orders, own_queue, with_own_queue}
use Rattle.trading.specs.Sweeps.{moved, join}
use Rattle.trading.specs.Desks.{Desk, desk_of, book_of}
use Rattle.lent.specs.Contents.{Page, beside}
use Rattle.sweeping.specs.Beside.{Moves}
use Rattle.lent.proofs.Behind.{past_later}
use Rattle.lent.proofs.Pages.{written_none}

join_as : (o : Order) (b : Book) (side : Side) → o.side ≡ side → join o b ≡ with_own_queue side (joined order_ahead o (own_queue side b)) b
join_as o b side e = ap (λ side. with_own_queue side (joined order_ahead o (own_queue side b)) b) e

abbrev pub with_buys : ℕ → State → State
with_buys n s = record { phase = s.phase; buys = n; sells = s.sells; stops = s.stops; static_price = s.static_price; last = s.last }

abbrev pub with_sells : ℕ → State → State
with_sells n s = record { phase = s.phase; buys = s.buys; sells = n; stops = s.stops; static_price = s.static_price; last = s.last }

module _ (o : Order) (d : Desk) (p : Page) where
  pub joined_buys : (buys' : List Order) → o.side ≡ Buy → length buys' ≡ length d.buys
      → take (d.state.buys + 1) buys' ≡ joined order_ahead o (take d.state.buys d.buys) → drop (d.state.buys + 1) buys' ≡ drop (d.state.buys + 1) d.buys
      → Moves (λ b. moved (join o b) []) d p (desk_of (with_buys (d.state.buys + 1) d.state) buys' d.sells d.stops) p
  joined_buys buys' side long queue beyond = record {
    came = λ stops n room from ready.
        let b = book_of (beside d stops) in
        record {
          book = ap (λ q. with_orders q b.sells b) queue ∙ sym (join_as o b Buy side);
          counts = record { buys = omega (arith, ready.buys, ready.records); sells = omega (arith, ready.sells, ready.records); stops = omega (arith, ready.stops, ready.records) };
          lines = written_none p.lines p.written;
          place = omega arith;
          beyond = record { buys_length = long; sells_length = refl; stops_length = refl; buys = past_later buys' d.buys (d.state.buys + 1) n (omega (arith, ready.records)) beyond; sells = refl; stops = refl };
        };
    stops = refl;
  }

  pub joined_sells : (sells' : List Order) → o.side ≡ Sell → length sells' ≡ length d.sells
      → take (d.state.sells + 1) sells' ≡ joined order_ahead o (take d.state.sells d.sells) → drop (d.state.sells + 1) sells' ≡ drop (d.state.sells + 1) d.sells
      → Moves (λ b. moved (join o b) []) d p (desk_of (with_sells (d.state.sells + 1) d.state) d.buys sells' d.stops) p
  joined_sells sells' side long queue beyond = record {
    came = λ stops n room from ready.
        let b = book_of (beside d stops) in
        record {
          book = ap (λ q. with_orders b.buys q b) queue ∙ sym (join_as o b Sell side);
          counts = record { buys = omega (arith, ready.buys, ready.records); sells = omega (arith, ready.sells, ready.records); stops = omega (arith, ready.stops, ready.records) };
          lines = written_none p.lines p.written;
          place = omega arith;
          beyond = record { buys_length = refl; sells_length = long; stops_length = refl; buys = refl; sells = past_later sells' d.sells (d.state.sells + 1) n (omega (arith, ready.records)) beyond; stops = refl };
        };
    stops = refl;
  }
