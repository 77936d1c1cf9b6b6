use Rattle.std.proofs.Common.{not, sym, ap, ◌∙◌}
use Rattle.rules.specs.declared.order.Order.{Order}
use Rattle.trading.specs.Books.{is_ioc}
use Rattle.trading.specs.Sweeps.{swept_by}
use Rattle.trading.specs.Calls.{order_of, is_empty}
use Rattle.lent.specs.Contents.{book_seen}
use Rattle.sweeping.specs.Beside.{venue}
use Rattle.book.proofs.Entries.{lacking}
use Rattle.book.proofs.entry.lacks_first_trade.Goals as goal

pub returns-then-is_ioc : goal.returns-then-is_ioc
returns-then-is_ioc g c = λ grid.
    let v = venue grid (g.C.Collar.allows c.args.collar.now) in
    let b = book_seen c.args.book.now in
    lacking (is_ioc c.args.ticket.validity) c.trades_at_once.result (is_empty (swept_by v (order_of c.args.ticket) b).trades) (sym c.if-is_ioc.ensures)
    (c.trades_at_once.ensures grid ∙ ap (λ (o : Order). not (is_empty (swept_by v o b).trades)) c.from.ensures)
