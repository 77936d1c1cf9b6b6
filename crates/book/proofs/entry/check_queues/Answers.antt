use Rattle.std.proofs.Common.{◌≡◌, false, leb, sym, rules}
use Rattle.trading.specs.Books.{held}
use Rattle.lent.specs.Contents.{book_seen}
use Rattle.sweeping.specs.Beside.{venue}
use Rattle.book.proofs.Entries.{found_some, found_none, no_entry_live, no_first_trade, may_enter}
use Rattle.book.proofs.entry.check_queues.Goals as goal

pub returns-then-is_some : goal.returns-then-is_some
returns-then-is_some g c = λ grid.
    let b = book_seen c.args.book.now in
    no_entry_live (venue grid (g.C.Collar.allows c.args.collar.now)) c.args.capacity c.args.ticket b (found_some c.args.ticket.number b c.find_record.result c.find_record.ensures (sym c.if-is_some.ensures))

pub returns-then-lacks_first_trade : goal.returns-then-lacks_first_trade
returns-then-lacks_first_trade g c = λ grid.
    let b = book_seen c.args.book.now in
    let room : leb c.args.capacity (held b) ≡ false = search rules in
    let nowhere = found_none c.args.ticket.number b c.find_record.result c.find_record.ensures (sym c.if-is_some.ensures) in
    no_first_trade (venue grid (g.C.Collar.allows c.args.collar.now)) c.args.capacity c.args.ticket b nowhere room (sym c.if-is_reached_stop.ensures) (sym (c.if-lacks_first_trade.ensures grid))

pub returns : goal.returns
returns g c = λ grid.
    let b = book_seen c.args.book.now in
    let room : leb c.args.capacity (held b) ≡ false = search rules in
    let nowhere = found_none c.args.ticket.number b c.find_record.result c.find_record.ensures (sym c.if-is_some.ensures) in
    may_enter (venue grid (g.C.Collar.allows c.args.collar.now)) c.args.capacity c.args.ticket b nowhere room (sym c.if-is_reached_stop.ensures) (sym (c.if-lacks_first_trade.ensures grid))
