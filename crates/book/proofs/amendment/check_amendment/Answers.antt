use Rattle.std.proofs.Common.{sym}
use Rattle.std.proofs.lemmas.Result.{err_from_is_err_and}
use Rattle.trading.specs.Books.{venue_of}
use Rattle.lent.specs.Contents.{book_seen}
use Rattle.book.proofs.Calls.{not_ended}
use Rattle.book.proofs.Amends.{no_pair, no_limit, may_amend}
use Rattle.book.proofs.amendment.check_amendment.Goals as goal

pub returns-then-not-both_or_neither_market : goal.returns-then-not-both_or_neither_market
returns-then-not-both_or_neither_market g c allows =
    let b = book_seen c.args.book.now in
    no_pair (venue_of (g.G.PriceGrid.lawful c.args.grid.now) allows) c.args.asked.number c.args.asked.limit c.args.asked.quantity b c.in-Some.standing c.in-Some.ensures (not_ended _ c.in_default.not-Ended) (sym c.if-not-is_number.ensures) (sym c.if-not-is_quantity.ensures) (sym c.if-not-both_or_neither_market.ensures)

pub returns-in_err-check_lawful : goal.returns-in_err-check_lawful
returns-in_err-check_lawful g c allows =
    let p = err_from_is_err_and c.from_residual.result c.from_residual.ensures.1 in
    let u = c.in_err-check_lawful.ensures in
    let b = book_seen c.args.book.now in
    let told = no_limit (venue_of (g.G.PriceGrid.lawful c.args.grid.now) allows) c.args.asked.number c.args.asked.limit c.args.asked.quantity b c.in-Some.standing c.in-Some.ensures (not_ended _ c.in_default.not-Ended) (sym c.if-not-is_number.ensures) (sym c.if-not-is_quantity.ensures) (sym c.if-not-both_or_neither_market.ensures) u.0 in
    rw (p.1, p.2, u.1) told

pub returns : goal.returns
returns g c allows =
    let b = book_seen c.args.book.now in
    (may_amend (venue_of (g.G.PriceGrid.lawful c.args.grid.now) allows) c.args.asked.number c.args.asked.limit c.args.asked.quantity b c.in-Some.standing c.in-Some.ensures (not_ended _ c.in_default.not-Ended) (sym c.if-not-is_number.ensures) (sym c.if-not-is_quantity.ensures) (sym c.if-not-both_or_neither_market.ensures) c.in_ok-check_lawful.ensures, c.in-Some.ensures)
