use Rattle.std.proofs.Common.{subst, rules}
use Rattle.trading.specs.Books.{blank_order, blank_stop}
use Rattle.trading.specs.Desks.{book_of}
use Rattle.lent.specs.Contents.{contents}
use Rattle.book.specs.Finding.{AtSpot}
use Rattle.book.proofs.Leaves.{buys_out, sells_out, stops_out}
use Rattle.book.proofs.leaving.take_out.Goals as goal

pub returns-in-Buys-clause-out : goal.returns-in-Buys-clause-out
returns-in-Buys-clause-out c n at =
    let d = contents c.args.desk.now in
    buys_out d c.requires.fit c.in-Buys.i blank_order c.leave_table.new.table (record { within = search rules; queue = search rules; beyond = search rules; same_length = search rules }) n (subst (AtSpot n (book_of d)) c.in-Buys.is at)

pub returns-in-Sells-clause-out : goal.returns-in-Sells-clause-out
returns-in-Sells-clause-out c n at =
    let d = contents c.args.desk.now in
    sells_out d c.requires.fit c.in-Sells.i blank_order c.leave_table-in-Sells.new.table (record { within = search rules; queue = search rules; beyond = search rules; same_length = search rules }) n (subst (AtSpot n (book_of d)) c.in-Sells.is at)

pub returns-in-Stops-clause-out : goal.returns-in-Stops-clause-out
returns-in-Stops-clause-out c n at =
    let d = contents c.args.desk.now in
    stops_out d c.requires.fit c.in-Stops.i blank_stop c.leave_table-in-Stops.new.table (record { within = search rules; queue = search rules; beyond = search rules; same_length = search rules }) n (subst (AtSpot n (book_of d)) c.in-Stops.is at)
