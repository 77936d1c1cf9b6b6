use Rattle.std.proofs.Common.{length, sym}
use Rattle.trading.specs.Desks.{capacity}
use Rattle.lent.specs.Contents.{contents, page}
use Rattle.sweeping.specs.Beside.{venue}
use Rattle.sweeping.proofs.Following.{came_own}
use Rattle.book.proofs.Enterings.{stop_entered, order_entered}
use Rattle.book.proofs.entering.enter_ticket.Goals as goal

pub returns-then-is_stop-clause-entered : goal.returns-then-is_stop-clause-entered
returns-then-is_stop-clause-entered g c = λ grid.
    let d = contents c.args.desk.now in
    let p = page c.args.report.now in
    stop_entered (capacity d) (venue grid (g.C.Collar.allows c.args.collar.now)) c.args.ticket d p (contents c.join_stop.new.desk) p
    c.from.result (sym c.if-is_stop.ensures) c.from.ensures (c.join_stop.ensures.joined.came p (capacity d) (length p.lines) p.written c.requires)

pub returns-else-is_stop-clause-entered : goal.returns-else-is_stop-clause-entered
returns-else-is_stop-clause-entered g c = λ grid.
    let d = contents c.args.desk.now in
    let p = page c.args.report.now in
    let x = c.enter_order in
    order_entered (capacity d) (venue grid (g.C.Collar.allows c.args.collar.now)) c.args.ticket d p (contents x.new.desk) (page x.new.report)
    c.from-else-is_stop.result (sym c.if-is_stop.ensures) c.from-else-is_stop.ensures (came_own (x.ensures.entered grid) (capacity d) (length p.lines) p.written c.requires)
