use Rattle.std.proofs.Common.{sym}
use Rattle.lent.specs.Contents.{contents, page}
use Rattle.sweeping.specs.Beside.{venue}
use Rattle.book.proofs.Enterings.{enters_sweeping, enters_joining}
use Rattle.book.proofs.entering.enter_order.Goals as goal

pub returns-then-sweeps_at_once-clause-entered : goal.returns-then-sweeps_at_once-clause-entered
returns-then-sweeps_at_once-clause-entered g c = λ grid.
    let x = c.sweep_order in
    enters_sweeping (venue grid (g.C.Collar.allows c.args.collar.now)) c.args.order (contents c.args.desk.now) (contents x.new.desk) (page c.args.report.now) (page x.new.report) (sym c.if-sweeps_at_once.ensures) (x.ensures.swept grid)

pub returns-else-sweeps_at_once-clause-entered : goal.returns-else-sweeps_at_once-clause-entered
returns-else-sweeps_at_once-clause-entered g c = λ grid.
    let x = c.join_order in
    let p = page c.args.report.now in
    enters_joining (venue grid (g.C.Collar.allows c.args.collar.now)) c.args.order (contents c.args.desk.now) (contents x.new.desk) p p (sym c.if-sweeps_at_once.ensures) (x.ensures.joined p)
