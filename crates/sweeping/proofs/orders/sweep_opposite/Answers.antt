use Rattle.std.proofs.Common.{rules}
use Rattle.lent.specs.Contents.{contents, page}
use Rattle.sweeping.proofs.Opposites.{swept_sells, swept_buys}
use Rattle.sweeping.proofs.orders.sweep_opposite.Goals as goal

pub returns-in-Buy-clause-swept : goal.returns-in-Buy-clause-swept
returns-in-Buy-clause-swept g c =
    let q = c.new-queue in
    let x = c.sweep_queue-left in
    rw c.len-desk.ensures (swept_sells (g.C.Collar.allows c.args.collar.now) c.args.order (contents c.args.desk.now) q.result x.new.queue (page c.args.report.now) (page x.new.report) x.result _ (search rules) c.in-Buy.is q.ensures.records q.ensures.count x.ensures.table.room x.ensures.swept)

pub returns-in-Sell-clause-swept : goal.returns-in-Sell-clause-swept
returns-in-Sell-clause-swept g c =
    let q = c.new-queue-in-Sell in
    let x = c.sweep_queue-left-in-Sell in
    rw c.len-desk-in-Sell.ensures (swept_buys (g.C.Collar.allows c.args.collar.now) c.args.order (contents c.args.desk.now) q.result x.new.queue (page c.args.report.now) (page x.new.report) x.result _ (search rules) c.in-Sell.is q.ensures.records q.ensures.count x.ensures.table.room x.ensures.swept)
