use Rattle.lent.specs.Contents.{contents, page}
use Rattle.sweeping.proofs.Opposites.{swept_settled}
use Rattle.sweeping.proofs.orders.sweep_order.Goals as goal

pub returns-clause-swept : goal.returns-clause-swept
returns-clause-swept g c =
    let x = c.sweep_opposite-left in
    let y = c.settle_rest in
    λ grid. swept_settled grid (g.C.Collar.allows c.args.collar.now) c.args.order (contents c.args.desk.now) (contents x.new.desk) (contents y.new.desk) (page c.args.report.now) (page x.new.report) (page y.new.report) x.result c.requires x.ensures.kept.desk.buys_length x.ensures.kept.desk.sells_length x.ensures.swept y.ensures.settled
