use Rattle.std.proofs.Common.{rules}
use Rattle.lent.specs.Contents.{contents, page}
use Rattle.sweeping.proofs.Settling.{settled_lapsed, settled_joined, settled_called}
use Rattle.sweeping.proofs.orders.settle_rest.Goals as goal

pub returns-in-Nobody-true-clause-settled : goal.returns-in-Nobody-true-clause-settled
returns-in-Nobody-true-clause-settled c =
    let p = page c.args.report.now in
    settled_joined c.args.order c.args.left (contents c.args.desk.now) p (contents c.join_order.new.desk) (search rules) (c.join_order.ensures.joined p) (search rules)

pub returns-in-Collared-true-clause-settled : goal.returns-in-Collared-true-clause-settled
returns-in-Collared-true-clause-settled c =
    let p = page c.args.report.now in
    let j = c.join_order-in-Collared-true in
    settled_called c.args.order c.args.left (contents c.args.desk.now) p (contents j.new.desk) (search rules) (j.ensures.joined p) (search rules)

pub returns-in_default-false-clause-settled : goal.returns-in_default-false-clause-settled
returns-in_default-false-clause-settled c =
    let w = c.write in
    settled_lapsed c.args.order c.args.left (contents c.args.desk.now) (page c.args.report.now) (page w.new.self) (search rules) (search rules) (search rules) w.ensures.line w.ensures.written
