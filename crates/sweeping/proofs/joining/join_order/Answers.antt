use Rattle.std.proofs.Common.{rules}
use Rattle.lent.specs.Contents.{contents}
use Rattle.sweeping.proofs.Joins.{joined_buys, joined_sells}
use Rattle.sweeping.proofs.joining.join_order.Goals as goal

pub returns-in-Buy-clause-joined : goal.returns-in-Buy-clause-joined
returns-in-Buy-clause-joined c = λ p. joined_buys c.args.order (contents c.args.desk.now) p c.join_table.new.table c.in-Buy.is (search rules) c.join_table.ensures.queue c.join_table.ensures.beyond

pub returns-in-Sell-clause-joined : goal.returns-in-Sell-clause-joined
returns-in-Sell-clause-joined c = λ p. joined_sells c.args.order (contents c.args.desk.now) p c.join_table-in-Sell.new.table c.in-Sell.is (search rules) c.join_table-in-Sell.ensures.queue c.join_table-in-Sell.ensures.beyond
