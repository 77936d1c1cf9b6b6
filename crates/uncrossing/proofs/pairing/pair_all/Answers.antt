use Rattle.std.proofs.Common.{arith, rules}
use Rattle.lent.specs.Contents.{page}
use Rattle.uncrossing.proofs.Turns.{turn, met_by}
use Rattle.uncrossing.proofs.pairing.pair_all.Goals as goal

pub trades-preserved : goal.trades-preserved
trades-preserved c =
    let w = c.write in
    let x = c.take_off in
    let y = c.take_off-in-Some in
    (turn c.trades.invariant.0 c.in-Some.ensures c.smaller_open-quantity.ensures x.ensures y.ensures (page w.new.self) w.ensures.line w.ensures.written x.auto.orders y.auto.orders, search rules)

pub returns-clause-paired : goal.returns-clause-paired
returns-clause-paired c =
    let l = c.trades in
    met_by (omega (arith, l.report.within, l.invariant.1.report.lines_length)) c.in_default.ensures l.invariant.0
