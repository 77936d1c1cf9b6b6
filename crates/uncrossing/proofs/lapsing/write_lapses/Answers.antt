use Rattle.std.proofs.Common.{arith, rules}
use Rattle.trading.specs.declared.report.ReportLine.TheVariants.{Lapse}
use Rattle.lent.specs.Contents.{page}
use Rattle.uncrossing.proofs.Written.{lapse_next, lapse_end}
use Rattle.uncrossing.proofs.lapsing.write_lapses.Goals as goal

pub loop-record-preserved : goal.loop-record-preserved
loop-record-preserved g c =
    let l = c.loop-record in
    let w = c.write in
    (lapse_next (λ r. Lapse (g.R.Numbered.tag r) (g.R.Ranked.amount r)) c.args.queue.now l.record-index (page l.report) (page w.new.self) _ c.loop-record-test.true c.record-item.is c.lapse_line.ensures w.ensures.line w.ensures.written l.invariant.0, search rules, search rules)

pub returns-clause-wrote : goal.returns-clause-wrote
returns-clause-wrote g c =
    let l = c.loop-record in
    lapse_end (λ r. Lapse (g.R.Numbered.tag r) (g.R.Ranked.amount r)) c.args.queue.now l.record-index c.loop-record-test.false l.invariant.0 (omega (arith, l.report.within, l.invariant.2.lines_length))
