use Rattle.std.proofs.Common.{◌≡◌, ◌+◌, drop}
use Rattle.trading.specs.Uncrossings.{lapses_by}
use Rattle.trading.specs.declared.report.ReportLine.TheVariants.{Lapse}
use Rattle.lent.specs.Contents.{page, ReportKept}
use Rattle.lent.proofs.Pages.{page_after}
use Rattle.uncrossing.proofs.lapsing.write_lapses.Given as goal

-- the lines that are left lead where all lines lead
abbrev pub invariant-loop-record : goal.invariant-loop-record
invariant-loop-record g l =
    (page_after (page l.report) (lapses_by (λ r. Lapse (g.R.Numbered.tag r) (g.R.Ranked.amount r)) (drop l.record-index l.queue)) ≡ page_after (page l.initial.report) (lapses_by (λ r. Lapse (g.R.Numbered.tag r) (g.R.Ranked.amount r)) l.queue))
    × (l.report.written ≡ l.initial.report.written + l.record-index)
    × ReportKept l.initial.report l.report
