use Rattle.std.proofs.Common.{◌+◌}
use Rattle.lent.specs.Contents.{page, ReportKept}
use Rattle.sweeping.proofs.Turns.{Along}
use Rattle.sweeping.proofs.tables.sweep_queue.Given as goal

abbrev pub invariant-trades : goal.invariant-trades
invariant-trades g l =
    Along (g.C.Collar.allows l.collar l.static_price) l.order l.price l.initial.queue (page l.initial.report) l.rest l.last l.queue (page l.report)
    × ReportKept l.initial.report l.report

abbrev pub decreases-trades : goal.decreases-trades
decreases-trades g l = l.rest + l.queue.count
