use Rattle.lent.specs.Contents.{page, ReportKept}
use Rattle.uncrossing.proofs.Sieve.{Sifting}
use Rattle.uncrossing.proofs.sifting.sift.Given as goal

abbrev pub invariant-loop-i : goal.invariant-loop-i
invariant-loop-i l = Sifting l.initial.orders l.from l.to (page l.initial.report) l.orders (page l.report) l.i l.count × ReportKept l.initial.report l.report
