use Rattle.std.proofs.Common.{sym, arith, rules}
use Rattle.uncrossing.proofs.Sieve.{sift_lapses, sift_keeps, sift_ends}
use Rattle.uncrossing.proofs.sifting.sift.Goals as goal

pub loop-i-preserved : goal.loop-i-preserved
loop-i-preserved c =
    let l = c.loop-i in
    elim c.if-is_vfu.branch [
      | goal.then-is_vfu w ↦
          let x = w.write.ensures in
          rw (w.orders-is, w.report-is, w.count-is) (sift_lapses l.invariant.0 c.loop-i-test.true c.requires.orders (sym w.if-is_vfu.ensures) w.lapse_line.ensures x.line x.written, search rules)
      | goal.else-is_vfu w ↦ rw (w.orders-is, w.report-is, w.count-is) (sift_keeps l.invariant.0 c.loop-i-test.true c.requires.orders (sym w.if-is_vfu.ensures), l.invariant.1)
    ]

pub returns-clause-sifted : goal.returns-clause-sifted
returns-clause-sifted c =
    let l = c.loop-i in
    sift_ends l.invariant.0 c.loop-i-test.false (omega arith) (omega (arith, l.report.within, l.invariant.1.lines_length))
