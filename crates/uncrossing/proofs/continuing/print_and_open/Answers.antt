use Rattle.std.proofs.Common.{ap, arith}
use Rattle.trading.specs.Uncrossings.{vfu_lapses, without_vfu}
use Rattle.uncrossing.proofs.Moving.{printed_beside, printed_on}
use Rattle.uncrossing.proofs.continuing.print_and_open.Goals as goal

pub returns-clause-came : goal.returns-clause-came
returns-clause-came c =
    let m = c.print_price-met.ensures in
    let e = c.open_rest in
    let s = m.printed.state in
    λ stops n ready.
    printed_on without_vfu vfu_lapses (printed_beside m.printed stops) m.kept.desk.buys_length m.kept.desk.sells_length ready (omega (arith, e.new.report.within, e.ensures.kept.report.lines_length, m.kept.report.lines_length))
    (e.ensures.came stops n (omega (arith, ap (λ s. s.buys) s, ready.records)) (omega (arith, ap (λ s. s.sells) s, ready.records)) (omega (arith, ap (λ s. s.stops) s, ready.records, ready.stops)))
