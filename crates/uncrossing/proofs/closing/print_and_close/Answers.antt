use Rattle.std.proofs.Common.{rules, arith}
use Rattle.trading.specs.Uncrossings.{all_lapses, emptied}
use Rattle.uncrossing.proofs.Moving.{printed_beside, printed_on, done_with}
use Rattle.uncrossing.proofs.closing.print_and_close.Goals as goal

pub returns-clause-came : goal.returns-clause-came
returns-clause-came c =
    let m = c.print_price-met in
    let e = c.close_rest in
    λ n ready. printed_on emptied all_lapses (printed_beside m.ensures.printed c.args.stops.now) m.ensures.kept.desk.buys_length m.ensures.kept.desk.sells_length ready (omega (arith, e.new.report.within, e.ensures.kept.lines_length, m.ensures.kept.report.lines_length)) (done_with m.result emptied all_lapses (search rules) (search rules) (search rules) (e.ensures.came n))
