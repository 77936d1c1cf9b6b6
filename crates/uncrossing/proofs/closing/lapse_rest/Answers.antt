use Rattle.std.proofs.Common.{arith}
use Rattle.lent.proofs.Pages.{wrote_both}
use Rattle.uncrossing.proofs.closing.lapse_rest.Goals as goal

pub returns-clause-wrote : goal.returns-clause-wrote
returns-clause-wrote c =
    let b = c.write_lapses.ensures in
    let s = c.write_lapses-2.ensures in
    let t = c.write_lapses-3.ensures in
    let within = c.write_lapses-3.new.report.within in
    wrote_both b.wrote (wrote_both s.wrote t.wrote (omega (arith, within, t.kept.lines_length, s.kept.lines_length))) (omega (arith, within, t.kept.lines_length, s.kept.lines_length, b.kept.lines_length))
