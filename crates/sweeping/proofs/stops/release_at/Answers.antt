use Rattle.std.proofs.Common.{rules}
use Rattle.lent.specs.Contents.{contents, page}
use Rattle.sweeping.proofs.Releasings.{left_swept}
use Rattle.sweeping.proofs.stops.release_at.Goals as goal

pub returns-clause-released : goal.returns-clause-released
returns-clause-released g c =
    let x = c.sweep_order in
    left_swept (g.C.Collar.allows c.args.collar.now) c.args.i (contents c.args.desk.now) (contents x.new.desk) c.leave_table.new.table (page c.args.report.now) (page x.new.report) c.from.result c.requires.held (search rules) c.from.ensures c.leave_table.ensures.queue c.leave_table.ensures.beyond x.ensures.swept
