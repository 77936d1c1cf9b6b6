use Rattle.ticks.specs.Ladder.{row_fits}
use Rattle.ticks.proofs.table.TickTable.row.Goals as goal

pub unreachable-requires : goal.unreachable-requires
unreachable-requires c = row_fits c.args.self.now c.args.i c.row_end.result c.in_default.field-0 c.requires c.row_end.ensures c.in_default.ensures
