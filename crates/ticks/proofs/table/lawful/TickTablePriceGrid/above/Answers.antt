use Rattle.std.proofs.Common.{rules}
use Rattle.ticks.proofs.Nearest.{above_mapped}
use Rattle.ticks.proofs.table.lawful.TickTablePriceGrid.above.Goals as goal

pub returns : goal.returns
returns c = above_mapped c.args.self.now c.args.p c.find_map.result c.find_map.ensures.runs (λ a r f h. search rules) (λ k o h. search rules)
