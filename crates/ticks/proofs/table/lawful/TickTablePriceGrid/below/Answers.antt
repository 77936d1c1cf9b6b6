use Rattle.std.proofs.Common.{rules}
use Rattle.ticks.proofs.Nearest.{below_mapped}
use Rattle.ticks.proofs.table.lawful.TickTablePriceGrid.below.Goals as goal

pub returns : goal.returns
returns c = below_mapped c.args.self.now c.args.p c.rev.result c.find_map.result c.rev.ensures.runs c.find_map.ensures.runs (λ a r f h. search rules) (λ k o h. search rules)
