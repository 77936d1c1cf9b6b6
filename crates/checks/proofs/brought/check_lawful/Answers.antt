use Rattle.std.proofs.Common.{rules}
use Rattle.checks.proofs.Lawfulness.{checked}
use Rattle.checks.proofs.brought.check_lawful.Goals as goal

pub returns : goal.returns
returns g c =
    let grid = c.args.grid.now in
    checked (g.G.PriceGrid.lawful grid) (g.met.G.PriceGrid.priced grid) c.args.part c.args.p c.check.result c.map_err.result _ (λ f u k. search rules) (search rules) c.check.ensures c.map_err.ensures.cases
