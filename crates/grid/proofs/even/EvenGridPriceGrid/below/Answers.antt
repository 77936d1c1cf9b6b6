use Rattle.std.proofs.Common.{arith}
use Rattle.grid.proofs.Runs.{down_on, down_next, on_told}
use Rattle.grid.proofs.even.EvenGridPriceGrid.below.Goals as goal

pub returns : goal.returns
returns c =
    let g = c.args.self.now in
    let f = c.min-from.result in (
      omega arith,
      down_on g.first g.step g.last g.stepped f (omega arith) (omega arith),
      λ x h k on.
          let o = on_told g.first g.step g.last x on in
          omega (arith, down_next g.first g.step g.last g.stepped f (omega arith) x (omega arith) on),
    )
