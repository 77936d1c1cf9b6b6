use Rattle.std.proofs.Common.{arith}
use Rattle.grid.proofs.Runs.{on_told, up_next, up_found}
use Rattle.grid.proofs.even.EvenGridPriceGrid.above.Goals as goal

pub returns-in_err-next : goal.returns-in_err-next
returns-in_err-next c =
    let g = c.args.self.now in
    rw c.from_residual.ensures (λ x h on. omega (arith, c.in_err-next.ensures, on_told g.first g.step g.last x on, up_next g.first g.step g.last g.stepped c.args.p (omega arith) x h on))

pub returns : goal.returns
returns c =
    let g = c.args.self.now in
    rw c.then_some.ensures (up_found g.first g.step g.last g.stepped c.args.p (omega arith) c.in_ok-next.next (omega (arith, c.in_ok-next.ensures)))
