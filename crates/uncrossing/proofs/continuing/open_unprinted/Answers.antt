use Rattle.std.proofs.Common.{arith}
use Rattle.trading.specs.Uncrossings.{vfu_lapses, without_vfu}
use Rattle.uncrossing.proofs.Moving.{unmet_on}
use Rattle.uncrossing.proofs.continuing.open_unprinted.Goals as goal

pub returns-clause-came : goal.returns-clause-came
returns-clause-came c =
    λ stops n ready.
    unmet_on without_vfu vfu_lapses c.default.ensures (c.open_rest.ensures.came stops n (omega (arith, ready.records)) (omega (arith, ready.records)) (omega (arith, ready.records, ready.stops)))
