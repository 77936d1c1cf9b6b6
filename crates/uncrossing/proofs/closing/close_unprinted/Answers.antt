use Rattle.trading.specs.Uncrossings.{all_lapses, emptied}
use Rattle.uncrossing.proofs.Moving.{unmet_on}
use Rattle.uncrossing.proofs.closing.close_unprinted.Goals as goal

pub returns-clause-came : goal.returns-clause-came
returns-clause-came c = λ n. unmet_on emptied all_lapses c.default.ensures (c.close_rest.ensures.came n)
