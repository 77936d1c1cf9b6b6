use Rattle.std.proofs.Common.{subst, sym, rules, tests}
use Rattle.std.proofs.lemmas.Iterator.{YieldsList-from_slice}
use Rattle.std.proofs.lemmas.Iterator.Search.{position_from_yields_List}
use Rattle.sweeping.specs.Steps.{FirstDay}
use Rattle.sweeping.proofs.Choosing.{awake, first_day_is}
use Rattle.sweeping.proofs.meet.first_day.Goals as goal

pub returns : goal.returns
returns c =
    let queue = c.args.queue.now in
    let found = position_from_yields_List awake _ _ c.position.result c.position.ensures.ran (YieldsList-from_slice queue cc) (λ x b q k. search (rules, tests)) in
    subst (FirstDay queue) (sym found) (first_day_is queue)
