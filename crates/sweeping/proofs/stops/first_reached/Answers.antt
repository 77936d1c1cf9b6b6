use Rattle.std.proofs.Common.{subst, sym, rules, tests}
use Rattle.std.proofs.lemmas.Iterator.{YieldsList-from_slice}
use Rattle.std.proofs.lemmas.Iterator.Search.{position_from_yields_List}
use Rattle.trading.specs.Sweeps.{reached}
use Rattle.queue.specs.Places.{FirstFound}
use Rattle.queue.proofs.Firsts.{position_first}
use Rattle.sweeping.proofs.stops.first_reached.Goals as goal

pub returns : goal.returns
returns c =
    let stops = c.args.stops.now in
    let is_due = reached c.args.last in
    let found = position_from_yields_List is_due _ _ c.position.result c.position.ensures.ran (YieldsList-from_slice stops cc) (λ x b q k. search (rules, tests)) in
    subst (FirstFound is_due stops) (sym found) (position_first is_due stops)
