use Rattle.std.proofs.Common.{rules}
use Rattle.sweeping.proofs.Choosing.{sweep_none, sweep_asleep, at_outside, at_refused, at_met}
use Rattle.sweeping.proofs.choose.choose_next.Goals as goal

pub returns-then-rest-eq0 : goal.returns-then-rest-eq0
returns-then-rest-eq0 g c = rw c.if-rest-eq0.true (sweep_none _ _ _ _)

pub returns-in_default : goal.returns-in_default
returns-in_default g c = search (rules, sweep_asleep)

pub returns-then-not-is_within : goal.returns-then-not-is_within
returns-then-not-is_within g c = search (rules, at_outside)

pub returns-then-not-is_allowed : goal.returns-then-not-is_allowed
returns-then-not-is_allowed g c = search (rules, at_refused)

pub returns : goal.returns
returns g c = search (rules, at_met)
