use Rattle.std.proofs.Common.{refl}
use Rattle.grid.specs.Neighbours.{first_above, first_below}
use Rattle.rules.specs.Auctions.{buy_total, sell_total}
use Rattle.rules.specs.Candidates.{around_limits, best_from}
use Rattle.rules.proofs.Tabled.{rows_right}
use Rattle.trading.specs.Queues.{joined, first_that, without_first, first_changed}
use Rattle.trading.specs.Sweeps.{sweep, sweeps, release}
use Rattle.trading.specs.Uncrossings.{meets, pairs, lapses_by}
use Rattle.trading.specs.Calls.{enter_effect, amend_effect, cancel_effect}
use Rattle.trading.specs.Examples.{run}
use Rattle.trading.proofs.examples.sessions_as_told.Goals as goal

pub returns : goal.returns
unfolding first_above first_below buy_total sell_total around_limits best_from joined first_that without_first first_changed sweep sweeps release meets pairs lapses_by enter_effect amend_effect cancel_effect run
returns c = record {
  nought = refl;
  rows = (refl, (refl, (refl, (refl, (refl, (refl, (refl, (refl, (refl, (refl, (refl, (refl, (refl, (refl, (refl, (refl, (refl, (refl, (refl, (refl, (refl, (refl, (refl, (refl, (refl, (refl, (refl, (refl, (refl, (refl, (refl, (refl, (refl, (refl, (refl, (refl, (refl, (refl, (refl, (refl, (refl, (refl, (refl, (refl, (refl, (refl, (refl, (refl, (refl, (refl, (refl, (refl, (refl, (refl, (refl, (refl, (refl, (refl, (refl, (refl, (refl, tt)))))))))))))))))))))))))))))))))))))))))))))))))))))))))))));
  openings = (refl, (refl, (refl, (refl, tt))));
  ten = (rows_right, refl);
}
