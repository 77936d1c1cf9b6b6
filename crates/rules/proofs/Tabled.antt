-- Every row of the table of openings and edges is right.
use Rattle.std.proofs.Common.{refl}
use Rattle.grid.specs.Neighbours.{first_above, first_below}
use Rattle.ticks.specs.Rows.{some_below}
use Rattle.rules.specs.Auctions.{buy_total, sell_total}
use Rattle.rules.specs.Candidates.{around_limits, best_from}
use Rattle.rules.specs.Examples.{RowsRight}

pub rows_right : RowsRight
unfolding first_above first_below some_below buy_total sell_total around_limits best_from
rows_right = (refl, (refl, (refl, (refl, (refl, (refl, (refl, (refl, (refl, (refl, (refl, (refl, tt))))))))))))
