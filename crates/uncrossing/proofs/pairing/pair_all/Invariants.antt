use Rattle.lent.specs.Contents.{contents, page, Kept}
use Rattle.uncrossing.specs.Fits.{orders_left}
use Rattle.uncrossing.proofs.Turns.{Pairing}
use Rattle.uncrossing.proofs.pairing.pair_all.Given as goal

abbrev pub invariant-trades : goal.invariant-trades
invariant-trades l =
    Pairing l.price (contents l.initial.desk) (page l.initial.report) (contents l.desk) (page l.report) l.met
    × Kept l.initial.desk l.initial.report l.desk l.report

abbrev pub decreases-trades : goal.decreases-trades
decreases-trades l = orders_left l.met l.desk.state.now
