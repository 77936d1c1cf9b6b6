use Rattle.std.proofs.Common.{length}
use Rattle.rules.specs.Candidates.{Grid}
use Rattle.trading.specs.Sweeps.{release_all}
use Rattle.trading.specs.Desks.{Desk, book_of, capacity}
use Rattle.trading.specs.Moves.{Ready}
use Rattle.lent.specs.Contents.{contents, Page, page, Kept}
use Rattle.lent.specs.Moves.{Comes}
use Rattle.sweeping.specs.Beside.{venue}
use Rattle.sweeping.proofs.stops.release_stops.Given as goal

-- whatever comes about of the releases from here on, comes about of all of them
abbrev pub invariant-releases : goal.invariant-releases
invariant-releases g l =
    let d₀ = contents l.initial.desk in
    let d = contents l.desk in
    Ready (capacity d₀) d (length l.report.lines.now) l.report.written 0
    × ((grid : Grid) (d' : Desk) (p' : Page)
    → Comes (capacity d₀) (release_all (venue grid (g.C.Collar.allows l.collar)) (book_of d)) d (page l.report) d' p'
    → Comes (capacity d₀) (release_all (venue grid (g.C.Collar.allows l.collar)) (book_of d₀)) d₀ (page l.initial.report) d' p')
    × Kept l.initial.desk l.initial.report l.desk l.report

abbrev pub decreases-releases : goal.decreases-releases
decreases-releases g l = l.desk.state.now.stops
