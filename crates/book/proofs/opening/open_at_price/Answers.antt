use Rattle.std.proofs.lemmas.Bool.{and_parts}
use Rattle.trading.specs.Desks.{book_of, capacity, counts_fit, queues_fit}
use Rattle.lent.specs.Contents.{contents, page}
use Rattle.sweeping.specs.Beside.{venue}
use Rattle.uncrossing.proofs.Fronting.{queues_in_front}
use Rattle.lent.proofs.Behind.{own_stops}
use Rattle.book.proofs.Openings.{ready_to_release, released_front}
use Rattle.book.proofs.opening.open_at_price.Goals as goal

pub print_and_open-requires-clause-fronts : goal.print_and_open-requires-clause-fronts
print_and_open-requires-clause-fronts g c =
    let d = contents c.args.desk.now in
    queues_in_front c.args.price (book_of d) (and_parts (counts_fit d) (queues_fit (book_of d)) c.requires.formed).1

pub release_stops-requires : goal.release_stops-requires
release_stops-requires g c =
    let d = contents c.args.desk.now in
    let p = page c.args.report.now in
    let x = c.print_and_open in
    let ready = c.requires.ready in
    ready_to_release d (contents x.new.desk) _ p (page x.new.report) ready (own_stops x.ensures.fewer.table (x.ensures.came d.stops (capacity d) ready)) x.ensures.fewer x.ensures.kept.report.lines_length

pub returns-clause-came : goal.returns-clause-came
returns-clause-came g c grid =
    let d = contents c.args.desk.now in
    let p = page c.args.report.now in
    let x = c.print_and_open in
    let y = c.release_stops in
    let ready = c.requires.ready in
    released_front d (contents x.new.desk) _ p (page x.new.report) ready (own_stops x.ensures.fewer.table (x.ensures.came d.stops (capacity d) ready)) x.ensures.fewer
    (venue grid (g.C.Collar.allows c.args.collar.now)) (contents y.new.desk) (page y.new.report) (y.ensures.released grid)
