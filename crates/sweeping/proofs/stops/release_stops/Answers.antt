use Rattle.std.proofs.Common.{Some, None, subst, rules}
use Rattle.sweeping.specs.Releases.{DueAt}
use Rattle.trading.specs.Desks.{capacity}
use Rattle.lent.specs.Contents.{contents, page}
use Rattle.sweeping.proofs.Following.{ready_fits}
use Rattle.sweeping.proofs.Releasings.{some_grid, came_to_rest, ready_again, stops_fall, came_on}
use Rattle.sweeping.proofs.stops.release_stops.Goals as goal

pub releases-smaller : goal.releases-smaller
releases-smaller g c =
    let l = c.releases in
    let r = c.release_at in
    let due = subst (λ b. DueAt b (Some c.in-Some.i)) c.book.ensures c.in-Some.ensures in
    stops_fall some_grid (g.C.Collar.allows c.args.collar.now) (capacity (contents c.args.desk.now)) (contents l.desk) (contents r.new.desk) (page l.report) (page r.new.report) c.in-Some.i l.invariant.0 due.0 due.1 r.ensures.released

pub releases-preserved : goal.releases-preserved
releases-preserved g c =
    let allows = g.C.Collar.allows c.args.collar.now in
    let n = capacity (contents c.args.desk.now) in
    let l = c.releases in
    let r = c.release_at in
    let due = subst (λ b. DueAt b (Some c.in-Some.i)) c.book.ensures c.in-Some.ensures in
    let d = contents l.desk in
    let d' = contents r.new.desk in
    let p = page l.report in
    let p' = page r.new.report in (
      ready_again some_grid allows n d d' p p' c.in-Some.i l.invariant.0 due.0 due.1 r.ensures.released r.ensures.kept.report.lines_length,
      λ grid d'' p'' later. l.invariant.1 grid d'' p'' (came_on grid allows n d d' p p' c.in-Some.i l.invariant.0 due.0 due.1 r.ensures.released d'' p'' later),
      search rules,
    )

pub returns-clause-released : goal.returns-clause-released
returns-clause-released g c =
    let n = capacity (contents c.args.desk.now) in
    let l = c.releases in
    let d = contents l.desk in
    λ grid. l.invariant.1 grid d (page l.report) (came_to_rest (record { grid = grid; allows = g.C.Collar.allows c.args.collar.now }) n d (page l.report) (ready_fits n d _ _ 0 l.invariant.0) (subst (λ b. DueAt b None) c.book.ensures c.in_default.ensures))
