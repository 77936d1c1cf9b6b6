use Rattle.std.proofs.Common.{None, ◌∙◌, rules}
use Rattle.std.proofs.lemmas.Result.{err_from_is_err_and}
use Rattle.rules.specs.Candidates.{grid_of}
use Rattle.trading.specs.declared.answer.Outcome.TheVariants.{Accepted}
use Rattle.trading.specs.declared.request.Request.TheVariants.{Enter}
use Rattle.trading.specs.Books.{venue_of}
use Rattle.trading.specs.Desks.{book_of, capacity}
use Rattle.lent.specs.Contents.{contents, book_seen, page}
use Rattle.book.proofs.Calls.{made_refusing_all, made_turned}
use Rattle.book.proofs.Coming.{Fresh, made_told}
use Rattle.book.proofs.Entries.{ticket_refused, ticket_passed, queues_seen}
use Rattle.book.proofs.Enterings.{ready_to_enter, ready_to_release, entered_took}
use Rattle.book.proofs.entering.enter.Goals as goal

pub returns-in_err-check_desk-clause-made : goal.returns-in_err-check_desk-clause-made
returns-in_err-check_desk-clause-made g c =
    let p = err_from_is_err_and c.from_residual.result c.from_residual.ensures.1 in
    rw (p.1, p.2) (made_refusing_all (g.G.PriceGrid.lawful c.args.grid.now) (g.C.Collar.allows c.args.collar.now) (g.met.G.PriceGrid.priced c.args.grid.now) (contents c.args.desk.now) (Enter c.args.ticket) c.args.report.now _ c.in_err-check_desk.ensures)

pub returns-in_err-check_ticket-clause-made : goal.returns-in_err-check_ticket-clause-made
returns-in_err-check_ticket-clause-made g c =
    let p = err_from_is_err_and c.from_residual-in_err-check_ticket.result c.from_residual-in_err-check_ticket.ensures.1 in
    let d = contents c.args.desk.now in
    let lawful = g.G.PriceGrid.lawful c.args.grid.now in
    let allows = g.C.Collar.allows c.args.collar.now in
    rw (p.1, p.2) (made_turned lawful allows (g.met.G.PriceGrid.priced c.args.grid.now) d (Enter c.args.ticket) c.args.report.now c.in_ok-check_desk.ensures _
    (ticket_refused lawful allows (capacity d) c.args.ticket (book_of d) _ c.in_err-check_ticket.ensures))

pub returns-in_err-check_queues-clause-made : goal.returns-in_err-check_queues-clause-made
returns-in_err-check_queues-clause-made g c =
    let p = err_from_is_err_and c.from_residual-in_err-check_queues.result c.from_residual-in_err-check_queues.ensures.1 in
    let d = contents c.args.desk.now in
    let lawful = g.G.PriceGrid.lawful c.args.grid.now in
    let allows = g.C.Collar.allows c.args.collar.now in
    rw (p.1, p.2) (made_turned lawful allows (g.met.G.PriceGrid.priced c.args.grid.now) d (Enter c.args.ticket) c.args.report.now c.in_ok-check_desk.ensures _
    (ticket_passed lawful allows (capacity d) c.args.ticket (book_of d) c.in_ok-check_ticket.ensures ∙ queues_seen (venue_of lawful allows) d c.args.ticket c.capacity_on.result (book_seen c.book.result) _ c.capacity_on.ensures c.book.ensures (c.in_err-check_queues.ensures (grid_of lawful))))

pub enter_ticket-requires : goal.enter_ticket-requires
enter_ticket-requires g c =
    let lawful = g.G.PriceGrid.lawful c.args.grid.now in
    let v = venue_of lawful (g.C.Collar.allows c.args.collar.now) in
    let d = contents c.args.desk.now in
    let passed = queues_seen v d c.args.ticket c.capacity_on.result (book_seen c.book.result) None c.capacity_on.ensures c.book.ensures (c.in_ok-check_queues.ensures (grid_of lawful)) in
    let fresh : Fresh c.args.report.now (page c.new-lines.result) = record { lines = c.new-lines.ensures.lines; written = c.new-lines.ensures.written } in
    ready_to_enter v d c.args.ticket c.args.report.now (page c.new-lines.result) c.in_ok-check_desk.ensures fresh passed

pub release_stops-requires : goal.release_stops-requires
release_stops-requires g c =
    let lawful = g.G.PriceGrid.lawful c.args.grid.now in
    let v = venue_of lawful (g.C.Collar.allows c.args.collar.now) in
    let d = contents c.args.desk.now in
    let p = page c.new-lines.result in
    let x = c.enter_ticket in
    let passed = queues_seen v d c.args.ticket c.capacity_on.result (book_seen c.book.result) None c.capacity_on.ensures c.book.ensures (c.in_ok-check_queues.ensures (grid_of lawful)) in
    let fresh : Fresh c.args.report.now p = record { lines = c.new-lines.ensures.lines; written = c.new-lines.ensures.written } in
    let ready = ready_to_enter v d c.args.ticket c.args.report.now p c.in_ok-check_desk.ensures fresh passed in
    ready_to_release v c.args.ticket d (contents x.new.desk) p (page x.new.report) x.ensures.kept.report.lines_length ready (x.ensures.entered (grid_of lawful))

pub returns-clause-made : goal.returns-clause-made
returns-clause-made g c =
    let lawful = g.G.PriceGrid.lawful c.args.grid.now in
    let allows = g.C.Collar.allows c.args.collar.now in
    let v = venue_of lawful allows in
    let d = contents c.args.desk.now in
    let p = page c.new-lines.result in
    let x = c.enter_ticket in
    let y = c.release_stops in
    let s = c.in_ok-check_desk.ensures in
    let passed = queues_seen v d c.args.ticket c.capacity_on.result (book_seen c.book.result) None c.capacity_on.ensures c.book.ensures (c.in_ok-check_queues.ensures (grid_of lawful)) in
    let fresh : Fresh c.args.report.now p = record { lines = c.new-lines.ensures.lines; written = c.new-lines.ensures.written } in
    let ready = ready_to_enter v d c.args.ticket c.args.report.now p s fresh passed in
    made_told lawful allows (g.met.G.PriceGrid.priced c.args.grid.now) d (Enter c.args.ticket) c.args.report.now s Accepted (contents y.new.desk) (page y.new.report) _ _ c.answer.ensures (search rules)
    (ticket_passed lawful allows (capacity d) c.args.ticket (book_of d) c.in_ok-check_ticket.ensures ∙ passed)
    (entered_took v c.args.ticket d (contents x.new.desk) (contents y.new.desk) c.args.report.now p (page x.new.report) (page y.new.report) s fresh ready (x.ensures.entered (grid_of lawful)) (y.ensures.released (grid_of lawful)))
