use Rattle.std.proofs.Common.{Ok, Err, sym, subst, rules}
use Rattle.std.proofs.lemmas.Result.{err_from_is_err_and}
use Rattle.rules.specs.Candidates.{grid_of}
use Rattle.trading.specs.declared.answer.Outcome.TheVariants.{PriorityKept, PriorityLost}
use Rattle.trading.specs.declared.request.Request.TheVariants.{Amend}
use Rattle.trading.specs.Books.{venue_of}
use Rattle.trading.specs.Desks.{capacity}
use Rattle.trading.specs.Moves.{Ready}
use Rattle.lent.specs.Contents.{contents, page}
use Rattle.book.specs.Amending.{MayAmend}
use Rattle.book.proofs.Calls.{made_refusing_all, made_turned}
use Rattle.book.proofs.Coming.{Fresh, made_told}
use Rattle.book.proofs.Cuts.{stands_inside}
use Rattle.book.proofs.Amended.{kept_took, lost_took}
use Rattle.book.proofs.amending.amend.Goals as goal

pub returns-in_err-check_desk-clause-made : goal.returns-in_err-check_desk-clause-made
returns-in_err-check_desk-clause-made g c =
    let p = err_from_is_err_and c.from_residual.result c.from_residual.ensures.1 in
    rw (p.1, p.2) (made_refusing_all (g.G.PriceGrid.lawful c.args.grid.now) (g.C.Collar.allows c.args.collar.now) (g.met.G.PriceGrid.priced c.args.grid.now) (contents c.args.desk.now) (Amend c.args.number c.args.limit c.args.quantity) c.args.report.now _ c.in_err-check_desk.ensures)

pub returns-in_err-standing-clause-made : goal.returns-in_err-standing-clause-made
returns-in_err-standing-clause-made g c =
    let p = err_from_is_err_and c.from_residual-in_err-standing.result c.from_residual-in_err-standing.ensures.1 in
    let lawful = g.G.PriceGrid.lawful c.args.grid.now in
    let allows = g.C.Collar.allows c.args.collar.now in
    let v = venue_of lawful allows in
    rw (p.1, p.2) (made_turned lawful allows (g.met.G.PriceGrid.priced c.args.grid.now) (contents c.args.desk.now) (Amend c.args.number c.args.limit c.args.quantity) c.args.report.now c.in_ok-check_desk.ensures _ (subst (λ b. MayAmend v c.args.number c.args.limit c.args.quantity b (Err c.in_err-standing.field-0.0)) c.book.ensures (c.in_err-standing.ensures allows)))

pub cut_order-requires-clause-inside : goal.cut_order-requires-clause-inside
cut_order-requires-clause-inside g c =
    let allows = g.C.Collar.allows c.args.collar.now in
    let v = venue_of (g.G.PriceGrid.lawful c.args.grid.now) allows in
    let may = subst (λ b. MayAmend v c.args.number c.args.limit c.args.quantity b (Ok c.in_ok-standing.standing)) c.book.ensures (c.in_ok-standing.ensures allows) in
    stands_inside c.args.number (contents c.args.desk.now) c.in_ok-standing.standing may.1

pub returns-then-keeps_priority-clause-made : goal.returns-then-keeps_priority-clause-made
returns-then-keeps_priority-clause-made g c =
    let lawful = g.G.PriceGrid.lawful c.args.grid.now in
    let allows = g.C.Collar.allows c.args.collar.now in
    let v = venue_of lawful allows in
    let d = contents c.args.desk.now in
    let p = page c.new-lines.result in
    let x = c.cut_order in
    let y = c.release_stops in
    let s = c.in_ok-check_desk.ensures in
    let may = subst (λ b. MayAmend v c.args.number c.args.limit c.args.quantity b (Ok c.in_ok-standing.standing)) c.book.ensures (c.in_ok-standing.ensures allows) in
    let fresh : Fresh c.args.report.now p = record { lines = c.new-lines.ensures.lines; written = c.new-lines.ensures.written } in
    made_told lawful allows (g.met.G.PriceGrid.priced c.args.grid.now) d (Amend c.args.number c.args.limit c.args.quantity) c.args.report.now s PriorityKept (contents y.new.desk) (page y.new.report) _ _ c.answer.ensures (search rules) may.0
    (kept_took v c.args.number c.args.limit c.args.quantity c.in_ok-standing.standing d (contents x.new.desk) (contents y.new.desk) c.args.report.now p (page x.new.report) (page y.new.report) s fresh may.1 (y.ensures.released (grid_of lawful))
    (sym c.if-keeps_priority.ensures) x.ensures.cut.few (x.ensures.cut.came (record { counts = s.counts; few = s.few }) may.1))

pub enter_again-requires-clause-stands : goal.enter_again-requires-clause-stands
enter_again-requires-clause-stands g c =
    let allows = g.C.Collar.allows c.args.collar.now in
    let v = venue_of (g.G.PriceGrid.lawful c.args.grid.now) allows in
    (subst (λ b. MayAmend v c.args.number c.args.limit c.args.quantity b (Ok c.in_ok-standing.standing)) c.book.ensures (c.in_ok-standing.ensures allows)).1

pub release_stops-requires-2 : goal.release_stops-requires-2
release_stops-requires-2 g c =
    let x = c.enter_again in
    let d' = contents x.new.desk in
    subst (λ room. Ready (capacity d') d' room x.new.report.written 0) (sym x.ensures.kept.report.lines_length) (x.ensures.again (grid_of (g.G.PriceGrid.lawful c.args.grid.now))).ready

pub returns-clause-made : goal.returns-clause-made
returns-clause-made g c =
    let lawful = g.G.PriceGrid.lawful c.args.grid.now in
    let allows = g.C.Collar.allows c.args.collar.now in
    let v = venue_of lawful allows in
    let d = contents c.args.desk.now in
    let p = page c.new-lines.result in
    let x = c.enter_again in
    let y = c.release_stops-2 in
    let s = c.in_ok-check_desk.ensures in
    let may = subst (λ b. MayAmend v c.args.number c.args.limit c.args.quantity b (Ok c.in_ok-standing.standing)) c.book.ensures (c.in_ok-standing.ensures allows) in
    let fresh : Fresh c.args.report.now p = record { lines = c.new-lines.ensures.lines; written = c.new-lines.ensures.written } in
    made_told lawful allows (g.met.G.PriceGrid.priced c.args.grid.now) d (Amend c.args.number c.args.limit c.args.quantity) c.args.report.now s PriorityLost (contents y.new.desk) (page y.new.report) _ _ c.answer-2.ensures (search rules) may.0
    (lost_took v c.args.number c.args.limit c.args.quantity c.in_ok-standing.standing d (contents x.new.desk) (contents y.new.desk) c.args.report.now p (page x.new.report) (page y.new.report) s fresh may.1 (y.ensures.released (grid_of lawful))
    (sym c.if-keeps_priority.ensures) (x.ensures.again (grid_of lawful)))
