use Rattle.std.proofs.Common.{◌≡◌, ap, subst, rules}
use Rattle.rules.specs.Candidates.{grid_of}
use Rattle.rules.specs.Openings.{opening}
use Rattle.std.proofs.lemmas.Result.{err_from_is_err_and}
use Rattle.trading.specs.declared.answer.Outcome.TheVariants.{Uncrossed}
use Rattle.trading.specs.declared.request.Request.TheVariants.{Uncross}
use Rattle.trading.specs.Books.{Book, is_call, auction_of}
use Rattle.lent.specs.Contents.{contents, page}
use Rattle.book.proofs.Calls.{made_refusing_all, made_turned, not_call}
use Rattle.book.proofs.Coming.{Fresh, made_told}
use Rattle.book.proofs.Crossings.{uncrossed_took}
use Rattle.book.proofs.crossing.uncross.Goals as goal

pub returns-in_err-check_desk-clause-made : goal.returns-in_err-check_desk-clause-made
returns-in_err-check_desk-clause-made g c =
    let p = err_from_is_err_and c.from_residual.result c.from_residual.ensures.1 in
    rw (p.1, p.2) (made_refusing_all (g.G.PriceGrid.lawful c.args.grid.now) (g.C.Collar.allows c.args.collar.now) (g.met.G.PriceGrid.priced c.args.grid.now) (contents c.args.desk.now) (Uncross c.args.next) c.args.report.now _ c.in_err-check_desk.ensures)

pub returns-in_default-clause-made : goal.returns-in_default-clause-made
returns-in_default-clause-made g c =
    let n = not_call c.args.desk.now.state.now.phase c.in_default.not-Call in
    made_turned (g.G.PriceGrid.lawful c.args.grid.now) (g.C.Collar.allows c.args.collar.now) (g.met.G.PriceGrid.priced c.args.grid.now) (contents c.args.desk.now) (Uncross c.args.next) c.args.report.now c.in_ok-check_desk.ensures _ (rw n)

pub returns-clause-made : goal.returns-clause-made
returns-clause-made g c =
    let lawful = g.G.PriceGrid.lawful c.args.grid.now in
    let allows = g.C.Collar.allows c.args.collar.now in
    let d = contents c.args.desk.now in
    let p = page c.new-lines.result in
    let x = c.carry_out_opening in
    let s = c.in_ok-check_desk.ensures in
    let y = ap is_call c.in-Call.is in
    let rule = subst (λ (b : Book). c.in-Ok.opening ≡ opening (grid_of lawful) allows b.static (auction_of b)) c.book-book.ensures c.in-Ok.ensures.rule.2 in
    let fresh : Fresh c.args.report.now p = record { lines = c.new-lines.ensures.lines; written = c.new-lines.ensures.written } in
    made_told lawful allows (g.met.G.PriceGrid.priced c.args.grid.now) d (Uncross c.args.next) c.args.report.now s (Uncrossed c.in-Ok.opening) (contents x.new.desk) (page x.new.report) _ _ c.answer.ensures (search rules) (rw y)
    (uncrossed_took lawful allows c.args.next d c.args.report.now p (contents x.new.desk) (page x.new.report) c.in-Ok.opening s fresh rule x.ensures.came)
