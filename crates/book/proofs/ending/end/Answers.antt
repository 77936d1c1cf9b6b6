use Rattle.std.proofs.Common.{sym, refl, ap, rules}
use Rattle.std.proofs.lemmas.Result.{err_from_is_err_and}
use Rattle.std.proofs.lemmas.List.{append-nil}
use Rattle.trading.specs.declared.answer.Outcome.TheVariants.{Accepted}
use Rattle.trading.specs.declared.request.Request.TheVariants.{End}
use Rattle.trading.specs.Books.{venue_of, is_ended}
use Rattle.trading.specs.Uncrossings.{all_lapses, emptied}
use Rattle.trading.specs.Desks.{book_of, capacity}
use Rattle.lent.specs.Contents.{contents, page}
use Rattle.book.proofs.Calls.{made_refusing_all, made_turned, not_ended}
use Rattle.book.proofs.Coming.{Fresh, effect_took, came_as, made_told}
use Rattle.book.proofs.ending.end.Goals as goal

pub returns-in_err-check_desk-clause-made : goal.returns-in_err-check_desk-clause-made
returns-in_err-check_desk-clause-made c lawful allows priced =
    let p = err_from_is_err_and c.from_residual.result c.from_residual.ensures.1 in
    rw (p.1, p.2) (made_refusing_all lawful allows priced (contents c.args.desk.now) End c.args.report.now _ c.in_err-check_desk.ensures)

pub returns-in-Ended-clause-made : goal.returns-in-Ended-clause-made
returns-in-Ended-clause-made c lawful allows priced =
    let y = ap is_ended c.in-Ended.is in
    made_turned lawful allows priced (contents c.args.desk.now) End c.args.report.now c.in_ok-check_desk.ensures _ (rw y)

pub returns-clause-made : goal.returns-clause-made
returns-clause-made c lawful allows priced =
    let d = contents c.args.desk.now in
    let p = page c.new-lines.result in
    let x = c.close_without_price in
    let s = c.in_ok-check_desk.ensures in
    let n = not_ended c.args.desk.now.state.now.phase c.in_default.not-Ended in
    let fresh : Fresh c.args.report.now p = record { lines = c.new-lines.ensures.lines; written = c.new-lines.ensures.written } in
    let came = came_as (capacity d) (emptied (book_of d)) (all_lapses (book_of d)) _ d p (contents x.new.desk) (page x.new.report) (sym (append-nil (all_lapses (book_of d)))) (x.ensures.came (capacity d)) in
    made_told lawful allows priced d End c.args.report.now s Accepted (contents x.new.desk) (page x.new.report) _ _ c.answer.ensures (search rules) (rw n)
    (effect_took (venue_of lawful allows) End d c.args.report.now p _ (contents x.new.desk) (page x.new.report) s fresh came refl)
