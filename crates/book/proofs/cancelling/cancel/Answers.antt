use Rattle.std.proofs.Common.{None, sym, ap, subst, arith}
use Rattle.book.specs.Finding.{AtSpot, FoundBy}
use Rattle.std.proofs.lemmas.Result.{err_from_is_err_and}
use Rattle.trading.specs.declared.request.Request.TheVariants.{Cancel}
use Rattle.trading.specs.Books.{is_ended}
use Rattle.trading.specs.Desks.{book_of}
use Rattle.lent.specs.Contents.{contents}
use Rattle.book.proofs.Calls.{made_refusing_all, made_turned, made_taken, not_ended}
use Rattle.book.proofs.Cancels.{no_cancel_ended, no_cancel_number, no_cancel_live, may_cancel, cancelled}
use Rattle.book.proofs.cancelling.cancel.Goals as goal

pub returns-in_err-check_desk-clause-made : goal.returns-in_err-check_desk-clause-made
returns-in_err-check_desk-clause-made c lawful allows priced =
    let p = err_from_is_err_and c.from_residual.result c.from_residual.ensures.1 in
    rw (p.1, p.2) (made_refusing_all lawful allows priced (contents c.args.desk.now) (Cancel c.args.number) c.args.report.now _ c.in_err-check_desk.ensures)

pub returns-in-Ended-clause-made : goal.returns-in-Ended-clause-made
returns-in-Ended-clause-made c lawful allows priced =
    let d = contents c.args.desk.now in
    made_turned lawful allows priced d (Cancel c.args.number) c.args.report.now c.in_ok-check_desk.ensures _ (no_cancel_ended c.args.number (book_of d) (ap is_ended c.in-Ended.is))

pub returns-then-not-is_number-clause-made : goal.returns-then-not-is_number-clause-made
returns-then-not-is_number-clause-made c lawful allows priced =
    let d = contents c.args.desk.now in
    made_turned lawful allows priced d (Cancel c.args.number) c.args.report.now c.in_ok-check_desk.ensures _ (no_cancel_number c.args.number (book_of d) (not_ended _ c.in_default.not-Ended) (sym c.if-not-is_number.ensures))

pub returns-in_default-find_record-clause-made : goal.returns-in_default-find_record-clause-made
returns-in_default-find_record-clause-made c lawful allows priced =
    let d = contents c.args.desk.now in
    made_turned lawful allows priced d (Cancel c.args.number) c.args.report.now c.in_ok-check_desk.ensures _ (no_cancel_live c.args.number (book_of d) (not_ended _ c.in_default.not-Ended) (sym c.if-not-is_number.ensures) (subst (λ b. FoundBy c.args.number b None) c.book.ensures c.in_default-find_record.ensures))

pub returns-clause-made : goal.returns-clause-made
returns-clause-made c lawful allows priced =
    let d = contents c.args.desk.now in
    let x = c.take_out-quantity in
    let d' = contents x.new.desk in
    let s = c.in_ok-check_desk.ensures in
    let at = subst (λ b. AtSpot c.args.number b c.in-Some.spot) c.book.ensures c.in-Some.ensures in
    made_taken lawful allows priced d (Cancel c.args.number) c.args.report.now s _ d' _
    (may_cancel c.args.number (book_of d) (not_ended _ c.in_default.not-Ended) (sym c.if-not-is_number.ensures) _ at)
    (cancelled d d' c.args.number x.result c.args.report.now (x.ensures.out c.args.number at) (omega (arith, s.wide)))
