use Rattle.std.proofs.Common.{[], refl, ap, arith}
use Rattle.std.proofs.lemmas.Result.{err_from_is_err_and}
use Rattle.trading.specs.declared.answer.Outcome.TheVariants.{Accepted}
use Rattle.trading.specs.declared.request.Request.TheVariants.{Call}
use Rattle.trading.specs.declared.state.Phase.TheVariants.{Call as CallPhase}
use Rattle.trading.specs.Books.{is_continuous, with_phase}
use Rattle.trading.specs.Sweeps.{moved}
use Rattle.trading.specs.Desks.{book_of}
use Rattle.lent.specs.Contents.{contents}
use Rattle.book.proofs.Calls.{made_refusing_all, made_turned, made_taken, plain_took, not_continuous}
use Rattle.book.proofs.calling.call.Goals as goal

pub returns-in_err-check_desk-clause-made : goal.returns-in_err-check_desk-clause-made
returns-in_err-check_desk-clause-made c lawful allows priced =
    let p = err_from_is_err_and c.from_residual.result c.from_residual.ensures.1 in
    rw (p.1, p.2) (made_refusing_all lawful allows priced (contents c.args.desk.now) Call c.args.report.now _ c.in_err-check_desk.ensures)

pub returns-in_default-clause-made : goal.returns-in_default-clause-made
returns-in_default-clause-made c lawful allows priced =
    let n = not_continuous c.args.desk.now.state.now.phase c.in_default.not-Continuous in
    made_turned lawful allows priced (contents c.args.desk.now) Call c.args.report.now c.in_ok-check_desk.ensures _ (rw n)

pub returns-clause-made : goal.returns-clause-made
returns-clause-made c lawful allows priced =
    let d = contents c.args.desk.now in
    let s = c.in_ok-check_desk.ensures in
    let y = ap is_continuous c.in-Continuous.is in
    made_taken lawful allows priced d Call c.args.report.now s _ _ _ (rw y)
    (plain_took Accepted (moved (with_phase CallPhase (book_of d)) []) d c.args.report.now _ _ _ refl refl
    (record { buys = s.counts.buys; sells = s.counts.sells; stops = s.counts.stops })
    (record { buys_length = refl; sells_length = refl; stops_length = refl; buys_beyond = refl; sells_beyond = refl; stops_beyond = refl }) refl (omega arith))
