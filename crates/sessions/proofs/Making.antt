-- A call that is carried out by the rules keeps the laws of every session that it ends.
use Rattle.std.proofs.Common.{ℕ, Bool, List, Result}
use Rattle.grid.specs.Neighbours.{Priced}
use Rattle.trading.specs.declared.answer.Answer.{Answer}
use Rattle.trading.specs.declared.fault.BookFault.{BookFault}
use Rattle.trading.specs.declared.report.ReportLine.{ReportLine}
use Rattle.trading.specs.declared.request.Request.{Request}
use Rattle.trading.specs.Books.{venue_of}
use Rattle.trading.specs.Desks.{Desk}
use Rattle.trading.specs.Carried.{Carried}
use Rattle.sessions.specs.Runs.{goes_on}
use Rattle.sessions.specs.Made.{Made}
use Rattle.sessions.proofs.Sessions.{every_session}

pub made : (lawful : ℕ → Bool) (allows : ℕ → ℕ → ℕ → Bool) → Priced lawful
    → (d : Desk) (request : Request) (report : List ReportLine) (r : Result Answer BookFault) (d' : Desk) (report' : List ReportLine)
    → Carried (venue_of lawful allows) d request report r d' report' → Made lawful allows d request report r d' report'
made lawful allows priced d request report r d' report' c = record { rule = c; session = λ h s. every_session lawful priced allows d' _ (goes_on request report report' r s c) }
