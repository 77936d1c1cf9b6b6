-- What a call that asks neither the grid nor the collar says of itself.
use Rattle.std.specs.Prelude.{ℕ, Bool, List, Result}
use Rattle.grid.specs.Neighbours.{Priced}
use Rattle.trading.specs.declared.answer.Answer.{Answer}
use Rattle.trading.specs.declared.fault.BookFault.{BookFault}
use Rattle.trading.specs.declared.report.ReportLine.{ReportLine}
use Rattle.trading.specs.declared.request.Request.{Request}
use Rattle.trading.specs.Desks.{Desk}
use Rattle.sessions.specs.Made.{Made}

-- whatever the grid and the collar are
abbrev pub MadeAnywhere : Desk → Request → List ReportLine → Result Answer BookFault → Desk → List ReportLine → Type 0
MadeAnywhere d request report r d' report' =
    (lawful : ℕ → Bool) (allows : ℕ → ℕ → ℕ → Bool) → Priced lawful → Made lawful allows d request report r d' report'
