-- What a public call says of itself: it is carried out by the rules, and every session that it ends keeps the laws.
use Rattle.std.specs.Prelude.{◌≡◌, ℕ, Bool, List, ◌∷◌, map, reverse, Result}
use Rattle.trading.specs.declared.answer.Answer.{Answer}
use Rattle.trading.specs.declared.fault.BookFault.{BookFault}
use Rattle.trading.specs.declared.report.ReportLine.{ReportLine}
use Rattle.trading.specs.declared.request.Request.{Request}
use Rattle.trading.specs.Books.{venue_of}
use Rattle.trading.specs.Desks.{Desk}
use Rattle.trading.specs.Carried.{Carried}
use Rattle.sessions.specs.Runs.{Done, done, Session}
use Rattle.sessions.specs.Laws.{CallLaws, Throughout}

-- every session that led to the desk d keeps the laws with this call added
abbrev pub KeepsLaws : (ℕ → Bool) → (ℕ → ℕ → ℕ → Bool) → Desk → Request → Result Answer BookFault → Desk → List ReportLine → Type 0
KeepsLaws lawful allows d request r d' report' =
    (h : List Done) → Session (venue_of lawful allows) d h → Throughout (CallLaws lawful allows) (done d request r report' d' ∷ h)

pub record Made (lawful : ℕ → Bool) (allows : ℕ → ℕ → ℕ → Bool) (d : Desk) (request : Request) (report : List ReportLine) (r : Result Answer BookFault) (d' : Desk) (report' : List ReportLine) : Type 0 where
  pub rule : Carried (venue_of lawful allows) d request report r d' report'
  pub session : KeepsLaws lawful allows d request r d' report'

abbrev pub request_of : Done → Request
request_of x = x.request

-- a session that asked these requests in this order, one after the other, led to the desk d, and kept the laws
pub record Ran (lawful : ℕ → Bool) (allows : ℕ → ℕ → ℕ → Bool) (requests : List Request) (d : Desk) : Type 0 where
  pub calls : List Done
  pub session : Session (venue_of lawful allows) d calls
  pub asked : map request_of calls ≡ reverse requests
  pub laws : Throughout (CallLaws lawful allows) calls
