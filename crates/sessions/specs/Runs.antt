-- Sessions: calls one after the other on one state and three tables, each carried out by the rules, refusals left in.
use Rattle.std.specs.Prelude.{◌≡◌, ℕ, ◌+◌, List, [], ◌∷◌, take, None, Ok, Err, Result}
use Rattle.rules.specs.Auctions.{total}
use Rattle.trading.specs.declared.answer.Answer.{Answer}
use Rattle.trading.specs.declared.fault.BookFault.{BookFault}
use Rattle.trading.specs.declared.report.ReportLine.{ReportLine}
use Rattle.trading.specs.declared.request.Request.{Request}
use Rattle.trading.specs.Books.{Venue, new_state}
use Rattle.trading.specs.Calls.{first_fault, new_checks}
use Rattle.trading.specs.Desks.{Desk}
use Rattle.trading.specs.Carried.{Carried}
use Rattle.sessions.specs.Accounts.{entered_in}

-- one call of a session: the desk before it, what was asked, what was answered, the report and the desk after it
pub record Done : Type 0 where
  pub before : Desk
  pub request : Request
  pub answer : Result Answer BookFault
  pub report : List ReportLine
  pub desk : Desk

abbrev pub done : Desk → Request → Result Answer BookFault → List ReportLine → Desk → Done
done d request r report d' = record { before = d; request = request; answer = r; report = report; desk = d' }

-- a new book, p its static and its last price; its tables hold anything
abbrev pub New : ℕ → Desk → Type 0
New p d = d.state ≡ new_state p

-- the sessions that lead to a desk, each with the calls that were made, the latest first
pub data Session (v : Venue) : Desk → List Done → Type 0 where
  opens : {d : Desk} (p : ℕ) → first_fault (new_checks p) ≡ None → New p d → Session v d []
  goes_on : {d d' : Desk} {h : List Done} (request : Request) (report report' : List ReportLine) (r : Result Answer BookFault)
      → Session v d h → Carried v d request report r d' report' → Session v d' (done d request r report' d' ∷ h)

-- ---- what the calls of a session add up to

-- the lines that a call wrote
abbrev pub lines_told : Result Answer BookFault → List ReportLine → List ReportLine
lines_told (Ok a) report = take a.lines report
lines_told (Err f) report = []

abbrev pub lines_of_call : Done → List ReportLine
lines_of_call x = lines_told x.answer x.report

-- the sum of f over the lines of all calls
abbrev pub over_lines : (ReportLine → ℕ) → List Done → ℕ
over_lines f [] = 0
over_lines f (x ∷ h) = total f (lines_of_call x) + over_lines f h

-- what all calls entered under k
abbrev pub entered_under : ℕ → List Done → ℕ
entered_under k [] = 0
entered_under k (x ∷ h) = entered_in k x.request x.answer + entered_under k h
