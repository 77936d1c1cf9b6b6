-- A call carried out by the rules, on a state, three tables and a report as they lie in memory.
use Rattle.std.specs.Prelude.{◌≡◌, ◌≤◌, List, ◌++◌, length, drop, Result, MatchResult}
use Rattle.std.specs.List.Sorted.{IsPermutation}
use Rattle.trading.specs.declared.answer.Answer.{Answer}
use Rattle.trading.specs.declared.fault.BookFault.{BookFault}
use Rattle.trading.specs.declared.report.ReportLine.{ReportLine}
use Rattle.trading.specs.declared.request.Request.{Request}
use Rattle.trading.specs.Books.{Venue}
use Rattle.trading.specs.Effects.{Effect, answer_of}
use Rattle.trading.specs.Desks.{Desk, book_of, capacity, Ruling, refused, taken, ruling}

-- lines written over a report's first lines; the later ones stay
abbrev pub written : List ReportLine → List ReportLine → List ReportLine
written report lines = lines ++ drop (length lines) report

-- the report afterwards: the effect's lines, its lapse lines in some order, all of them within the report
pub record Reported (e : Effect) (report report' : List ReportLine) : Type 0 where
  pub lapses : List ReportLine
  pub some_order : IsPermutation e.lapses lapses
  pub lines : report' ≡ written report (e.before ++ (lapses ++ e.later))
  pub fit : length (e.before ++ (lapses ++ e.later)) ≤ length report

-- each count fits its table
pub record CountsFit (d : Desk) : Type 0 where
  pub buys : d.state.buys ≤ length d.buys
  pub sells : d.state.sells ≤ length d.sells
  pub stops : d.state.stops ≤ length d.stops

-- what no call touches: the tables' lengths, and their records from the capacity on
pub record Untouched (d d' : Desk) : Type 0 where
  pub buys_length : length d'.buys ≡ length d.buys
  pub sells_length : length d'.sells ≡ length d.sells
  pub stops_length : length d'.stops ≡ length d.stops
  pub buys_beyond : drop (capacity d) d'.buys ≡ drop (capacity d) d.buys
  pub sells_beyond : drop (capacity d) d'.sells ≡ drop (capacity d) d.sells
  pub stops_beyond : drop (capacity d) d'.stops ≡ drop (capacity d) d.stops

-- an effect has come about: phase, prices and queues are the effect's. What the tables hold between a queue's end and the
-- capacity is left free.
pub record Took (e : Effect) (d : Desk) (report : List ReportLine) (a : Answer) (d' : Desk) (report' : List ReportLine) : Type 0 where
  pub answer : a ≡ answer_of e
  pub book : book_of d' ≡ e.book
  pub counts : CountsFit d'
  pub reported : Reported e report report'
  pub untouched : Untouched d d'

pub record TakenBy (by-rule : Ruling) (d : Desk) (report : List ReportLine) (a : Answer) (d' : Desk) (report' : List ReportLine) : Type 0 where
  pub effect : Effect
  pub is : by-rule ≡ taken effect
  pub took : Took effect d report a d' report'

-- a refused call leaves state, tables and report as they were
pub record RefusedBy (by-rule : Ruling) (d : Desk) (report : List ReportLine) (f : BookFault) (d' : Desk) (report' : List ReportLine) : Type 0 where
  pub is : by-rule ≡ refused f
  pub same_desk : d' ≡ d
  pub same_report : report' ≡ report

-- a call that answers r, and leaves d' and report' of d and report, does as the rules say
abbrev pub Carried : Venue → Desk → Request → List ReportLine → Result Answer BookFault → Desk → List ReportLine → Type 0
Carried v d request report r d' report' =
    let by-rule = ruling v d (length report) request in
    MatchResult r (λ a. TakenBy by-rule d report a d' report') (λ f. RefusedBy by-rule d report f d' report')
