-- What a call that is taken comes to.
use Rattle.std.specs.Prelude.{List, [], ◌++◌, length}
use Rattle.trading.specs.declared.answer.Outcome.{Outcome}
use Rattle.trading.specs.declared.answer.Answer.{Answer}
use Rattle.trading.specs.declared.report.ReportLine.{ReportLine}
use Rattle.trading.specs.Books.{Book}
use Rattle.trading.specs.Sweeps.{Moved}

-- the outcome, the report lines in order of happening, and the book. The lines `lapses` stand together between the two
-- others, in an order that is left free.
pub record Effect : Type 0 where
  pub outcome : Outcome
  pub before : List ReportLine
  pub lapses : List ReportLine
  pub later : List ReportLine
  pub book : Book

-- all the lines, those whose order is free in one order that will do
abbrev pub lines_of : Effect → List ReportLine
lines_of e = e.before ++ (e.lapses ++ e.later)

-- an effect with no lines whose order is free
abbrev pub plainly : Outcome → Moved → Effect
plainly outcome m = record { outcome = outcome; before = m.lines; lapses = []; later = []; book = m.book }

-- the answer: the outcome, how many lines were written, and the phase afterwards
abbrev pub answer_of : Effect → Answer
answer_of e = record { outcome = e.outcome; lines = length (lines_of e); phase = e.book.phase }
