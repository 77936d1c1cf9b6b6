-- What a line of text does to a call book.
use Rattle.std.specs.Prelude.{◌≡◌, ℕ, List, None, Ok, Err, Option, Result}
use Rattle.rules.specs.declared.opening.Opening.{Opening}
use Rattle.script.specs.Words.{words_of}
use Rattle.script.specs.Grammar.{statement_of, Says}
use Rattle.script.specs.declared.statement.ScriptFault.{ScriptFault}
use Rattle.script.specs.declared.statement.Statement.{Statement}
use Rattle.callbook.specs.declared.fault.BookFault.{BookFault}
use Rattle.callbook.specs.declared.text.LineFault.{LineFault}
use Rattle.callbook.specs.declared.text.LineFault.TheVariants.{Text, Book}
use Rattle.callbook.specs.Numbers.{refusal_of}
use Rattle.callbook.specs.Desks.{Desk}
use Rattle.callbook.specs.Lines.{Applied}

-- a fault of the text has no number
abbrev pub line_refusal : LineFault → Option ℕ
line_refusal (Text f) = None
line_refusal (Book f) = refusal_of f

abbrev pub by_book : Result (Option Opening) BookFault → Result (Option Opening) LineFault
by_book (Ok o) = Ok o
by_book (Err f) = Err (Book f)

-- a line that was read is applied; one that was not leaves the book as it was
abbrev pub RunAs : Desk → Result Statement ScriptFault → Result (Option Opening) LineFault → Desk → Type 0
RunAs d (Ok s) r d' = (q : Result (Option Opening) BookFault) × Applied d s q d' × (r ≡ by_book q)
RunAs d (Err f) r d' = (r ≡ Err (Text f)) × (d' ≡ d)

-- what the bytes of a line do
abbrev pub Run : Desk → List ℕ → Result (Option Opening) LineFault → Desk → Type 0
Run d line r d' = (s : Result Statement ScriptFault) × Says (statement_of (words_of line)) s × RunAs d s r d'
