-- The rules leave one answer to each call, and check in one order.
use Rattle.std.specs.Prelude.{◌≡◌, ℕ, Bool, true, false, List, [], ◌∷◌, ◌++◌, map, Result}
use Rattle.std.specs.List.{AllByRecursion}
use Rattle.std.specs.List.Sorted.{IsPermutation}
use Rattle.trading.specs.declared.answer.Answer.{Answer}
use Rattle.trading.specs.declared.fault.BookFault.{BookFault}
use Rattle.trading.specs.declared.report.ReportLine.{ReportLine}
use Rattle.trading.specs.declared.report.ReportLine.TheVariants.{Trade, Lapse}
use Rattle.trading.specs.declared.request.Request.{Request}
use Rattle.trading.specs.declared.request.Request.TheVariants.{Enter, Amend, Cancel, Call, Uncross, End}
use Rattle.trading.specs.Numbers.{refusal_number}
use Rattle.trading.specs.Books.{Venue}
use Rattle.trading.specs.Calls.{Check}
use Rattle.trading.specs.Desks.{Desk, book_of, capacity, all_checks}
use Rattle.trading.specs.Carried.{Carried}
use Rattle.trading.specs.Moves.{Beyond}

-- the numbers of the checks that each request meets
abbrev pub numbers_of : Request → List ℕ
numbers_of (Enter t) = 6 ∷ (21 ∷ (22 ∷ (1 ∷ (2 ∷ (3 ∷ (4 ∷ (4 ∷ (23 ∷ (25 ∷ (26 ∷ (27 ∷ [])))))))))))
numbers_of (Amend n limit q) = 6 ∷ (21 ∷ (22 ∷ (1 ∷ (2 ∷ (24 ∷ (3 ∷ (4 ∷ [])))))))
numbers_of (Cancel n) = 6 ∷ (21 ∷ (22 ∷ (1 ∷ (24 ∷ []))))
numbers_of Call = 6 ∷ (21 ∷ (22 ∷ []))
numbers_of (Uncross next) = 6 ∷ (21 ∷ (22 ∷ []))
numbers_of End = 6 ∷ (21 ∷ (22 ∷ []))

abbrev pub number_of : Check → ℕ
number_of c = refusal_number c.fault

-- whatever the book and the request, the checks come by these numbers
abbrev pub ChecksInOrder : Type 0
ChecksInOrder = (v : Venue) (d : Desk) (room : ℕ) (request : Request) → map number_of (all_checks v d room request) ≡ numbers_of request

abbrev pub IsLapse : ReportLine → Type 0
IsLapse (Trade b s p q) = ⊥
IsLapse (Lapse n q) = Unit {0}

-- two reports are the same but for the order of lapse lines that stand together, `first` in one and `second` in the other
pub record SameButForOrder (report report' : List ReportLine) : Type 0 where
  pub front : List ReportLine
  pub first : List ReportLine
  pub second : List ReportLine
  pub back : List ReportLine
  pub is_first : report ≡ front ++ (first ++ back)
  pub is_second : report' ≡ front ++ (second ++ back)
  pub lapse_lines : AllByRecursion IsLapse first
  pub shuffled : IsPermutation first second

-- the requests whose lapse lines may stand in another order
abbrev pub reorders : Request → Bool
reorders (Enter t) = false
reorders (Amend n limit q) = false
reorders (Cancel n) = false
reorders Call = false
reorders (Uncross next) = true
reorders End = true

-- two ways of carrying out one call on the desk `before`: the same answer, the same state, the same queues; tables of the same
-- lengths, with the same records from the capacity on
pub record Same (before : Desk) (request : Request) (r s : Result Answer BookFault) (d e : Desk) (report report' : List ReportLine) : Type 0 where
  pub answer : r ≡ s
  pub state : d.state ≡ e.state
  pub queues : book_of d ≡ book_of e
  pub beyond : Beyond (capacity before) d e
  pub reports : SameButForOrder report report'
  pub exact : reorders request ≡ false → report ≡ report'

-- a call can be carried out in one way only, but for what is left free
abbrev pub OneAnswer : Type 0
OneAnswer =
    (v : Venue) (d : Desk) (request : Request) (report : List ReportLine) (r s : Result Answer BookFault) (d' d'' : Desk) (report' report'' : List ReportLine)
    → Carried v d request report r d' report' → Carried v d request report s d'' report'' → Same d request r s d' d'' report' report''

-- and in one way at least: on any tables, with any report
abbrev pub SomeAnswer : Type 0
SomeAnswer =
    (v : Venue) (d : Desk) (request : Request) (report : List ReportLine)
    → (r : Result Answer BookFault) × (d' : Desk) × (report' : List ReportLine) × Carried v d request report r d' report'
