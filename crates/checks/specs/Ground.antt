-- What the first checks of a call establish.
use Rattle.std.specs.Prelude.{◌≡◌, ℕ, ◌+◌, ◌≤◌, true, List, Some, None, Result, MatchResult}
use Rattle.trading.specs.declared.fault.BookFault.{BookFault}
use Rattle.trading.specs.declared.request.Request.{Request}
use Rattle.trading.specs.Books.{Venue}
use Rattle.trading.specs.Calls.{Check, first_fault, checks_of, effect_of}
use Rattle.trading.specs.Desks.{Desk, book_of, capacity, well_formed, refused, ruled, ruling}
use Rattle.trading.specs.Carried.{CountsFit}
use Rattle.trading.specs.Moves.{counted}

-- a call stands on well-formed tables and a report with room: what its work needs, and that only its own checks are left
pub record Standing (d : Desk) (room : ℕ) : Type 0 where
  pub formed : well_formed d ≡ true
  pub wide : capacity d + 1 ≤ room
  pub counts : CountsFit d
  pub few : counted d ≤ capacity d
  pub left : (v : Venue) (request : Request) → ruling v d room request ≡ ruled (first_fault (checks_of v (capacity d) (book_of d) request)) (effect_of v (book_of d) request)

-- every request is refused with this fault
abbrev pub RefusesAll : Desk → ℕ → BookFault → Type 0
RefusesAll d room f = (v : Venue) (request : Request) → ruling v d room request ≡ refused f

abbrev pub Ground : {U : Type 0} → Desk → ℕ → Result U BookFault → Type 0
Ground d room r = MatchResult r (λ _. Standing d room) (λ f. RefusesAll d room f)

-- what a function that makes checks answers: nothing where none holds, else the fault of the first that does
abbrev pub CheckedBy : {U : Type 0} → List Check → Result U BookFault → Type 0
CheckedBy cs r = MatchResult r (λ _. first_fault cs ≡ None) (λ f. first_fault cs ≡ Some f)
