-- What a call answers, by its checks and by what has come about.
use Rattle.std.proofs.Common.{◌≡◌, ℕ, Bool, ◌<◌, ◌≤◌, false, List, [], ◌∷◌, ◌++◌, length, set, Some, None, Ok, Err, sym, refl, ap, ◌∙◌, arith}
use Rattle.std.proofs.lemmas.List.{append-nil}
use Rattle.std.proofs.lemmas.List.Sorted.{IsPermutation-refl}
use Rattle.trading.specs.declared.answer.Answer.{Answer}
use Rattle.trading.specs.declared.answer.Outcome.{Outcome}
use Rattle.trading.specs.declared.fault.BookFault.{BookFault}
use Rattle.trading.specs.declared.report.ReportLine.{ReportLine}
use Rattle.trading.specs.declared.request.Request.{Request}
use Rattle.trading.specs.declared.state.Phase.{Phase}
use Rattle.trading.specs.declared.state.Phase.TheVariants.{Call as CallPhase, Continuous, Ended}
use Rattle.grid.specs.Neighbours.{Priced}
use Rattle.sessions.specs.Made.{Made}
use Rattle.sessions.proofs.Making.{made}
use Rattle.trading.specs.Books.{Venue, venue_of, is_call, is_ended, is_continuous}
use Rattle.trading.specs.Sweeps.{Moved}
use Rattle.trading.specs.Effects.{plainly}
use Rattle.trading.specs.Calls.{first_fault, checks_of, effect_of}
use Rattle.trading.specs.Desks.{Desk, book_of, capacity, ruled}
use Rattle.trading.specs.Carried.{written, CountsFit, Untouched, Took, Carried}
use Rattle.checks.specs.Ground.{Standing, RefusesAll}

-- ---- refused

pub refuses_all : (v : Venue) (d : Desk) (request : Request) (report : List ReportLine) (f : BookFault) → RefusesAll d (length report) f → Carried v d request report (Err f) d report
refuses_all v d request report f r = record { is = r v request; same_desk = refl; same_report = refl }

module _ (v : Venue) (d : Desk) (request : Request) (report : List ReportLine) (s : Standing d (length report)) where
  pub turned : (f : BookFault) → first_fault (checks_of v (capacity d) (book_of d) request) ≡ Some f → Carried v d request report (Err f) d report
  turned f e = record { is = s.left v request ∙ ap (λ o. ruled o (effect_of v (book_of d) request)) e; same_desk = refl; same_report = refl }

  -- ---- taken

  pub taken_by : (a : Answer) (d' : Desk) (report' : List ReportLine) → first_fault (checks_of v (capacity d) (book_of d) request) ≡ None → Took (effect_of v (book_of d) request) d report a d' report' → Carried v d request report (Ok a) d' report'
  taken_by a d' report' e t = record { effect = effect_of v (book_of d) request; is = s.left v request ∙ ap (λ o. ruled o (effect_of v (book_of d) request)) e; took = t }

-- ---- by the rules, and in every session

module _ (lawful : ℕ → Bool) (allows : ℕ → ℕ → ℕ → Bool) (priced : Priced lawful) (d : Desk) (request : Request) (report : List ReportLine) where
  pub made_refusing_all : (f : BookFault) → RefusesAll d (length report) f → Made lawful allows d request report (Err f) d report
  made_refusing_all f r = made lawful allows priced d request report (Err f) d report (refuses_all (venue_of lawful allows) d request report f r)

  pub made_turned : Standing d (length report) → (f : BookFault) → first_fault (checks_of (venue_of lawful allows) (capacity d) (book_of d) request) ≡ Some f → Made lawful allows d request report (Err f) d report
  made_turned s f e = made lawful allows priced d request report (Err f) d report (turned (venue_of lawful allows) d request report s f e)

  pub made_taken : Standing d (length report) → (a : Answer) (d' : Desk) (report' : List ReportLine) → first_fault (checks_of (venue_of lawful allows) (capacity d) (book_of d) request) ≡ None
      → Took (effect_of (venue_of lawful allows) (book_of d) request) d report a d' report' → Made lawful allows d request report (Ok a) d' report'
  made_taken s a d' report' e t = made lawful allows priced d request report (Ok a) d' report' (taken_by (venue_of lawful allows) d request report s a d' report' e t)

-- a move that has come about is an effect that has
pub plain_took : (outcome : Outcome) (m : Moved) (d : Desk) (report : List ReportLine) (a : Answer) (d' : Desk) (report' : List ReportLine)
    → a ≡ record { outcome = outcome; lines = length m.lines; phase = d'.state.phase } → book_of d' ≡ m.book → CountsFit d' → Untouched d d'
    → report' ≡ written report m.lines → length m.lines ≤ length report → Took (plainly outcome m) d report a d' report'
plain_took outcome m d report a d' report' is book counts untouched lines fit =
    let none : m.lines ++ [] ≡ m.lines = append-nil m.lines in
    record {
      answer = is ∙ (λ k. record { outcome = outcome; lines = length (sym none k); phase = (book k).phase });
      book = book;
      counts = counts;
      reported = record { lapses = []; some_order = IsPermutation-refl []; lines = lines ∙ ap (written report) (sym none); fit = omega (arith, ap length none) };
      untouched = untouched;
    }

-- one line at the front of a report
pub one_line : (report : List ReportLine) (line : ReportLine) → 0 < length report → set report 0 line ≡ written report (line ∷ [])
one_line [] line h = absurd (omega arith)
one_line (x ∷ xs) line h = refl

-- ---- phases

pub not_ended : (p : Phase) → (p ≡ Ended → ⊥) → is_ended p ≡ false
not_ended CallPhase n = refl
not_ended Continuous n = refl
not_ended Ended n = absurd (n refl)

pub not_continuous : (p : Phase) → (p ≡ Continuous → ⊥) → is_continuous p ≡ false
not_continuous CallPhase n = refl
not_continuous Continuous n = absurd (n refl)
not_continuous Ended n = refl

pub not_call : (p : Phase) → (p ≡ CallPhase → ⊥) → is_call p ≡ false
not_call CallPhase n = absurd (n refl)
not_call Continuous n = refl
not_call Ended n = refl
