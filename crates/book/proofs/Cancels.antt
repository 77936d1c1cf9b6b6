-- Cancelling: which check refuses, and what comes about.
use Rattle.std.proofs.Common.{◌≡◌, ℕ, ◌<◌, true, false, List, [], ◌∷◌, length, set, Some, None, refl, ap, ◌∙◌, arith}
use Rattle.trading.specs.declared.answer.Outcome.TheVariants.{Accepted}
use Rattle.trading.specs.declared.fault.BookFault.TheVariants.{WrongPhase, NumberOutOfRange, NumberNotLive}
use Rattle.trading.specs.declared.report.ReportLine.{ReportLine}
use Rattle.trading.specs.declared.report.ReportLine.TheVariants.{Lapse}
use Rattle.trading.specs.Books.{Book, is_ended, blank_order, blank_stop}
use Rattle.trading.specs.Ranges.{is_number}
use Rattle.trading.specs.Sweeps.{moved}
use Rattle.trading.specs.Calls.{first_fault, cancel_checks, cancel_effect, place, nowhere, is_somewhere, taken_out, quantity_at}
use Rattle.trading.specs.Desks.{Desk, book_of}
use Rattle.trading.specs.Carried.{Took, written}
use Rattle.book.specs.declared.finding.Spot.{Spot}
use Rattle.book.specs.declared.finding.Spot.TheVariants.{Buys, Sells, Stops}
use Rattle.book.specs.Finding.{AtSpot}
use Rattle.book.specs.Out.{Out}
use Rattle.book.proofs.Calls.{plain_took, one_line}

module _ (n : ℕ) (b : Book) where
  pub no_cancel_ended : is_ended b.phase ≡ true → first_fault (cancel_checks n b) ≡ Some WrongPhase
  no_cancel_ended e = rw e

  pub no_cancel_number : is_ended b.phase ≡ false → is_number n ≡ false → first_fault (cancel_checks n b) ≡ Some NumberOutOfRange
  no_cancel_number e f = rw (e, f)

  pub no_cancel_live : is_ended b.phase ≡ false → is_number n ≡ true → place n b ≡ nowhere → first_fault (cancel_checks n b) ≡ Some NumberNotLive
  no_cancel_live e f p = rw (e, f, p)

  pub somewhere : (spot : Spot) → AtSpot n b spot → is_somewhere (place n b) ≡ true
  somewhere (Buys i) at = ap is_somewhere (at.1 blank_order)
  somewhere (Sells i) at = ap is_somewhere (at.1 blank_order)
  somewhere (Stops i) at = ap is_somewhere (at.1 blank_stop)

  pub may_cancel : is_ended b.phase ≡ false → is_number n ≡ true → (spot : Spot) → AtSpot n b spot → first_fault (cancel_checks n b) ≡ None
  may_cancel e f spot at = let h = somewhere spot at in rw (e, f, h)

pub cancelled : (d d' : Desk) (n q : ℕ) (report : List ReportLine) → Out d n q d' → 0 < length report
    → Took (cancel_effect n (book_of d)) d report (record { outcome = Accepted; lines = 1; phase = d'.state.phase }) d' (set report 0 (Lapse n q))
unfolding cancel_effect
cancelled d d' n q report o r =
    let at = place n (book_of d) in
    plain_took Accepted (moved (taken_out n (book_of d) at) (Lapse n (quantity_at at) ∷ [])) d report _ d' _ refl o.book o.counts o.untouched
    (one_line report (Lapse n q) r ∙ ap (λ x. written report (Lapse n x ∷ [])) o.quantity) (omega arith)
