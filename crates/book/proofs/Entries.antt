-- Which check refuses an entry.
use Rattle.std.proofs.Common.{◌≡◌, ℕ, subst, Bool, true, false, cond, not, ◌&&◌, leb, List, [], ◌∷◌, ◌++◌, Some, None, Option, is_some, refl, arith}
use Rattle.trading.specs.declared.ticket.Ticket.{Ticket}
use Rattle.trading.specs.declared.fault.BookFault.{BookFault}
use Rattle.trading.specs.declared.fault.BookFault.TheVariants.{NumberLive, NoFirstTrade, BookFull}
use Rattle.trading.specs.Books.{Venue, Book, held, is_ioc, venue_of}
use Rattle.trading.specs.Sweeps.{swept_by, reached}
use Rattle.trading.specs.Calls.{Check, first_fault, place, nowhere, is_stop, stop_of, order_of, is_empty, is_somewhere, enter_checks}
use Rattle.book.specs.declared.finding.Spot.{Spot}
use Rattle.book.specs.Finding.{FoundBy}
use Rattle.trading.specs.Desks.{Desk, book_of, capacity}
use Rattle.book.specs.Entering.{queue_checks}
use Rattle.book.proofs.Cancels.{somewhere}
use Rattle.checks.specs.Brought.{ticket_checks}

-- ---- checks, and more checks

pub fault_first : (cs ds : List Check) (f : BookFault) → first_fault cs ≡ Some f → first_fault (cs ++ ds) ≡ Some f
fault_first [] ds f e = absurd (let z : ◌≡◌ {A = ℕ} 0 1 = cc in omega arith)
fault_first (c ∷ cs) ds f e = by_check c.holds (fault_first cs ds f) e
  where
    by_check : (holds : Bool) → (first_fault cs ≡ Some f → first_fault (cs ++ ds) ≡ Some f) → cond holds (Some c.fault) (first_fault cs) ≡ Some f → cond holds (Some c.fault) (first_fault (cs ++ ds)) ≡ Some f
    by_check true later e = e
    by_check false later e = later e

pub fault_later : (cs ds : List Check) → first_fault cs ≡ None → first_fault (cs ++ ds) ≡ first_fault ds
fault_later [] ds e = refl
fault_later (c ∷ cs) ds e = by_check c.holds (fault_later cs ds) e
  where
    by_check : (holds : Bool) → (first_fault cs ≡ None → first_fault (cs ++ ds) ≡ first_fault ds) → cond holds (Some c.fault) (first_fault cs) ≡ None → cond holds (Some c.fault) (first_fault (cs ++ ds)) ≡ first_fault ds
    by_check true later e = absurd (let z : ◌≡◌ {A = ℕ} 0 1 = cc in omega arith)
    by_check false later e = later e

-- ---- the checks that look at the queues

-- an order that has to trade at once, by whether it would
pub lacking : (ioc trades none : Bool) → ioc ≡ true → trades ≡ not none → not trades ≡ ioc && none
lacking ioc trades true i e = rw (i, e)
lacking ioc trades false i e = rw (i, e)

-- a number that is found is somewhere, one that is not is nowhere
pub found_some : (n : ℕ) (b : Book) (r : Option Spot) → FoundBy n b r → is_some r ≡ true → is_somewhere (place n b) ≡ true
found_some n b None f e = absurd (let z : ◌≡◌ {A = ℕ} 0 1 = cc in omega arith)
found_some n b (Some spot) f e = somewhere n b spot f

pub found_none : (n : ℕ) (b : Book) (r : Option Spot) → FoundBy n b r → is_some r ≡ false → place n b ≡ nowhere
found_none n b None f e = f
found_none n b (Some spot) f e = absurd (let z : ◌≡◌ {A = ℕ} 0 1 = cc in omega arith)

module _ (v : Venue) (n : ℕ) (t : Ticket) (b : Book) where
  pub no_entry_live : is_somewhere (place t.number b) ≡ true → first_fault (queue_checks v n t b) ≡ Some NumberLive
  no_entry_live h = rw h

  pub no_first_trade : place t.number b ≡ nowhere → leb n (held b) ≡ false → is_stop t.kind && reached b.last (stop_of t) ≡ false
      → is_ioc t.validity && is_empty (swept_by v (order_of t) b).trades ≡ true → first_fault (queue_checks v n t b) ≡ Some NoFirstTrade
  no_first_trade e room unreached lacks = rw (e, room, unreached, lacks)

  pub may_enter : place t.number b ≡ nowhere → leb n (held b) ≡ false → is_stop t.kind && reached b.last (stop_of t) ≡ false
      → is_ioc t.validity && is_empty (swept_by v (order_of t) b).trades ≡ false → first_fault (queue_checks v n t b) ≡ None
  may_enter e room unreached lacks = rw (e, room, unreached, lacks)

  -- where nothing refuses there is room
  pub room_left : first_fault (queue_checks v n t b) ≡ None → leb n (held b) ≡ false
  room_left e = by_checks (is_somewhere (place t.number b)) (leb n (held b)) _ e
    where
      by_checks : (live full : Bool) (later : Option BookFault) → cond live (Some NumberLive) (cond full (Some BookFull) later) ≡ None → full ≡ false
      by_checks true full later e = absurd (let z : ◌≡◌ {A = ℕ} 0 1 = cc in omega arith)
      by_checks false true later e = absurd (let z : ◌≡◌ {A = ℕ} 0 1 = cc in omega arith)
      by_checks false false later e = refl

-- ---- all checks

module _ (lawful : ℕ → Bool) (allows : ℕ → ℕ → ℕ → Bool) (n : ℕ) (t : Ticket) (b : Book) where
  abbrev all : Option BookFault
  all = first_fault (enter_checks (venue_of lawful allows) n t b)

  pub ticket_refused : (f : BookFault) → first_fault (ticket_checks lawful b.phase t) ≡ Some f → all ≡ Some f
  ticket_refused f e = fault_first (ticket_checks lawful b.phase t) (queue_checks (venue_of lawful allows) n t b) f e

  pub ticket_passed : first_fault (ticket_checks lawful b.phase t) ≡ None → all ≡ first_fault (queue_checks (venue_of lawful allows) n t b)
  ticket_passed e = fault_later (ticket_checks lawful b.phase t) (queue_checks (venue_of lawful allows) n t b) e

-- the checks of the queues of the book that is seen on a desk are those of the desk's
pub queues_seen : (v : Venue) (d : Desk) (t : Ticket) (n : ℕ) (b : Book) (r : Option BookFault) → n ≡ capacity d → b ≡ book_of d → first_fault (queue_checks v n t b) ≡ r → first_fault (queue_checks v (capacity d) t (book_of d)) ≡ r
queues_seen v d t n b r e f g = subst (λ n. first_fault (queue_checks v n t (book_of d)) ≡ r) e (subst (λ b. first_fault (queue_checks v n t b) ≡ r) f g)
