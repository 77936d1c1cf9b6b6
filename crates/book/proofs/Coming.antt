-- Moves that have come about at the front of a report, as effects.
use Rattle.std.proofs.Common.{◌≡◌, ℕ, Bool, ◌+◌, ◌≤◌, List, length, None, Ok, sym, refl, ap, ◌∙◌, subst, zero-add, arith}
use Rattle.std.proofs.lemmas.List.Sorted.{IsPermutation-refl}
use Rattle.trading.specs.declared.answer.Answer.{Answer}
use Rattle.trading.specs.declared.report.ReportLine.{ReportLine}
use Rattle.trading.specs.declared.request.Request.{Request}
use Rattle.grid.specs.Neighbours.{Priced}
use Rattle.sessions.specs.Made.{Made}
use Rattle.trading.specs.Books.{Venue, Book, held, venue_of}
use Rattle.trading.specs.Sweeps.{moved, Moved, release_all, then_released}
use Rattle.trading.specs.Effects.{Effect, lines_of, plainly}
use Rattle.trading.specs.Calls.{first_fault, checks_of, effect_of}
use Rattle.trading.specs.Desks.{Desk, book_of, capacity}
use Rattle.trading.specs.Carried.{written, Took, Untouched}
use Rattle.trading.specs.Moves.{written_at, Beyond, Came}
use Rattle.lent.specs.Contents.{Page}
use Rattle.lent.specs.Moves.{Comes}
use Rattle.checks.specs.Ground.{Standing}
use Rattle.sessions.proofs.Balance.{balanced}
use Rattle.sweeping.proofs.Following.{held_counted, same_capacity, came_released}
use Rattle.book.specs.Opened.{wholly}
use Rattle.book.proofs.Calls.{made_taken}
use Rattle.std.proofs.lemmas.List.{append-nil}
use Rattle.trading.specs.declared.answer.Outcome.{Outcome}

written_front : (report ls : List ReportLine) → written_at report 0 ls ≡ written report ls
written_front report ls = rw zero-add

untouched_from : (d d' : Desk) → Beyond (capacity d) d d' → Untouched d d'
untouched_from d d' b = record { buys_length = b.buys_length; sells_length = b.sells_length; stops_length = b.stops_length; buys_beyond = b.buys; sells_beyond = b.sells; stops_beyond = b.stops }

-- the lines of an effect, the free ones in their own order, and its book have come about
pub came_took : (e : Effect) (d : Desk) (report : List ReportLine) (a : Answer) (d' : Desk) (report' : List ReportLine) (end : ℕ)
    → Came (capacity d) (wholly e) d report 0 d' report' end → length (lines_of e) ≤ length report
    → a ≡ record { outcome = e.outcome; lines = end; phase = d'.state.phase } → Took e d report a d' report'
came_took e d report a d' report' end c fit is =
    let place : end ≡ length (lines_of e) = c.place ∙ zero-add (length (lines_of e)) in
    record {
      answer = is ∙ (λ k. record { outcome = e.outcome; lines = place k; phase = (c.book k).phase });
      book = c.book;
      counts = c.counts;
      reported = record { lapses = e.lapses; some_order = IsPermutation-refl e.lapses; lines = c.lines ∙ written_front report (lines_of e); fit = omega arith };
      untouched = untouched_from d d' c.beyond;
    }

-- a page on a report of which nothing is written yet
pub record Fresh (report : List ReportLine) (p : Page) : Type 0 where
  pub lines : p.lines ≡ report
  pub written : p.written ≡ 0

-- what is told of a call that has come about
abbrev pub told : Outcome → Desk → Page → Answer
told outcome d p = record { outcome = outcome; lines = p.written; phase = d.state.phase }

from_front : (n : ℕ) (m : Moved) (d : Desk) (report : List ReportLine) (p : Page) (d' : Desk) (p' : Page) → Fresh report p → Comes n m d p d' p' → Came n m d report 0 d' p'.lines p'.written
from_front n m d report p d' p' fresh c =
    subst (λ k. Came n m d report k d' p'.lines p'.written) fresh.written (subst (λ r. Came n m d r p.written d' p'.lines p'.written) fresh.lines c)

-- what a request comes to where its checks let it pass
pub effect_took : (v : Venue) (request : Request) (d : Desk) (report : List ReportLine) (p : Page) (a : Answer) (d' : Desk) (p' : Page)
    → Standing d (length report) → Fresh report p → Comes (capacity d) (wholly (effect_of v (book_of d) request)) d p d' p'
    → a ≡ told (effect_of v (book_of d) request).outcome d' p' → Took (effect_of v (book_of d) request) d report a d' p'.lines
effect_took v request d report p a d' p' s fresh c is =
    came_took (effect_of v (book_of d) request) d report a d' p'.lines p'.written (from_front (capacity d) _ d report p d' p' fresh c) (omega (arith, (balanced v (book_of d) request).fits, held_counted d s.counts, s.few, s.wide)) is

-- the same move with its lines bracketed otherwise
pub came_as : (n : ℕ) (b : Book) (ls ms : List ReportLine) (d : Desk) (p : Page) (d' : Desk) (p' : Page) → ls ≡ ms
    → Comes n (moved b ls) d p d' p' → Comes n (moved b ms) d p d' p'
came_as n b ls ms d p d' p' e c = record { book = c.book; counts = c.counts; lines = c.lines ∙ ap (written_at p.lines p.written) e; place = c.place ∙ ap (λ l. p.written + length l) e; beyond = c.beyond }

-- a move has come about, and the release of stops after it
pub released_took : (v : Venue) (request : Request) (outcome : Outcome) (m : Moved) (d d' d'' : Desk) (report : List ReportLine) (p p' p'' : Page)
    → Standing d (length report) → Fresh report p → effect_of v (book_of d) request ≡ plainly outcome (then_released v m) → length m.lines ≤ length report
    → Comes (capacity d) m d p d' p' → Comes (capacity d') (release_all v (book_of d')) d' p' d'' p''
    → Took (effect_of v (book_of d) request) d report (told outcome d'' p'') d'' p''.lines
released_took v request outcome m d d' d'' report p p' p'' s fresh is room came released =
    let same = same_capacity (capacity d) d d' came.beyond in
    let whole = then_released v m in
    let all = came_released v (capacity d) m d d' d'' p.lines p'.lines p''.lines p.written p'.written p''.written (omega (arith, room, fresh.written, ap length fresh.lines)) came (subst (λ n. Comes n (release_all v (book_of d')) d' p' d'' p'') same released) in
    let size = ap (λ (e : Effect). length (lines_of e) + held e.book) is in
    let fit : length (lines_of (plainly outcome whole)) ≤ length report = omega (arith, size, (balanced v (book_of d) request).fits, held_counted d s.counts, s.few, s.wide) in
    subst (λ e. Took e d report (told outcome d'' p'') d'' p''.lines) (sym is)
    (came_took (plainly outcome whole) d report _ d'' p''.lines p''.written (from_front (capacity d) _ d report p d'' p'' fresh (came_as (capacity d) whole.book whole.lines _ d p d'' p'' (sym (append-nil whole.lines)) all)) fit refl)

-- a call that is taken answers what is told, and gives back the lines that were written
module _ (lawful : ℕ → Bool) (allows : ℕ → ℕ → ℕ → Bool) (priced : Priced lawful) (d : Desk) (request : Request) (report : List ReportLine) where
  pub made_told : Standing d (length report) → (outcome : Outcome) (d' : Desk) (p' : Page) (a : Answer) (report' : List ReportLine) → a ≡ told outcome d' p' → report' ≡ p'.lines
      → first_fault (checks_of (venue_of lawful allows) (capacity d) (book_of d) request) ≡ None → Took (effect_of (venue_of lawful allows) (book_of d) request) d report (told outcome d' p') d' p'.lines
      → Made lawful allows d request report (Ok a) d' report'
  made_told s outcome d' p' a report' is back e t =
      subst (λ x. Made lawful allows d request report (Ok x) d' report') (sym is)
      (subst (λ r. Made lawful allows d request report (Ok (told outcome d' p')) d' r) (sym back) (made_taken lawful allows priced d request report s _ d' p'.lines e t))
