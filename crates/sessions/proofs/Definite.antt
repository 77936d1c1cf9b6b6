-- The rules check in one order, and leave exactly one answer to each call.
use Rattle.std.proofs.Common.{◌≡◌, ℕ, ◌+◌, ◌≤◌, false, not, leb, List, [], ◌∷◌, ◌++◌, length, take, drop, Some, None, Ok, Err, Option, Result, sym, refl, ap, ◌∙◌, subst, arith}
use Rattle.std.specs.List.{AllByRecursion}
use Rattle.std.proofs.lemmas.Bool.{leb-true, leb-false, ltb-false, and_parts, not-false}
use Rattle.trading.specs.declared.fault.BookFault.{BookFault}
use Rattle.trading.specs.declared.report.ReportLine.{ReportLine}
use Rattle.trading.specs.declared.request.Request.{Request}
use Rattle.trading.specs.Books.{Venue, Book, held}
use Rattle.trading.specs.Effects.{Effect, lines_of, answer_of}
use Rattle.trading.specs.Calls.{Check, first_fault, effect_of}
use Rattle.trading.specs.declared.request.Request.TheVariants.{Enter, Amend, Cancel, Call, Uncross, End}
use Rattle.sessions.specs.Orderly.{IsLapse, ChecksInOrder, SameButForOrder, reorders, Same, OneAnswer, SomeAnswer}
use Rattle.sessions.proofs.Lapsing.{free_lines, no_free_lines}
use Rattle.sessions.proofs.Balance.{new_records, balanced}
use Rattle.sessions.proofs.Finding.{Pass, none_holds, ruled_taken}
use Rattle.trading.specs.Desks.{Desk, desk_of, book_of, capacity, counts_fit, queues_fit, well_formed, Ruling, refused, taken, ruled, all_checks}
use Rattle.trading.specs.Carried.{written, Reported, CountsFit, Untouched, Took, Carried}
use Rattle.trading.specs.Moves.{Beyond}
use Rattle.std.specs.List.Sorted.{IsPermutation}
use Rattle.std.proofs.lemmas.List.{append_assoc, length-append, length-take, length-drop, length-take-le, take_at}
use Rattle.std.proofs.lemmas.Slice.{drop-append-drop}
use Rattle.std.proofs.lemmas.List.Sorted.{IsPermutation-refl, IsPermutation-sym, IsPermutation-trans, length_permutation}
use Rattle.std.proofs.ByRecursion.{all_shuffled}
use Rattle.trading.specs.declared.state.State.{State}
use Rattle.trading.specs.declared.answer.Answer.{Answer}

pub checks_in_order : ChecksInOrder
checks_in_order v d room (Enter t) = refl
checks_in_order v d room (Amend n limit q) = refl
checks_in_order v d room (Cancel n) = refl
checks_in_order v d room Call = refl
checks_in_order v d room (Uncross next) = refl
checks_in_order v d room End = refl

-- ---- one answer

-- the state that a book tells: its phase, its prices, and how long its queues are
abbrev state_of : Book → State
state_of b = record { phase = b.phase; buys = length b.buys; sells = length b.sells; stops = length b.stops; static_price = b.static; last = b.last }

-- where the counts fit, the book tells the state
state_told : (d : Desk) → CountsFit d → d.state ≡ state_of (book_of d)
state_told d c =
    let buys = sym (length-take-le d.state.buys d.buys c.buys) in
    let sells = sym (length-take-le d.state.sells d.sells c.sells) in
    let stops = sym (length-take-le d.state.stops d.stops c.stops) in
    λ k. record { phase = d.state.phase; buys = buys k; sells = sells k; stops = stops k; static_price = d.state.static_price; last = d.state.last }

-- lines in three parts, and what is left of the report behind them; n is how many there are
in_parts : (report front mid later : List ReportLine) (n : ℕ) → length (front ++ (mid ++ later)) ≡ n → written report (front ++ (mid ++ later)) ≡ front ++ (mid ++ (later ++ drop n report))
in_parts report front mid later n e =
    ap (λ k. (front ++ (mid ++ later)) ++ drop k report) e ∙ append_assoc front (mid ++ later) (drop n report) ∙ ap (λ l. front ++ l) (append_assoc mid later (drop n report))

-- lapse lines in two orders are as many, so that the same lines of the old report stay behind them
same_reports : (e : Effect) (report report' report'' : List ReportLine) → AllByRecursion IsLapse e.lapses → Reported e report report' → Reported e report report'' → SameButForOrder report' report''
same_reports e report report' report'' only a b =
    let n = length (lines_of e) in
    let long : (ls : List ReportLine) → IsPermutation e.lapses ls → length (e.before ++ (ls ++ e.later)) ≡ n = λ ls s.
    omega (arith, length_permutation e.lapses ls s, length-append e.before (ls ++ e.later), length-append ls e.later, length-append e.before (e.lapses ++ e.later), length-append e.lapses e.later) in
    record {
      front = e.before;
      first = a.lapses;
      second = b.lapses;
      back = e.later ++ drop n report;
      is_first = a.lines ∙ in_parts report e.before a.lapses e.later n (long a.lapses a.some_order);
      is_second = b.lines ∙ in_parts report e.before b.lapses e.later n (long b.lapses b.some_order);
      lapse_lines = all_shuffled IsLapse e.lapses a.lapses a.some_order only;
      shuffled = IsPermutation-trans a.lapses e.lapses b.lapses (IsPermutation-sym e.lapses a.lapses a.some_order) b.some_order;
    }

-- an order of no lines has none
none_shuffled : (xs ls : List ReportLine) → xs ≡ [] → IsPermutation xs ls → ls ≡ []
none_shuffled xs [] e s = refl
none_shuffled xs (l ∷ ls) e s = absurd (omega (arith, length_permutation xs (l ∷ ls) s, ap length e))

-- where there are no lapse lines, nothing is left free
exact_reports : (e : Effect) (report report' report'' : List ReportLine) → e.lapses ≡ [] → Reported e report report' → Reported e report report'' → report' ≡ report''
exact_reports e report report' report'' none a b =
    let same : a.lapses ≡ b.lapses = none_shuffled e.lapses a.lapses none a.some_order ∙ sym (none_shuffled e.lapses b.lapses none b.some_order) in
    a.lines ∙ ap (λ ls. written report (e.before ++ (ls ++ e.later))) same ∙ sym b.lines

both_untouched : (d d' d'' : Desk) → Untouched d d' → Untouched d d'' → Beyond (capacity d) d' d''
both_untouched d d' d'' t u = record {
  buys_length = u.buys_length ∙ sym t.buys_length;
  sells_length = u.sells_length ∙ sym t.sells_length;
  stops_length = u.stops_length ∙ sym t.stops_length;
  buys = u.buys_beyond ∙ sym t.buys_beyond;
  sells = u.sells_beyond ∙ sym t.sells_beyond;
  stops = u.stops_beyond ∙ sym t.stops_beyond;
}

same_beyond : (n : ℕ) (d e : Desk) → d ≡ e → Beyond n d e
same_beyond n d e h = subst (Beyond n d) h (record { buys_length = refl; sells_length = refl; stops_length = refl; buys = refl; sells = refl; stops = refl })

both_took : (e : Effect) (d : Desk) (request : Request) (report : List ReportLine) (a b : Answer) (d' d'' : Desk) (report' report'' : List ReportLine)
    → AllByRecursion IsLapse e.lapses → (reorders request ≡ false → e.lapses ≡ []) → Took e d report a d' report' → Took e d report b d'' report''
    → Same d request (Ok a) (Ok b) d' d'' report' report''
both_took e d request report a b d' d'' report' report'' only none t u =
    let queues : book_of d' ≡ book_of d'' = t.book ∙ sym u.book in
    record {
      answer = ap Ok (t.answer ∙ sym u.answer);
      state = state_told d' t.counts ∙ ap state_of queues ∙ sym (state_told d'' u.counts);
      queues = queues;
      beyond = both_untouched d d' d'' t.untouched u.untouched;
      reports = same_reports e report report' report'' only t.reported u.reported;
      exact = λ h. exact_reports e report report' report'' (none h) t.reported u.reported;
    }

-- a ruling refuses with one fault
fault_told : (by-rule : Ruling) (f f' : BookFault) → by-rule ≡ refused f → by-rule ≡ refused f' → f ≡ f'
fault_told by-rule f f' p q = cc

never_both : (by-rule : Ruling) (e : Effect) (f : BookFault) → by-rule ≡ taken e → by-rule ≡ refused f → ⊥
never_both by-rule e f p q = let z : ◌≡◌ {A = ℕ} 0 1 = cc in omega arith

pub one_answer : OneAnswer
one_answer v d request report (Ok a) (Ok b) d' d'' report' report'' t u =
    let e = effect_of v (book_of d) request in
    let first = (ruled_taken (first_fault (all_checks v d (length report) request)) e t.effect t.is).1 in
    let second = (ruled_taken (first_fault (all_checks v d (length report) request)) e u.effect u.is).1 in
    both_took e d request report a b d' d'' report' report'' (free_lines IsLapse (λ n q. tt) v (book_of d) request) (no_free_lines v (book_of d) request) (subst (λ e. Took e d report a d' report') (sym first) t.took) (subst (λ e. Took e d report b d'' report'') (sym second) u.took)
one_answer v d request report (Ok a) (Err g) d' d'' report' report'' t u = absurd (never_both _ t.effect g t.is u.is)
one_answer v d request report (Err f) (Ok b) d' d'' report' report'' t u = absurd (never_both _ u.effect f u.is t.is)
one_answer v d request report (Err f) (Err g) d' d'' report' report'' t u =
    let desks : d' ≡ d'' = t.same_desk ∙ sym u.same_desk in
    record {
      answer = ap Err (fault_told _ f g t.is u.is);
      state = ap (λ (d : Desk). d.state) desks;
      queues = ap book_of desks;
      beyond = same_beyond (capacity d) d' d'' desks;
      reports = record { front = []; first = []; second = []; back = report; is_first = t.same_report; is_second = u.same_report; lapse_lines = tt; shuffled = IsPermutation-refl [] };
      exact = λ _. t.same_report ∙ sym u.same_report;
    }

-- ---- some answer

-- well-formed tables hold no more than the capacity
pub held_fits : (d : Desk) → not (well_formed d) ≡ false → held (book_of d) ≤ capacity d
held_fits d w =
    let fits = (and_parts (counts_fit d) (queues_fit (book_of d)) (not-false (well_formed d) w)).0 in
    let after-buys = (and_parts (leb d.state.buys (length d.buys)) _ fits).1 in
    let after-sells = (and_parts (leb d.state.sells (length d.sells)) _ after-buys).1 in
    let sum = (and_parts (leb d.state.stops (length d.stops)) _ after-sells).1 in
    let sum_fits = leb-true (d.state.buys + d.state.sells + d.state.stops) (capacity d) sum in
    omega (arith, length-take d.state.buys d.buys, length-take d.state.sells d.sells, length-take d.state.stops d.stops)

-- what a request may add fits too: of the checks on entering, the eighth asks whether the book is full
pub still_fits : (v : Venue) (d : Desk) (room : ℕ) (request : Request) → Pass (all_checks v d room request) → new_records request + held (book_of d) ≤ capacity d
still_fits v d room (Enter t) h = let full = h.1.1.1.1.1.1.1.1.1.0 in omega (arith, leb-false (capacity d) (held (book_of d)) full)
still_fits v d room (Amend n limit q) h = omega (arith, held_fits d h.1.0)
still_fits v d room (Cancel n) h = omega (arith, held_fits d h.1.0)
still_fits v d room Call h = omega (arith, held_fits d h.1.0)
still_fits v d room (Uncross next) h = omega (arith, held_fits d h.1.0)
still_fits v d room End h = omega (arith, held_fits d h.1.0)

-- a queue laid over the front of a table
abbrev laid : {X : Type 0} → List X → List X → List X
laid table queue = queue ++ drop (length queue) table

laid_front : {X : Type 0} (table queue : List X) → take (length queue) (laid table queue) ≡ queue
laid_front table queue = take_at queue (drop (length queue) table) (length queue) refl

laid_length : {X : Type 0} (table queue : List X) → length queue ≤ length table → length (laid table queue) ≡ length table
laid_length table queue h = omega (arith, length-append queue (drop (length queue) table), length-drop (length queue) table)

laid_beyond : {X : Type 0} (table queue : List X) (n : ℕ) → length queue ≤ n → drop n (laid table queue) ≡ drop n table
laid_beyond table queue n h = drop-append-drop (length queue) table queue n h refl

-- a book laid over the front of the tables
abbrev relaid : Desk → Book → Desk
relaid d b = desk_of (state_of b) (laid d.buys b.buys) (laid d.sells b.sells) (laid d.stops b.stops)

-- an effect whose book fits can come about
can_take : (e : Effect) (d : Desk) (report : List ReportLine) → held e.book ≤ capacity d → length (lines_of e) ≤ length report → Took e d report (answer_of e) (relaid d e.book) (written report (lines_of e))
can_take e d report h fit =
    let b = e.book in
    let buys = laid_length d.buys b.buys (omega arith) in
    let sells = laid_length d.sells b.sells (omega arith) in
    let stops = laid_length d.stops b.stops (omega arith) in
    record {
      answer = refl;
      book = λ k. record {
        phase = b.phase;
        static = b.static;
        last = b.last;
        buys = laid_front d.buys b.buys k;
        sells = laid_front d.sells b.sells k;
        stops = laid_front d.stops b.stops k;
      };
      counts = record { buys = omega arith; sells = omega arith; stops = omega arith };
      reported = record { lapses = e.lapses; some_order = IsPermutation-refl e.lapses; lines = refl; fit = fit };
      untouched = record {
        buys_length = buys;
        sells_length = sells;
        stops_length = stops;
        buys_beyond = laid_beyond d.buys b.buys (capacity d) (omega arith);
        sells_beyond = laid_beyond d.sells b.sells (capacity d) (omega arith);
        stops_beyond = laid_beyond d.stops b.stops (capacity d) (omega arith);
      };
    }

pub some_answer : SomeAnswer
some_answer v d request report = by_fault (first_fault checks) refl
  where
    checks : List Check
    checks = all_checks v d (length report) request

    e : Effect
    e = effect_of v (book_of d) request

    by_fault : (o : Option BookFault) → first_fault checks ≡ o → (r : Result Answer BookFault) × (d' : Desk) × (report' : List ReportLine) × Carried v d request report r d' report'
    by_fault (Some f) is = (Err f, d, report, record { is = ap (λ o. ruled o e) is; same_desk = refl; same_report = refl })
    by_fault None is =
        let pass = none_holds checks is in
        let room = still_fits v d (length report) request pass in
        let lines = ltb-false (length report) (capacity d + 1) pass.0 in
        let balance = balanced v (book_of d) request in
        let records : held e.book ≤ capacity d = omega (arith, balance.grows) in
        let fit : length (lines_of e) ≤ length report = omega (arith, balance.fits, held_fits d pass.1.0) in
        (Ok (answer_of e), relaid d e.book, written report (lines_of e), record { effect = e; is = ap (λ o. ruled o e) is; took = can_take e d report records fit })
