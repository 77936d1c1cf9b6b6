-- One release after another, in memory.
use Rattle.std.proofs.Common.{◌≡◌, ℕ, zero, suc, ◌+◌, ◌-◌, ◌<◌, ◌≤◌, Bool, true, List, [], length, get_or, take, drop, Some, None, sym, refl, ap, ◌∙◌, subst, arith}
use Rattle.std.specs.List.{remove}
use Rattle.std.proofs.lemmas.List.{length-take-le, get_or-take}
use Rattle.rules.specs.declared.order.Order.{Order}
use Rattle.rules.specs.Candidates.{Grid}
use Rattle.trading.specs.declared.state.State.{State}
use Rattle.trading.specs.declared.stop.StopOrder.{StopOrder}
use Rattle.trading.specs.Queues.{first_that}
use Rattle.trading.specs.Books.{Venue, Book, held, is_continuous, with_stops}
use Rattle.trading.specs.Sweeps.{Moved, moved, after, sweeps, reached, as_day_order, only_if, due_stop, without_due, freed, release, release_all}
use Rattle.trading.specs.Desks.{Desk, desk_of, book_of}
use Rattle.trading.specs.Carried.{CountsFit}
use Rattle.trading.specs.Moves.{Ready, Beyond}
use Rattle.lent.specs.Contents.{Page}
use Rattle.lent.specs.Moves.{Comes}
use Rattle.sessions.proofs.Releasing.{sweeps_stops}
use Rattle.sessions.proofs.Finding.{left_shorter}
use Rattle.queue.specs.Places.{FirstAt}
use Rattle.sweeping.specs.Beside.{venue, Moves}
use Rattle.sweeping.specs.Releases.{blank_stop, ReleasedAt}
use Rattle.lent.proofs.Behind.{past_later}
use Rattle.sweeping.proofs.Following.{came_own, beyond_after, came_none, came_released, ready_fits, ready_later, lines_fit, sweeps_fit}

-- ---- a stop leaves, and sweeps

abbrev pub stop_gone : ℕ → State → State
stop_gone n s = record { phase = s.phase; buys = s.buys; sells = s.sells; stops = n; static_price = s.static_price; last = s.last }

pub left_swept : (allows : ℕ → ℕ → ℕ → Bool) (i : ℕ) (d d' : Desk) (stops' : List StopOrder) (p p' : Page) (o : Order)
    → i < d.state.stops → length stops' ≡ length d.stops → o ≡ as_day_order (get_or d.stops i blank_stop)
    → take (d.state.stops - 1) stops' ≡ remove (take d.state.stops d.stops) i → drop d.state.stops stops' ≡ drop d.state.stops d.stops
    → ((g : Grid) → Moves (sweeps (venue g allows) o) (desk_of (stop_gone (d.state.stops - 1) d.state) d.buys d.sells stops') p d' p')
    → ReleasedAt allows i d p d' p'
left_swept allows i d d' stops' p p' o held long is queue beyond swept = record {
  came = λ g n room from ready.
      let d₁ = desk_of (stop_gone (d.state.stops - 1) d.state) d.buys d.sells stops' in
      let ready₁ : Ready n d₁ room from 1 = record {
        buys = ready.buys;
        sells = ready.sells;
        stops = omega (arith, ready.stops);
        records = omega (arith, ready.records);
        lines = omega (arith, ready.lines);
      } in
      let gone : Beyond n d d₁ = record { buys_length = refl; sells_length = refl; stops_length = long; buys = refl; sells = refl; stops = past_later stops' d.stops d.state.stops n (omega (arith, ready.records)) beyond } in
      let order : o ≡ as_day_order (get_or (book_of d).stops i blank_stop) = is ∙ ap as_day_order (sym (get_or-take d.state.stops d.stops i blank_stop held)) in
      let c = subst (λ o. Comes n (sweeps (venue g allows) o (book_of d₁)) d₁ p d' p') order (came_own (swept g) n room from ready₁) in
      let same : book_of d₁ ≡ with_stops (remove (book_of d).stops i) (book_of d) = ap (λ ss. with_stops ss (book_of d)) queue in
      subst (λ b. Comes n (sweeps (venue g allows) (as_day_order (get_or (book_of d).stops i blank_stop)) b) d p d' p') same (record {
        book = c.book;
        counts = c.counts;
        lines = c.lines;
        place = c.place;
        beyond = beyond_after n d d₁ d' gone c.beyond;
      });
}

-- ---- turns

-- a sweep does not look at the grid, so that any will do
abbrev pub some_grid : Grid
some_grid = record { lawful = λ _. true; top = 0 }

-- no stop is due: nothing is left to do
none_due : (v : Venue) (k : ℕ) (b : Book) → due_stop b ≡ None → release v k b ≡ moved b []
unfolding release
none_due v zero b e = refl
none_due v (suc k) b e = ap (freed v (release v k) b) e

pub came_to_rest : (v : Venue) (n : ℕ) (d : Desk) (p : Page) → CountsFit d → due_stop (book_of d) ≡ None → Comes n (release_all v (book_of d)) d p d p
came_to_rest v n d p fit e = subst (λ m. Comes n m d p d p) (sym (none_due v (length (book_of d).stops) (book_of d) e)) (came_none n d p.lines p.written fit)

-- a stop is due: it is released, and then all others
one_due : (v : Venue) (k : ℕ) (b : Book) (s : StopOrder) → due_stop b ≡ Some s → release v (suc k) b ≡ after (sweeps v (as_day_order s) (without_due b)).lines (release v k (sweeps v (as_day_order s) (without_due b)).book)
unfolding release
one_due v k b s e = ap (freed v (release v k) b) e

module _ (g : Grid) (allows : ℕ → ℕ → ℕ → Bool) (n : ℕ) (d d' : Desk) (p p' : Page) (i : ℕ)
    (ready : Ready n d (length p.lines) p.written 0) (phase : is_continuous d.state.phase ≡ true) (first : FirstAt (reached d.state.last) (book_of d).stops i)
    (came : ReleasedAt allows i d p d' p') where
  abbrev b : Book
  b = book_of d

  abbrev s : StopOrder
  s = get_or b.stops i blank_stop

  abbrev m : Moved
  m = sweeps (venue g allows) (as_day_order s) (without_due b)

  due : due_stop b ≡ Some s
  due = ap (λ c. only_if c (first_that (reached b.last) b.stops)) phase ∙ first.found blank_stop

  step : Comes n m d p d' p'
  step = subst (λ x. Comes n (sweeps (venue g allows) (as_day_order s) x) d p d' p') (sym (ap (λ ss. with_stops ss b) first.without)) (came.came g n (length p.lines) p.written ready)

  shorter : suc (length m.book.stops) ≡ length b.stops
  shorter = ap (λ xs. suc (length xs)) (sweeps_stops (venue g allows) (as_day_order s) (without_due b)) ∙ left_shorter (reached b.last) b.stops s (first.found blank_stop)

  -- lines and records have not grown
  fits : length m.lines + held m.book ≤ 0 + held b
  fits = omega (arith, sweeps_fit (venue g allows) (as_day_order s) (without_due b), left_shorter (reached b.last) b.stops s (first.found blank_stop))

  pub ready_again : length p'.lines ≡ length p.lines → Ready n d' (length p'.lines) p'.written 0
  ready_again long = subst (λ k. Ready n d' k p'.written 0) (sym long) (ready_later n m d d' p.lines p'.lines p.written p'.written (length p.lines) 0 fits ready step)

  pub stops_fall : d'.state.stops < d.state.stops
  stops_fall =
      let fit = ready_fits n d (length p.lines) p.written 0 ready in
      omega (arith, shorter, ap (λ x. length x.stops) step.book, length-take-le d.state.stops d.stops fit.stops, length-take-le d'.state.stops d'.stops step.counts.stops)

  pub came_on : (d'' : Desk) (p'' : Page) → Comes n (release_all (venue g allows) (book_of d')) d' p' d'' p'' → Comes n (release_all (venue g allows) b) d p d'' p''
  came_on d'' p'' later =
      let v = venue g allows in
      let is : release_all v b ≡ after m.lines (release_all v m.book) = ap (λ k. release v k b) (sym shorter) ∙ one_due v (length m.book.stops) b s due in
      let room = lines_fit n m d (length p.lines) p.written 0 fits ready in
      subst (λ x. Comes n x d p d'' p'') (sym is) (came_released v n m d d' d'' p.lines p'.lines p''.lines p.written p'.written p''.written room step later)
