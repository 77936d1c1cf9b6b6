-- What each call keeps: no quantity is lost, and lines and records grow by one at the most.
use Rattle.std.proofs.Common.{◌≡◌, ℕ, zero, suc, ◌+◌, ◌-◌, ◌≤◌, min, Bool, true, false, not, ◌&&◌, eqb, List, [], ◌∷◌, ◌++◌, length, Some, None, filter, Option, sym, refl, ap, arith}
use Rattle.std.proofs.lemmas.Bool.{cond_both, eqb-true}
use Rattle.rules.specs.declared.order.Order.{Order}
use Rattle.rules.specs.declared.order.Side.{Side}
use Rattle.rules.specs.declared.order.Side.TheVariants.{Buy, Sell}
use Rattle.rules.specs.declared.opening.Opening.{Opening}
use Rattle.rules.specs.declared.opening.Opening.TheVariants.{NoPrice, Printed, RefusedByCollar}
use Rattle.rules.specs.Auctions.{total}
use Rattle.trading.specs.declared.stop.StopOrder.{StopOrder}
use Rattle.trading.specs.declared.ticket.Ticket.{Ticket}
use Rattle.trading.specs.declared.answer.Outcome.{Outcome}
use Rattle.trading.specs.declared.answer.Outcome.TheVariants.{Accepted, PriorityKept, PriorityLost}
use Rattle.trading.specs.declared.report.ReportLine.{ReportLine}
use Rattle.trading.specs.declared.report.ReportLine.TheVariants.{Trade, Lapse}
use Rattle.trading.specs.declared.request.Next.{Next}
use Rattle.trading.specs.declared.request.Next.TheVariants.{Trading, Close}
use Rattle.trading.specs.declared.request.Request.{Request}
use Rattle.trading.specs.Queues.{joined, first_that, order_ahead, stop_ahead}
use Rattle.trading.specs.Books.{Venue, Book, held, auction_of, is_continuous, is_day, is_vfu, with_last, own_queue, opposite, with_own_queue, with_opposite, with_open, reduced}
use Rattle.trading.specs.declared.sweep.Ending.{Ending}
use Rattle.trading.specs.declared.sweep.Ending.TheVariants.{Filled, Nobody, Collared}
use Rattle.trading.specs.Sweeps.{Swept, trade_of, sweep, swept_by, Moved, moved, after, join, settled, sweeps, reached, as_day_order, due_stop, without_due, freed, release, release_all, then_released}
use Rattle.trading.specs.Effects.{Effect, lines_of, plainly}
use Rattle.trading.specs.Uncrossings.{Paired, pairs, lapse_of, stop_lapse, lapses_by, lapsing, lasting, vfu_lapses, without_vfu, all_lapses, emptied, going_on, printed_at, uncrossed_as, uncrossed}
use Rattle.trading.specs.Calls.{numbered, stop_numbered, Place, nowhere, in_buys, in_sells, in_stops, place, quantity_at, taken_out, reduced_by, cut_by, is_stop, stop_of, order_of, enters_as, entered, enter_effect, lapse_above0, keeps_priority, renewed, cut, enters_again, amended, amend_at, amend_effect, cancel_effect, effect_of}
use Rattle.sessions.specs.Accounts.{of_number, withdrawn_in, open_order, open_stop, open_of, if_lost, entered_by}
use Rattle.sessions.proofs.Sums.{of_sum, of_zero, total_append, total_joined, total_left, total_changed, total_kept}
use Rattle.sessions.proofs.Sweeping.{sweep_by}
use Rattle.sessions.proofs.Pairing.{pairs_by}
use Rattle.sessions.proofs.Finding.{only_if_some, Found, place_found}
use Rattle.trading.specs.declared.request.Request.TheVariants.{Enter, Amend, Cancel, Call, Uncross, End}
use Rattle.rules.specs.Openings.{opening}

-- ---- what is counted

-- what a line takes off the number k; a trade names two numbers
abbrev pub names_traded : ℕ → ReportLine → ℕ
names_traded k (Trade b s p q) = of_number k b q + of_number k s q
names_traded k (Lapse n q) = 0

abbrev pub takes : ℕ → ReportLine → ℕ
takes k l = names_traded k l + withdrawn_in k l

-- each record, and each line, counts for one
abbrev pub one : {R : Type 0} → R → ℕ
one x = 1

pub count_length : {R : Type 0} (xs : List R) → total one xs ≡ length xs
count_length [] = refl
count_length (x ∷ xs) = omega (arith, count_length xs)

-- the sum over a book, given what an order and what a stop counts for: `open_of k` and `size` are such sums
abbrev sum_over : (Order → ℕ) → (StopOrder → ℕ) → Book → ℕ
sum_over f g b = total f b.buys + total f b.sells + total g b.stops

abbrev pub size : Book → ℕ
size b = sum_over one one b

pub size_held : (b : Book) → size b ≡ held b
size_held b = omega (arith, count_length b.buys, count_length b.sells, count_length b.stops)

-- nothing is entered
abbrev nothing : ℕ → ℕ
nothing k = 0

-- x k is entered under each number k, nothing is lost; lines and records grow by r at the most
pub record Balanced (x : ℕ → ℕ) (r : ℕ) (b : Book) (m : Moved) : Type 0 where
  pub keeps : (k : ℕ) → x k + open_of k b ≡ total (takes k) m.lines + open_of k m.book
  pub fits : total one m.lines + size m.book ≤ r + size b

-- one step after another, where the second enters nothing
followed : (x : ℕ → ℕ) (r : ℕ) (b b' : Book) (ls : List ReportLine) (m : Moved) → Balanced x r b (moved b' ls) → Balanced nothing 0 b' m → Balanced x r b (after ls m)
followed x r b b' ls m h i = record {
  keeps = λ k. omega (arith, h.keeps k, i.keeps k, total_append (takes k) ls m.lines);
  fits = omega (arith, h.fits, i.fits, total_append one ls m.lines);
}

-- the book stays, and nothing is written
unmoved : (b : Book) → Balanced nothing 0 b (moved b [])
unmoved b = record { keeps = λ k. omega arith; fits = omega arith }

-- ---- parts of the book

module _ (f : Order → ℕ) (g : StopOrder → ℕ) where
  sum_opposite : (side : Side) (os : List Order) (b : Book) → sum_over f g (with_opposite side os b) + total f (opposite side b) ≡ sum_over f g b + total f os
  sum_opposite Buy os b = omega arith
  sum_opposite Sell os b = omega arith

  sum_own : (side : Side) (os : List Order) (b : Book) → sum_over f g (with_own_queue side os b) + total f (own_queue side b) ≡ sum_over f g b + total f os
  sum_own Buy os b = omega arith
  sum_own Sell os b = omega arith

  sum_join : (o : Order) (b : Book) → sum_over f g (join o b) ≡ sum_over f g b + f o
  sum_join o b = omega (arith, sum_own o.side (joined order_ahead o (own_queue o.side b)) b, total_joined f order_ahead o (own_queue o.side b))

-- an order joins its queue
join_balanced : (o : Order) (b : Book) → Balanced (λ k. open_order k o) 1 b (moved (join o b) [])
join_balanced o b = record { keeps = λ k. omega (arith, sum_join (open_order k) (open_stop k) o b); fits = omega (arith, sum_join one one o b) }

-- ---- sweeps

-- a sweep that ends filled has nothing left
abbrev Used : Ending → ℕ → Type 0
Used Filled rest = rest ≡ 0
Used Nobody rest = Unit {0}
Used Collared rest = Unit {0}

-- one record or one line comes of what is left, if anything is
abbrev left_by : Ending → ℕ
left_by Filled = 0
left_by Nobody = 1
left_by Collared = 1

-- the same of a sweep of t, with `rest` of it left, over the queue os
record SweepBalanced (t : Order) (rest : ℕ) (os : List Order) (s : Swept) : Type 0 where
  keeps : (k : ℕ) → total (takes k) s.trades + total (open_order k) s.queue + of_number k t.number s.rest ≡ total (open_order k) os + of_number k t.number rest
  fits : total one s.trades + total one s.queue + left_by s.ending ≤ total one os + 1
  used : Used s.ending s.rest

trade_takes : (k : ℕ) (side : Side) (n o p q : ℕ) → takes k (trade_of side n o p q) ≡ of_number k n q + of_number k o q
trade_takes k Buy n o p q = omega arith
trade_takes k Sell n o p q = omega arith

sweep_balanced : (allows : ℕ → ℕ → Bool) (t : Order) (rest last : ℕ) (os : List Order) → SweepBalanced t rest os (sweep allows t rest last os)
sweep_balanced allows t = sweep_by allows t (λ rest last os s. SweepBalanced t rest os s)
    (λ last os. record { keeps = λ k. omega arith; fits = omega arith; used = refl })
    (λ rest last z. record { keeps = λ k. omega arith; fits = omega arith; used = tt })
    (λ rest last o os z d w. record { keeps = λ k. omega arith; fits = omega arith; used = tt })
    (λ rest last o os z d a. record { keeps = λ k. omega arith; fits = omega arith; used = tt })
    (λ rest last o os s d h. record { keeps = λ k. omega (arith, h.keeps k); fits = omega (arith, h.fits); used = h.used })
    (λ rest last o os s d w a l h.
    let q = min rest o.«open» in
    let all : q ≡ o.«open» = omega arith in
    record {
      keeps = λ k. omega (arith, h.keeps k, trade_takes k t.side t.number o.number o.limit q, of_sum k t.number q (rest - o.«open») rest (omega arith), ap (of_number k o.number) all);
      fits = omega (arith, h.fits);
      used = h.used;
    })
    (λ rest last o os z d w a l.
    let q = min rest o.«open» in
    let all : q ≡ rest = omega arith in
    record {
      keeps = λ k. omega (arith, trade_takes k t.side t.number o.number o.limit q, of_zero k t.number, of_sum k o.number q (o.«open» - rest) o.«open» (omega arith), ap (of_number k t.number) all);
      fits = omega arith;
      used = refl;
    })

settled_balanced : (day : Bool) (t : Order) (b : Book) (rest : ℕ) (e : Ending) → Used e rest → Balanced (λ k. of_number k t.number rest) (left_by e) b (settled day t b rest e)
settled_balanced day t b rest Filled u = record { keeps = λ k. omega (arith, ap (of_number k t.number) u, of_zero k t.number); fits = omega arith }
settled_balanced true t b rest Nobody u = join_balanced (with_open t rest) b
settled_balanced true t b rest Collared u = record { keeps = (join_balanced (with_open t rest) b).keeps; fits = (join_balanced (with_open t rest) b).fits }
settled_balanced false t b rest Nobody u = record { keeps = λ k. omega arith; fits = omega arith }
settled_balanced false t b rest Collared u = record { keeps = λ k. omega arith; fits = omega arith }

pub sweeps_balanced : (v : Venue) (t : Order) (b : Book) → Balanced (λ k. open_order k t) 1 b (sweeps v t b)
unfolding sweeps
sweeps_balanced v t b =
    let s = swept_by v t b in
    let h = sweep_balanced (v.allows b.static) t t.«open» b.last (opposite t.side b) in
    let b' = with_last s.last (with_opposite t.side s.queue b) in
    let m = settled (is_day t.validity) t b' s.rest s.ending in
    let i = settled_balanced (is_day t.validity) t b' s.rest s.ending h.used in
    record {
      keeps = λ k. omega (arith, h.keeps k, sum_opposite (open_order k) (open_stop k) t.side s.queue b, i.keeps k, total_append (takes k) s.trades m.lines);
      fits = omega (arith, h.fits, sum_opposite one one t.side s.queue b, i.fits, total_append one s.trades m.lines);
    }

-- ---- stops

freed_balanced : (v : Venue) (again : Book → Moved) → ((b : Book) → Balanced nothing 0 b (again b)) → (b : Book) (o : Option StopOrder) → due_stop b ≡ o → Balanced nothing 0 b (freed v again b o)
freed_balanced v again ih b None e = unmoved b
freed_balanced v again ih b (Some s) e =
    let first = only_if_some (is_continuous b.phase) (first_that (reached b.last) b.stops) s e in
    let m = sweeps v (as_day_order s) (without_due b) in
    let h = sweeps_balanced v (as_day_order s) (without_due b) in
    followed nothing 0 b m.book m.lines (again m.book) (record {
      keeps = λ k. omega (arith, h.keeps k, total_left (open_stop k) (reached b.last) b.stops s first);
      fits = omega (arith, h.fits, total_left one (reached b.last) b.stops s first);
    }) (ih m.book)

release_balanced : (v : Venue) (n : ℕ) (b : Book) → Balanced nothing 0 b (release v n b)
unfolding release
release_balanced v zero b = unmoved b
release_balanced v (suc n) b = freed_balanced v (release v n) (release_balanced v n) b (due_stop b) refl

-- ---- pairing

-- the same of a pairing of buys and sells
record PairsBalanced (bs ss : List Order) (r : Paired) : Type 0 where
  keeps : (k : ℕ) → total (takes k) r.trades + total (open_order k) r.buys + total (open_order k) r.sells ≡ total (open_order k) bs + total (open_order k) ss
  fits : total one r.trades + total one r.buys + total one r.sells ≤ total one bs + total one ss

pairs_balanced : (p : ℕ) (bs ss : List Order) → PairsBalanced bs ss (pairs p bs ss)
pairs_balanced p = pairs_by p (λ bs ss r. PairsBalanced bs ss r)
    (λ ss. record { keeps = λ k. omega arith; fits = omega arith })
    (λ b bs. record { keeps = λ k. omega arith; fits = omega arith })
    (λ b bs ss r a h. record { keeps = λ k. omega (arith, h.keeps k); fits = omega (arith, h.fits) })
    (λ b bs s ss r a h. record { keeps = λ k. omega (arith, h.keeps k); fits = omega (arith, h.fits) })
    (λ b bs s ss r a e l h.
    let q : min b.«open» s.«open» ≡ s.«open» = omega arith in
    record {
      keeps = λ k. omega (arith, h.keeps k, of_sum k b.number (min b.«open» s.«open») (b.«open» - s.«open») b.«open» (omega arith), ap (of_number k s.number) q);
      fits = omega (arith, h.fits);
    })
    (λ b bs s ss r a e l h.
    let q : min b.«open» s.«open» ≡ b.«open» = omega arith in
    let q' : min b.«open» s.«open» ≡ s.«open» = omega arith in
    record {
      keeps = λ k. omega (arith, h.keeps k, ap (of_number k b.number) q, ap (of_number k s.number) q');
      fits = omega (arith, h.fits);
    })
    (λ b bs s ss r a e l h.
    let q : min b.«open» s.«open» ≡ b.«open» = omega arith in
    record {
      keeps = λ k. omega (arith, h.keeps k, of_sum k s.number (min b.«open» s.«open») (s.«open» - b.«open») s.«open» (omega arith), ap (of_number k b.number) q);
      fits = omega (arith, h.fits);
    })

-- ---- lapses

-- where each line counts for what its record counts for, so do all of them
lapses_count : {R : Type 0} (h : ReportLine → ℕ) (f : R → ℕ) (lapse : R → ReportLine) → ((r : R) → h (lapse r) ≡ f r) → (rs : List R) → total h (lapses_by lapse rs) ≡ total f rs
unfolding lapses_by
lapses_count h f lapse e [] = refl
lapses_count h f lapse e (r ∷ rs) = omega (arith, e r, lapses_count h f lapse e rs)

-- h counts for a lapse line what f and g count for its record
module _ (h : ReportLine → ℕ) (f : Order → ℕ) (g : StopOrder → ℕ) (e : (o : Order) → h (lapse_of o) ≡ f o) (i : (s : StopOrder) → h (stop_lapse s) ≡ g s) where
  all_count : (b : Book) → total h (all_lapses b) ≡ sum_over f g b
  all_count b =
      let buys = lapses_by lapse_of b.buys in
      let sells = lapses_by lapse_of b.sells in
      let stops = lapses_by stop_lapse b.stops in
      omega (arith, total_append h buys (sells ++ stops), total_append h sells stops, lapses_count h f lapse_of e b.buys, lapses_count h f lapse_of e b.sells, lapses_count h g stop_lapse i b.stops)

  vfu_split : (os : List Order) → total h (lapses_by lapse_of (filter lapsing os)) + total f (filter lasting os) ≡ total f os
  vfu_split os = omega (arith, lapses_count h f lapse_of e (filter lapsing os), total_kept f lapsing lasting (λ o. refl) os)

  vfu_count : (b : Book) → total h (vfu_lapses b) + sum_over f g (without_vfu b) ≡ sum_over f g b
  vfu_count b = omega (arith, total_append h (lapses_by lapse_of (filter lapsing b.buys)) (lapses_by lapse_of (filter lapsing b.sells)), vfu_split b.buys, vfu_split b.sells)

-- everything lapses, and nothing follows
end_balanced : (b : Book) → Balanced nothing 0 b (after (all_lapses b) (moved (emptied b) []))
end_balanced b = followed nothing 0 b (emptied b) (all_lapses b) (moved (emptied b) []) (record {
  keeps = λ k. omega (arith, all_count (takes k) (open_order k) (open_stop k) (λ o. omega arith) (λ s. omega arith) b);
  fits = omega (arith, all_count one one one (λ o. refl) (λ s. refl) b);
}) (unmoved (emptied b))

-- the VFU orders lapse
vfu_balanced : (b : Book) → Balanced nothing 0 b (moved (without_vfu b) (vfu_lapses b))
vfu_balanced b = record {
  keeps = λ k. omega (arith, vfu_count (takes k) (open_order k) (open_stop k) (λ o. omega arith) (λ s. omega arith) b);
  fits = omega (arith, vfu_count one one one (λ o. refl) (λ s. refl) b);
}

-- ---- effects

-- how many records a request may add
abbrev pub new_records : Request → ℕ
new_records (Enter t) = 1
new_records (Amend n limit quantity) = 0
new_records (Cancel n) = 0
new_records Call = 0
new_records (Uncross next) = 0
new_records End = 0

-- x k is entered under each number k, nothing is lost; at most one line more than there are records; g more records at the most
pub record Balance (x : ℕ → ℕ) (g : ℕ) (b : Book) (e : Effect) : Type 0 where
  pub keeps : (k : ℕ) → x k + open_of k b ≡ total (takes k) (lines_of e) + open_of k e.book
  pub fits : length (lines_of e) + held e.book ≤ 1 + held b
  pub grows : held e.book ≤ g + held b

-- the book of an effect, with all its lines
abbrev whole : Effect → Moved
whole e = moved e.book (lines_of e)

-- counted by length, as lines and records are
counted : (x : ℕ → ℕ) (r g : ℕ) (b : Book) (e : Effect) → r ≤ 1 → Balanced x r b (whole e) → size e.book ≤ g + size b → Balance x g b e
counted x r g b e l h i = record {
  keeps = h.keeps;
  fits = omega (arith, h.fits, count_length (lines_of e), size_held e.book, size_held b);
  grows = omega (arith, size_held e.book, size_held b);
}

-- where nothing is entered, no line and no record is added
counted_0 : (b : Book) (e : Effect) → Balanced nothing 0 b (whole e) → Balance nothing 0 b e
counted_0 b e h = counted nothing 0 0 b e (omega arith) h (omega (arith, h.fits))

-- an effect with no lines whose order is free
plain : (x : ℕ → ℕ) (g : ℕ) (outcome : Outcome) (b : Book) (m : Moved) → Balanced x 1 b m → size m.book ≤ g + size b → Balance x g b (plainly outcome m)
plain x g outcome b m h i = counted x 1 g b (plainly outcome m) (omega arith) (followed x 1 b m.book m.lines (moved m.book []) h (unmoved m.book)) i

-- stops are released after it
plain_released : (x : ℕ → ℕ) (g : ℕ) (v : Venue) (outcome : Outcome) (b : Book) (m : Moved) → Balanced x 1 b m → size m.book ≤ g + size b → Balance x g b (plainly outcome (then_released v m))
plain_released x g v outcome b m h i =
    let released = release_balanced v (length m.book.stops) m.book in
    plain x g outcome b (then_released v m) (followed x 1 b m.book m.lines (release_all v m.book) h released) (omega (arith, released.fits))

-- ---- the uncrossing

goes_on_balanced : (v : Venue) (next : Next) (o : Opening) (trades : List ReportLine) (b b' : Book) → Balanced nothing 0 b (moved b' trades) → Balanced nothing 0 b (whole (going_on v next o trades b'))
goes_on_balanced v Trading o trades b b' h =
    let m = release_all v (without_vfu b') in
    followed nothing 0 b b' trades (after (vfu_lapses b') m) h
    (followed nothing 0 b' (without_vfu b') (vfu_lapses b') m (vfu_balanced b') (release_balanced v (length b'.stops) (without_vfu b')))
goes_on_balanced v Close o trades b b' h = followed nothing 0 b b' trades (after (all_lapses b') (moved (emptied b') [])) h (end_balanced b')

printed_balanced : (p : ℕ) (b : Book) → Balanced nothing 0 b (moved (printed_at p b) (pairs p b.buys b.sells).trades)
printed_balanced p b =
    let h = pairs_balanced p b.buys b.sells in
    record { keeps = λ k. omega (arith, h.keeps k); fits = omega (arith, h.fits) }

uncrossed_balanced : (v : Venue) (next : Next) (b : Book) (o : Opening) → Balanced nothing 0 b (whole (uncrossed_as v next b o))
uncrossed_balanced v next b NoPrice = goes_on_balanced v next NoPrice [] b b (unmoved b)
uncrossed_balanced v next b (Printed p q) = goes_on_balanced v next (Printed p q) (pairs p b.buys b.sells).trades b (printed_at p b) (printed_balanced p b)
uncrossed_balanced v next b (RefusedByCollar p) = unmoved b

-- ---- entering

pub enters_balanced : (v : Venue) (o : Order) (b : Book) → Balanced (λ k. open_order k o) 1 b (enters_as v o b)
enters_balanced v o b = cond_both (is_continuous b.phase && not (is_vfu o.validity)) _ _ (Balanced (λ k. open_order k o) 1 b) (λ _. sweeps_balanced v o b) (λ _. join_balanced o b)

pub entered_balanced : (v : Venue) (t : Ticket) (b : Book) → Balanced (λ k. of_number k t.number t.quantity) 1 b (entered v t b)
entered_balanced v t b = cond_both (is_stop t.kind) _ _ (Balanced (λ k. of_number k t.number t.quantity) 1 b)
    (λ _. record { keeps = λ k. omega (arith, total_joined (open_stop k) stop_ahead (stop_of t) b.stops); fits = omega (arith, total_joined one stop_ahead (stop_of t) b.stops) })
    (λ _. enters_balanced v (order_of t) b)

-- ---- the record found under a number

-- what a record found counts for
abbrev count_at : (Order → ℕ) → (StopOrder → ℕ) → Place → ℕ
count_at f g nowhere = 0
count_at f g (in_buys o) = f o
count_at f g (in_sells o) = f o
count_at f g (in_stops s) = g s

taken_out_lem : (f : Order → ℕ) (g : StopOrder → ℕ) (n : ℕ) (b : Book) (at : Place) → Found n b at → sum_over f g (taken_out n b at) + count_at f g at ≡ sum_over f g b
taken_out_lem f g n b nowhere found = omega arith
taken_out_lem f g n b (in_buys o) found = omega (arith, total_left f (numbered n) b.buys o found.0)
taken_out_lem f g n b (in_sells o) found = omega (arith, total_left f (numbered n) b.sells o found.0)
taken_out_lem f g n b (in_stops s) found = omega (arith, total_left g (stop_numbered n) b.stops s found.0)

open_at : (k n : ℕ) (b : Book) (at : Place) → Found n b at → count_at (open_order k) (open_stop k) at ≡ of_number k n (quantity_at at)
open_at k n b nowhere found = sym (of_zero k n)
open_at k n b (in_buys o) found = ap (λ x. of_number k x o.«open») found.1
open_at k n b (in_sells o) found = ap (λ x. of_number k x o.«open») found.1
open_at k n b (in_stops s) found = ap (λ x. of_number k x s.quantity) found.1

-- ---- cancelling

cancelled_balanced : (n : ℕ) (b : Book) (at : Place) → Found n b at → Balance nothing 0 b (plainly Accepted (moved (taken_out n b at) (Lapse n (quantity_at at) ∷ [])))
cancelled_balanced n b at found =
    let fewer = taken_out_lem one one n b at found in
    plain nothing 0 Accepted b (moved (taken_out n b at) (Lapse n (quantity_at at) ∷ [])) (record {
      keeps = λ k. omega (arith, taken_out_lem (open_order k) (open_stop k) n b at found, open_at k n b at found);
      fits = omega (arith, fewer);
    }) (omega (arith, fewer))

-- ---- amending

-- the order o stands at a place: what it counts for can be taken out, or cut
record Stands (n : ℕ) (b : Book) (at : Place) (o : Order) : Type 0 where
  number : o.number ≡ n
  leaves : (f : Order → ℕ) (g : StopOrder → ℕ) → sum_over f g (taken_out n b at) + f o ≡ sum_over f g b
  is_cut : (f : Order → ℕ) (g : StopOrder → ℕ) (q : ℕ) → sum_over f g (cut_by n q b at) + f o ≡ sum_over f g b + f (reduced o q)

buy_stands : (n : ℕ) (b : Book) (o : Order) → Found n b (in_buys o) → Stands n b (in_buys o) o
buy_stands n b o found = record {
  number = found.1;
  leaves = λ f g. taken_out_lem f g n b (in_buys o) found;
  is_cut = λ f g q. omega (arith, total_changed f (numbered n) (reduced_by q) b.buys o found.0);
}

sell_stands : (n : ℕ) (b : Book) (o : Order) → Found n b (in_sells o) → Stands n b (in_sells o) o
sell_stands n b o found = record {
  number = found.1;
  leaves = λ f g. taken_out_lem f g n b (in_sells o) found;
  is_cut = λ f g q. omega (arith, total_changed f (numbered n) (reduced_by q) b.sells o found.0);
}

-- what is taken off lapses
lapse_takes : (k n q : ℕ) → total (takes k) (lapse_above0 n q) ≡ of_number k n q
lapse_takes k n q = cond_both (eqb q 0) _ _ (λ ls. total (takes k) ls ≡ of_number k n q) (λ z. omega (arith, ap (of_number k n) (eqb-true q 0 z), of_zero k n)) (λ _. omega arith)

lapse_fits : (n q : ℕ) → total one (lapse_above0 n q) ≤ 1
lapse_fits n q = cond_both (eqb q 0) _ _ (λ (ls : List ReportLine). total one ls ≤ 1) (λ _. omega arith) (λ _. omega arith)

module _ (v : Venue) (n limit quantity : ℕ) (b : Book) where
  cut_balanced : (at : Place) (o : Order) → Stands n b at o → Balanced nothing 1 b (cut n quantity b at o)
  cut_balanced at o h =
      let q = o.«open» - quantity in
      record {
        keeps = λ k. omega (arith, lapse_takes k n q, h.is_cut (open_order k) (open_stop k) q, of_sum k o.number (o.«open» - q) q o.«open» (omega arith), ap (λ x. of_number k x q) h.number);
        fits = omega (arith, lapse_fits n q, h.is_cut one one q);
      }

  again_balanced : (at : Place) (o : Order) → Stands n b at o → Balanced (λ k. of_number k n quantity) 1 b (enters_again v n limit quantity b at o)
  again_balanced at o h =
      let i = enters_balanced v (renewed o limit quantity) (taken_out n b at) in
      record {
        keeps = λ k. omega (arith, i.keeps k, h.leaves (open_order k) (open_stop k), ap (λ x. of_number k x quantity) h.number, ap (λ x. of_number k x o.«open») h.number);
        fits = omega (arith, i.fits, h.leaves one one);
      }

  -- the new quantity is entered where priority was lost
  abbrev Amends : Effect → Type 0
  Amends e = Balance (λ k. if_lost e.outcome (of_number k n quantity)) 0 b e

  amended_balance : (at : Place) (o : Order) → Stands n b at o → Amends (amended v n limit quantity b at o)
  amended_balance at o h = cond_both (keeps_priority o limit quantity) _ _ Amends
      (λ _. plain_released nothing 0 v PriorityKept b (cut n quantity b at o) (cut_balanced at o h) (omega (arith, h.is_cut one one (o.«open» - quantity))))
      (λ _. plain_released (λ k. of_number k n quantity) 0 v PriorityLost b (enters_again v n limit quantity b at o) (again_balanced at o h) (omega (arith, (again_balanced at o h).fits)))

  amend_balance : (at : Place) → Found n b at → Amends (amend_at v n limit quantity b at)
  amend_balance nowhere found = counted_0 b (plainly PriorityKept (moved b [])) (unmoved b)
  amend_balance (in_buys o) found = amended_balance (in_buys o) o (buy_stands n b o found)
  amend_balance (in_sells o) found = amended_balance (in_sells o) o (sell_stands n b o found)
  amend_balance (in_stops s) found = counted_0 b (plainly PriorityKept (moved b [])) (unmoved b)

-- ---- all calls

pub balanced : (v : Venue) (b : Book) (request : Request) → Balance (λ k. entered_by k request (effect_of v b request).outcome) (new_records request) b (effect_of v b request)
unfolding enter_effect amend_effect cancel_effect
balanced v b (Enter t) = plain_released (λ k. of_number k t.number t.quantity) 1 v Accepted b (entered v t b) (entered_balanced v t b) (omega (arith, (entered_balanced v t b).fits))
balanced v b (Amend n limit quantity) = amend_balance v n limit quantity b (place n b) (place_found n b)
balanced v b (Cancel n) = cancelled_balanced n b (place n b) (place_found n b)
balanced v b Call = counted_0 b (effect_of v b Call) (record { keeps = λ k. omega arith; fits = omega arith })
balanced v b (Uncross next) = counted_0 b (uncrossed v next b) (uncrossed_balanced v next b (opening v.grid v.allows b.static (auction_of b)))
balanced v b End = counted_0 b (effect_of v b End) (end_balanced b)
