-- After a release no stop is due, and so after every call.
use Rattle.std.proofs.Common.{◌≡◌, ℕ, zero, suc, ◌≤◌, Bool, true, false, List, [], ◌∷◌, length, Some, None, Option, refl, ap, ◌∙◌, subst, arith}
use Rattle.std.specs.List.{AllByRecursion}
use Rattle.std.proofs.lemmas.Bool.{cond_both}
use Rattle.rules.specs.declared.order.Order.{Order}
use Rattle.rules.specs.declared.order.Side.{Side}
use Rattle.rules.specs.declared.order.Side.TheVariants.{Buy, Sell}
use Rattle.rules.specs.declared.opening.Opening.{Opening}
use Rattle.rules.specs.declared.opening.Opening.TheVariants.{NoPrice, Printed, RefusedByCollar}
use Rattle.trading.specs.declared.stop.StopOrder.{StopOrder}
use Rattle.trading.specs.declared.report.ReportLine.{ReportLine}
use Rattle.trading.specs.declared.request.Next.{Next}
use Rattle.trading.specs.declared.request.Next.TheVariants.{Trading, Close}
use Rattle.trading.specs.declared.request.Request.{Request}
use Rattle.trading.specs.Queues.{first_that}
use Rattle.trading.specs.Books.{Venue, Book, auction_of, is_continuous, is_day, with_last, with_own_queue, with_opposite}
use Rattle.trading.specs.declared.sweep.Ending.{Ending}
use Rattle.trading.specs.declared.sweep.Ending.TheVariants.{Filled, Nobody, Collared}
use Rattle.trading.specs.Sweeps.{swept_by, Moved, settled, sweeps, reached, as_day_order, only_if, due_stop, without_due, freed, release, release_all, then_released}
use Rattle.trading.specs.Effects.{Effect}
use Rattle.trading.specs.Uncrossings.{pairs, without_vfu, going_on, printed_at, uncrossed_as}
use Rattle.trading.specs.Calls.{stop_numbered, Place, nowhere, in_buys, in_sells, in_stops, place, taken_out, entered, enter_effect, keeps_priority, cut, enters_again, amended, amend_at, amend_effect, cancel_effect, effect_of}
use Rattle.sessions.proofs.Finding.{only_if_some, all_fail, left_shorter}
use Rattle.trading.specs.declared.request.Request.TheVariants.{Enter, Amend, Cancel, Call, Uncross, End}
use Rattle.rules.specs.Openings.{opening}
use Rattle.sessions.proofs.Ranking.{all_without}
use mathlib.Core.Bool.{false≢true}

-- ---- a sweep leaves the stops as they are

own_stops : (side : Side) (os : List Order) (b : Book) → (with_own_queue side os b).stops ≡ b.stops
own_stops Buy os b = refl
own_stops Sell os b = refl

opposite_stops : (side : Side) (os : List Order) (b : Book) → (with_opposite side os b).stops ≡ b.stops
opposite_stops Buy os b = refl
opposite_stops Sell os b = refl

settled_stops : (d : Bool) (t : Order) (b : Book) (rest : ℕ) (e : Ending) → (settled d t b rest e).book.stops ≡ b.stops
settled_stops d t b rest Filled = refl
settled_stops true t b rest Nobody = own_stops t.side _ b
settled_stops true t b rest Collared = own_stops t.side _ b
settled_stops false t b rest Nobody = refl
settled_stops false t b rest Collared = refl

pub sweeps_stops : (v : Venue) (t : Order) (b : Book) → (sweeps v t b).book.stops ≡ b.stops
unfolding sweeps
sweeps_stops v t b =
    let s = swept_by v t b in
    settled_stops (is_day t.validity) t (with_last s.last (with_opposite t.side s.queue b)) s.rest s.ending ∙ opposite_stops t.side s.queue b

-- ---- releases

-- no stop that stands is reached, while the book is in continuous trading
abbrev pub Quiet : Book → Type 0
Quiet b = is_continuous b.phase ≡ true → AllByRecursion (λ s. reached b.last s ≡ false) b.stops

all_of_none : (P : StopOrder → Type 0) (xs : List StopOrder) → length xs ≤ 0 → AllByRecursion P xs
all_of_none P [] h = tt
all_of_none P (x ∷ xs) h = absurd (let z : ⊥ = omega arith in z)

-- a stop that is due leaves the others to `again`; where none is due, the book is quiet
freed_quiet : (v : Venue) (n : ℕ) (again : Book → Moved) → ((b : Book) → length b.stops ≤ n → Quiet (again b).book)
    → (b : Book) (o : Option StopOrder) → due_stop b ≡ o → length b.stops ≤ suc n → Quiet (freed v again b o).book
freed_quiet v n again ih b None e h = λ c. all_fail (reached b.last) b.stops (subst (λ t. only_if t (first_that (reached b.last) b.stops) ≡ None) c e)
freed_quiet v n again ih b (Some s) e h =
    let m = sweeps v (as_day_order s) (without_due b) in
    let short = left_shorter (reached b.last) b.stops s (only_if_some (is_continuous b.phase) _ s e) in
    ih m.book (omega (arith, ap length (sweeps_stops v (as_day_order s) (without_due b))))

-- as many releases as there are stops are enough
enough : (v : Venue) (n : ℕ) (b : Book) → length b.stops ≤ n → Quiet (release v n b).book
unfolding release
enough v zero b h = λ _. all_of_none (λ s. reached b.last s ≡ false) b.stops h
enough v (suc n) b h = freed_quiet v n (release v n) (enough v n) b (due_stop b) refl h

pub release_quiet : (v : Venue) (b : Book) → Quiet (release_all v b).book
release_quiet v b = enough v (length b.stops) b (omega arith)

pub then_quiet : (v : Venue) (m : Moved) → Quiet (then_released v m).book
then_quiet v m = release_quiet v m.book

-- ---- every call

taken_out_quiet : (n : ℕ) (b : Book) (at : Place) → Quiet b → Quiet (taken_out n b at)
taken_out_quiet n b nowhere q = q
taken_out_quiet n b (in_buys o) q = q
taken_out_quiet n b (in_sells o) q = q
taken_out_quiet n b (in_stops s) q = λ c. all_without (λ s. reached b.last s ≡ false) (stop_numbered n) b.stops (q c)

-- with priority kept or lost, stops are released at the end
amended_quiet : (v : Venue) (n limit quantity : ℕ) (b : Book) (at : Place) (o : Order) → Quiet (amended v n limit quantity b at o).book
amended_quiet v n limit quantity b at o = cond_both (keeps_priority o limit quantity) _ _ (λ (e : Effect). Quiet e.book)
    (λ _. then_quiet v (cut n quantity b at o))
    (λ _. then_quiet v (enters_again v n limit quantity b at o))

amend_quiet : (v : Venue) (n limit quantity : ℕ) (b : Book) (at : Place) → Quiet b → Quiet (amend_at v n limit quantity b at).book
amend_quiet v n limit quantity b nowhere q = q
amend_quiet v n limit quantity b (in_buys o) q = amended_quiet v n limit quantity b (in_buys o) o
amend_quiet v n limit quantity b (in_sells o) q = amended_quiet v n limit quantity b (in_sells o) o
amend_quiet v n limit quantity b (in_stops s) q = q

goes_on_quiet : (v : Venue) (next : Next) (o : Opening) (trades : List ReportLine) (b : Book) → Quiet (going_on v next o trades b).book
goes_on_quiet v Trading o trades b = release_quiet v (without_vfu b)
goes_on_quiet v Close o trades b = λ _. tt

uncross_quiet : (v : Venue) (next : Next) (b : Book) (o : Opening) → Quiet b → Quiet (uncrossed_as v next b o).book
uncross_quiet v next b NoPrice q = goes_on_quiet v next NoPrice [] b
uncross_quiet v next b (Printed p traded) q = goes_on_quiet v next (Printed p traded) (pairs p b.buys b.sells).trades (printed_at p b)
uncross_quiet v next b (RefusedByCollar p) q = q

-- whatever is asked, no stop that stands is reached afterwards; that the checks let the request pass is not needed
pub quiet : (v : Venue) (b : Book) (request : Request) → Quiet b → Quiet (effect_of v b request).book
unfolding enter_effect amend_effect cancel_effect
quiet v b (Enter t) q = then_quiet v (entered v t b)
quiet v b (Amend n limit quantity) q = amend_quiet v n limit quantity b (place n b) q
quiet v b (Cancel n) q = taken_out_quiet n b (place n b) q
quiet v b Call q = λ c. absurd (false≢true c)
quiet v b (Uncross next) q = uncross_quiet v next b (opening v.grid v.allows b.static (auction_of b)) q
quiet v b End q = λ _. tt
