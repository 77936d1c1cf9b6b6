-- A sweep of the opposite queue, in memory; and the rest settled after it.
use Rattle.std.proofs.Common.{◌≡◌, ℕ, ◌≤◌, Bool, List, length, take, drop, sym, refl, ap, ◌∙◌, subst, arith}
use Rattle.rules.specs.declared.order.Order.{Order}
use Rattle.rules.specs.declared.order.Side.{Side}
use Rattle.rules.specs.declared.order.Side.TheVariants.{Buy, Sell}
use Rattle.rules.specs.Candidates.{Grid}
use Rattle.trading.specs.declared.state.State.{State}
use Rattle.trading.specs.Books.{Book, is_day, with_last, opposite, with_opposite}
use Rattle.trading.specs.Sweeps.{Swept, sweep, Moved, moved, settled, sweeps}
use Rattle.trading.specs.Desks.{Desk, desk_of, book_of}
use Rattle.trading.specs.Moves.{Ready}
use Rattle.queue.specs.declared.queue.Queue.{Queue}
use Rattle.queue.specs.Lent.{listed}
use Rattle.lent.specs.Contents.{Page, beside}
use Rattle.lent.specs.Moves.{Comes}
use Rattle.sweeping.specs.declared.tables.AfterSweep.{AfterSweep}
use Rattle.sweeping.specs.Steps.{QueueSwept}
use Rattle.sweeping.specs.Beside.{venue, Roomy, Moves, SweptBy, swept_in, unsettled}
use Rattle.lent.proofs.Behind.{past_later}
use Rattle.sweeping.proofs.Following.{came_after}

-- the state once the sells, or the buys, have been swept
abbrev pub sells_swept : State → ℕ → ℕ → State
sells_swept s count last = record { phase = s.phase; buys = s.buys; sells = count; stops = s.stops; static_price = s.static_price; last = last }

abbrev pub buys_swept : State → ℕ → ℕ → State
buys_swept s count last = record { phase = s.phase; buys = count; sells = s.sells; stops = s.stops; static_price = s.static_price; last = last }

module _ (allows : ℕ → ℕ → ℕ → Bool) (t : Order) where
  -- the sweep and its book, by side
  abbrev swept_as : Side → Book → Swept
  swept_as side b = sweep (allows b.static) t t.«open» b.last (opposite side b)

  abbrev unsettled_as : Side → Book → Swept → Moved
  unsettled_as side b x = moved (with_last x.last (with_opposite side x.queue b)) x.trades

  module _ (d : Desk) (a q : Queue Order) (p p' : Page) (r : AfterSweep) where
    pub swept_sells : (sells' : List Order) → sells' ≡ q.records.now → t.side ≡ Buy → a.records.now ≡ d.sells → a.count ≡ d.state.sells → length q.records.now ≡ length a.records.now
        → QueueSwept (sweep (allows d.state.static_price) t t.«open» d.state.last (listed a)) a p q p' r
        → SweptBy allows t d p (desk_of (sells_swept d.state q.count r.last) d.buys sells' d.stops) p' r
    swept_sells sells' back side table count long x =
        let b = book_of d in
        let w = swept_as Buy b in
        let same : sweep (allows d.state.static_price) t t.«open» d.state.last (listed a) ≡ w = ap (λ os. sweep (allows d.state.static_price) t t.«open» d.state.last os) (ap (take a.count) table ∙ ap (λ n. take n d.sells) count) in
        let y = subst (λ s. QueueSwept s a p q p' r) same x in
        record {
          moves = record {
            came = λ stops n room from ready. subst (λ m. Comes n m (beside d stops) p (desk_of (sells_swept d.state q.count r.last) d.buys sells' stops) p') (sym (ap (λ side. unsettled_as side (book_of (beside d stops)) (swept_as side (book_of (beside d stops)))) side)) (record {
              book = ap (λ os. with_last r.last (with_opposite Buy os (book_of (beside d stops)))) (ap (take q.count) back ∙ y.queue) ∙ ap (λ l. with_last l (with_opposite Buy w.queue (book_of (beside d stops)))) y.last;
              counts = record { buys = omega (arith, ready.buys, ready.records); sells = subst (λ os. q.count ≤ length os) (sym back) q.within; stops = omega (arith, ready.stops, ready.records) };
              lines = y.lines;
              place = y.place;
              beyond = record { buys_length = refl; sells_length = ap length back ∙ long ∙ ap length table; stops_length = refl; buys = refl; sells = ap (drop n) back ∙ past_later q.records.now a.records.now a.count n (omega (arith, count, ready.records)) y.beyond ∙ ap (drop n) table; stops = refl };
            });
            stops = refl;
          };
          rest = λ stops. y.rest ∙ sym (ap (λ side. (swept_as side (book_of (beside d stops))).rest) side);
          ending = λ stops. y.ending ∙ sym (ap (λ side. (swept_as side (book_of (beside d stops))).ending) side);
          few = omega (arith, y.few, count);
          buys_fall = omega arith;
          sells_fall = omega (arith, y.count, count);
          stops_stay = refl;
        }

    pub swept_buys : (buys' : List Order) → buys' ≡ q.records.now → t.side ≡ Sell → a.records.now ≡ d.buys → a.count ≡ d.state.buys → length q.records.now ≡ length a.records.now
        → QueueSwept (sweep (allows d.state.static_price) t t.«open» d.state.last (listed a)) a p q p' r
        → SweptBy allows t d p (desk_of (buys_swept d.state q.count r.last) buys' d.sells d.stops) p' r
    swept_buys buys' back side table count long x =
        let b = book_of d in
        let w = swept_as Sell b in
        let same : sweep (allows d.state.static_price) t t.«open» d.state.last (listed a) ≡ w = ap (λ os. sweep (allows d.state.static_price) t t.«open» d.state.last os) (ap (take a.count) table ∙ ap (λ n. take n d.buys) count) in
        let y = subst (λ s. QueueSwept s a p q p' r) same x in
        record {
          moves = record {
            came = λ stops n room from ready. subst (λ m. Comes n m (beside d stops) p (desk_of (buys_swept d.state q.count r.last) buys' d.sells stops) p') (sym (ap (λ side. unsettled_as side (book_of (beside d stops)) (swept_as side (book_of (beside d stops)))) side)) (record {
              book = ap (λ os. with_last r.last (with_opposite Sell os (book_of (beside d stops)))) (ap (take q.count) back ∙ y.queue) ∙ ap (λ l. with_last l (with_opposite Sell w.queue (book_of (beside d stops)))) y.last;
              counts = record { sells = omega (arith, ready.sells, ready.records); buys = subst (λ os. q.count ≤ length os) (sym back) q.within; stops = omega (arith, ready.stops, ready.records) };
              lines = y.lines;
              place = y.place;
              beyond = record { sells_length = refl; buys_length = ap length back ∙ long ∙ ap length table; stops_length = refl; sells = refl; buys = ap (drop n) back ∙ past_later q.records.now a.records.now a.count n (omega (arith, count, ready.records)) y.beyond ∙ ap (drop n) table; stops = refl };
            });
            stops = refl;
          };
          rest = λ stops. y.rest ∙ sym (ap (λ side. (swept_as side (book_of (beside d stops))).rest) side);
          ending = λ stops. y.ending ∙ sym (ap (λ side. (swept_as side (book_of (beside d stops))).ending) side);
          few = omega (arith, y.few, count);
          sells_fall = omega arith;
          buys_fall = omega (arith, y.count, count);
          stops_stay = refl;
        }

-- ---- a sweep, and then its rest settled

settled_same : (t : Order) (b b' : Book) (r : AfterSweep) (s : Swept) → b ≡ b' → r.rest ≡ s.rest → r.ending ≡ s.ending → settled (is_day t.validity) t b r.rest r.ending ≡ settled (is_day t.validity) t b' s.rest s.ending
settled_same t b b' r s x y z =
    ap (λ b. settled (is_day t.validity) t b r.rest r.ending) x
    ∙ ap (λ q. settled (is_day t.validity) t b' q r.ending) y
    ∙ ap (settled (is_day t.validity) t b' s.rest) z

pub swept_settled : (g : Grid) (allows : ℕ → ℕ → ℕ → Bool) (t : Order) (d d' d'' : Desk) (p p' p'' : Page) (r : AfterSweep)
    → Roomy d p → length d'.buys ≡ length d.buys → length d'.sells ≡ length d.sells
    → SweptBy allows t d p d' p' r
    → Moves (λ b. settled (is_day t.validity) t b r.rest r.ending) d' p' d'' p''
    → Moves (sweeps (venue g allows) t) d p d'' p''
unfolding sweeps
swept_settled g allows t d d' d'' p p' p'' r roomy long-buys long-sells x y = record {
  came = λ stops n room from ready.
      let e = beside d stops in
      let e' = beside d' stops in
      let e'' = beside d'' stops in
      let w = swept_in allows t (book_of e) in
      let m = unsettled t (book_of e) w in
      let first : Comes n m e p e' p' = x.moves.came stops n room from ready in
      let again : Ready n e' n 0 1 = record {
        buys = omega (arith, ready.buys);
        sells = omega (arith, ready.sells);
        stops = ready.stops;
        records = omega (arith, ready.records, x.buys_fall, x.sells_fall, x.stops_stay);
        lines = omega (arith, ready.records, x.buys_fall, x.sells_fall, x.stops_stay);
      } in
      let second = subst (λ m'. Comes n m' e' p' e'' p'') (settled_same t (book_of e') m.book r w first.book (x.rest stops) (x.ending stops)) (y.came stops n n 0 again) in
      came_after n m _ e e' e'' p.lines p'.lines p''.lines p.written p'.written p''.written (omega (arith, first.place, x.few, roomy.lines)) first second;
  stops = y.stops ∙ x.moves.stops;
}
