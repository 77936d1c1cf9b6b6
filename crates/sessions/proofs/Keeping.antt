-- Every call that passes its checks keeps the book sound.
use Rattle.std.proofs.Common.{◌≡◌, ℕ, ◌-◌, ◌<◌, Bool, true, false, cond, not, ◌&&◌, ◌||◌, eqb, List, [], ◌∷◌, Some, sym, refl, ap, ◌∙◌, inl, inr, arith}
use mathlib.Core.Bool.{beq}
use Rattle.std.specs.List.{AllByRecursion}
use Rattle.std.proofs.ByRecursion.{All-append}
use Rattle.std.proofs.lemmas.Bool.{cond_both, cond-false, cases_Bool, both_ways, eqb-true, eqb-false, and_parts, and_from, and_cases, or_left, or_right, not_from_false, not-false, not-true, true≢false}
use Rattle.grid.specs.Prices.{is_price}
use Rattle.grid.specs.Neighbours.{Lawful, Priced}
use Rattle.rules.specs.declared.order.Order.{Order}
use Rattle.rules.specs.declared.order.Side.{Side}
use Rattle.rules.specs.declared.order.Side.TheVariants.{Buy, Sell}
use Rattle.rules.specs.declared.order.Validity.{Validity}
use Rattle.rules.specs.declared.order.Validity.TheVariants.{Day, Ioc, Vfu}
use Rattle.trading.specs.declared.stop.StopOrder.{StopOrder}
use Rattle.trading.specs.declared.ticket.Kind.{Kind}
use Rattle.trading.specs.declared.ticket.Kind.TheVariants.{Limit, Market, Stop}
use Rattle.trading.specs.declared.ticket.Ticket.{Ticket}
use Rattle.trading.specs.declared.answer.Outcome.{Outcome}
use Rattle.trading.specs.declared.answer.Outcome.TheVariants.{Accepted, PriorityKept, PriorityLost}
use Rattle.trading.specs.declared.request.Request.{Request}
use Rattle.trading.specs.Queues.{first_that, first_changed, stop_ahead}
use Rattle.trading.specs.Books.{Venue, Book, is_call, is_continuous, is_ended, is_day, is_ioc, is_vfu, with_orders}
use Rattle.trading.specs.Ranges.{is_number, is_quantity, is_above0, pair_up, may_stand}
use Rattle.trading.specs.Sweeps.{Moved}
use Rattle.trading.specs.Effects.{plainly}
use Rattle.trading.specs.Uncrossings.{all_lapses}
use Rattle.trading.specs.Calls.{numbered, stop_numbered, Place, nowhere, in_buys, in_sells, in_stops, place, is_somewhere, is_order, limit_at, taken_out, reduced_by, cut_by, is_stop, stop_of, order_of, enter_checks, enters_as, stop_joins, entered, enter_effect, lapse_above0, keeps_priority, renewed, cut, enters_again, amended, amend_at, amend_effect, cancel_effect, checks_of, effect_of}
use Rattle.trading.specs.declared.state.Phase.TheVariants.{Call as CallPhase, Continuous, Ended}
use Rattle.sessions.specs.Accounts.{of_number}
use Rattle.sessions.proofs.Standing.{named, stop_named, count, Two, Good, GoodStop, quantity_some, price_from, good_some, lasting_limited, never_ioc, Sound, Safe}
use Rattle.sessions.proofs.Parts.{like_cut, like_same, Part, empty, like, part_same, part_without}
use Rattle.sessions.proofs.Continuing.{one_itself, room_for, parts_sound, joins_sound, call_sound, sweeps_safe, stops_rested, stop_leaves, then_safe}
use Rattle.sessions.proofs.Ranking.{stop_never_both, stop_trans, all_joined, all_first, sorted_joined}
use Rattle.sessions.proofs.Sums.{total_joined, total_left, total_zero}
use Rattle.sessions.proofs.Finding.{Found, place_found, not_live, Pass}
use Rattle.sessions.proofs.Lapsing.{all_lapses_lem}
use Rattle.sessions.proofs.Uncrossed.{SafeEffect, emptied_sound, uncrossed_safe}
use Rattle.trading.specs.declared.request.Request.TheVariants.{Enter, Amend, Cancel, Call, Uncross, End}
use Rattle.rules.proofs.Choosing.{Topped}
use Rattle.trading.specs.Calls.{unlawful}
use Rattle.trading.specs.declared.state.Phase.{Phase}

-- ---- what the checks say

lawful_from : (v : Venue) (p : ℕ) → unlawful v p ≡ false → 0 < p → Lawful v.grid.lawful p
lawful_from v p e h = elim (and_cases (is_above0 p) (not (v.grid.lawful p)) e) [
  | inl z ↦ absurd (let i = eqb-true p 0 (not-false (eqb p 0) z) in omega arith)
  | inr z ↦ not-false (v.grid.lawful p) z
]

above_from : (p : ℕ) → is_above0 p ≡ true → 0 < p
above_from p e = let h = eqb-false p 0 (not-true (eqb p 0) e) in omega arith

-- a ticket that is not VFU has a limit
paired_limited : (k : Kind) (limit trigger : ℕ) (w : Validity) → pair_up k limit trigger w ≡ true → is_vfu w ≡ false → 0 < limit
paired_limited Limit l t w e n = above_from l (and_parts (is_above0 l) (eqb t 0) e).0
paired_limited Market l t w e n = absurd (both_ways (is_vfu w) n (and_parts (eqb t 0) (is_vfu w) (and_parts (eqb l 0) _ e).1).1)
paired_limited Stop l t w e n = above_from l (and_parts (is_above0 l) _ e).0

-- a stop has a limit and a trigger
stop_limited : (k : Kind) (limit trigger : ℕ) (w : Validity) → is_stop k ≡ true → pair_up k limit trigger w ≡ true → (0 < limit) × (0 < trigger)
stop_limited Limit l t w i e = absurd (true≢false (sym i))
stop_limited Market l t w i e = absurd (true≢false (sym i))
stop_limited Stop l t w i e = let a = and_parts (is_above0 l) _ e in (above_from l a.0, above_from t (and_parts (is_above0 t) (is_day w) a.1).0)

-- outside continuous trading no IOC ticket passes
ioc_turned_away : (p : Phase) (w : Validity) → (is_ended p || (is_call p && is_ioc w)) ≡ false → is_continuous p ≡ false → is_ioc w ≡ false
ioc_turned_away CallPhase w e c = e
ioc_turned_away Continuous w e c = absurd (true≢false c)
ioc_turned_away Ended w e c = absurd (true≢false e)

-- a limit order stays one
stays_limited : (a b : ℕ) → not (beq (eqb a 0) (eqb b 0)) ≡ false → 0 < a → 0 < b
stays_limited a b e h = (elim (eqb b 0) as (λ x. eqb b 0 ≡ x → not (beq (eqb a 0) x) ≡ false → 0 < b) [
  | true ↦ λ i e. absurd (let z = beq_true (eqb a 0) e in let j = eqb-true a 0 z in omega arith)
  | false ↦ λ i e. (let z = eqb-false b 0 i in omega arith)
]) refl e
  where
    beq_true : (x : Bool) → not (beq x true) ≡ false → x ≡ true
    beq_true true e = refl
    beq_true false e = absurd (true≢false e)

none_named : (n : ℕ) (b : Book) → is_somewhere (place n b) ≡ false → count n b ≡ 0
none_named n b e =
    let none = not_live n b e in
    omega (
      arith,
      total_zero (named n) (numbered n) (λ o h. cond-false (numbered n o) 1 0 h) b.buys none.buys,
      total_zero (named n) (numbered n) (λ o h. cond-false (numbered n o) 1 0 h) b.sells none.sells,
      total_zero (stop_named n) (stop_numbered n) (λ s h. cond-false (stop_numbered n s) 1 0 h) b.stops none.stops,
    )

-- the order found is cut where it stands
part_changed : (p : Order → Bool) (q : ℕ) (xs : List Order) (x : Order) → first_that p xs ≡ Some x → q < x.«open» → Part (first_changed p (reduced_by q) xs) xs
unfolding first_that first_changed
part_changed p q [] x e h = empty
part_changed p q (y ∷ xs) x e h = (elim (p y) as (λ c. cond c (Some y) (first_that p xs) ≡ Some x → Part (cond c (reduced_by q y ∷ xs) (y ∷ first_changed p (reduced_by q) xs)) (y ∷ xs)) [
  | true ↦ λ e. (let j : y ≡ x = cc in like (like_cut y q (omega (arith, ap (λ (o : Order). o.«open») j))) (part_same xs))
  | false ↦ λ e. like (like_same y) (part_changed p q xs x e h)
]) e

plain_safe : (v : Venue) (outcome : Outcome) (m : Moved) → Safe v m → SafeEffect v (plainly outcome m)
plain_safe v outcome m s = record { sound = s.sound; two = All-append Two m.lines [] s.two tt }

module _ (v : Venue) (priced : Priced v.grid.lawful) where
  lawful_price : (p : ℕ) → Lawful v.grid.lawful p → is_price p ≡ true
  lawful_price p l = price_from p (priced p l).0 (priced p l).1

  -- ---- entering

  -- an order that may enter
  record Fit (t : Order) : Type 0 where
    number : is_number t.number ≡ true
    quantity : is_quantity t.«open» ≡ true
    is_lawful : 0 < t.limit → Lawful v.grid.lawful t.limit
    limited : is_vfu t.validity ≡ false → 0 < t.limit

  fit_stands : (limit : ℕ) (w : Validity) → is_ioc w ≡ false → (is_vfu w ≡ false → 0 < limit) → (0 < limit → Lawful v.grid.lawful limit) → may_stand limit w ≡ true
  fit_stands limit Day i h l = lawful_price limit (l (h refl))
  fit_stands limit Ioc i h l = absurd (true≢false i)
  fit_stands limit Vfu i h l = elim (cases_Bool (eqb limit 0)) [
    | inl z ↦ or_left (eqb limit 0) (is_price limit) z
    | inr z ↦ or_right (eqb limit 0) (is_price limit) (lawful_price limit (l (let n = eqb-false limit 0 z in omega arith)))
  ]

  day_not_vfu : (w : Validity) → is_day w ≡ true → is_vfu w ≡ false
  day_not_vfu Day e = refl
  day_not_vfu Ioc e = refl
  day_not_vfu Vfu e = absurd (true≢false (sym e))

  vfu_not_ioc : (w : Validity) → is_vfu w ≡ true → is_ioc w ≡ false
  vfu_not_ioc Day e = refl
  vfu_not_ioc Ioc e = absurd (true≢false (sym e))
  vfu_not_ioc Vfu e = refl

  enters_safe : (t : Order) (b : Book) → Fit t → count t.number b ≡ 0 → (is_continuous b.phase ≡ false → is_ioc t.validity ≡ false) → Sound v b → Safe v (enters_as v t b)
  enters_safe t b f new ioc s = cond_both (is_continuous b.phase && not (is_vfu t.validity)) _ _ (Safe v)
      (λ h.
      let l = f.limited (not-true (is_vfu t.validity) (and_parts (is_continuous b.phase) (not (is_vfu t.validity)) h).1) in
      let lawful = f.is_lawful l in
      sweeps_safe v t b (record { number = f.number; quantity = f.quantity; priced = lawful_price t.limit lawful; is_lawful = lawful; new = new }) s)
      (λ h. record {
        sound = joins_sound v t b (record { on_side = refl; number = f.number; quantity = f.quantity; stands = fit_stands t.limit t.validity (not_ioc h) f.limited f.is_lawful; is_lawful = f.is_lawful }) new (λ c d. absurd (clash c d h)) s;
        two = tt;
      })
    where
      clash : is_continuous b.phase ≡ true → is_day t.validity ≡ true → (is_continuous b.phase && not (is_vfu t.validity)) ≡ false → ⊥
      clash c d h = both_ways (is_continuous b.phase && not (is_vfu t.validity)) h (and_from (is_continuous b.phase) (not (is_vfu t.validity)) c (not_from_false (is_vfu t.validity) (day_not_vfu t.validity d)))

      not_ioc : (is_continuous b.phase && not (is_vfu t.validity)) ≡ false → is_ioc t.validity ≡ false
      not_ioc h = elim (and_cases (is_continuous b.phase) (not (is_vfu t.validity)) h) [ inl c ↦ ioc c | inr w ↦ vfu_not_ioc t.validity (not-false (is_vfu t.validity) w) ]

  stop_joins_safe : (s : StopOrder) (b : Book) → GoodStop v s → count s.number b ≡ 0 → Sound v b → Safe v (stop_joins s b)
  stop_joins_safe s b g new h =
      let r = h.rested in
      record {
        sound = record {
          rested = stops_rested v b _ (all_joined (GoodStop v) stop_ahead s b.stops g r.stops) (sorted_joined stop_ahead stop_never_both stop_trans s b.stops r.stops_sorted) r;
          unique = λ k. omega (arith, total_joined (stop_named k) stop_ahead s b.stops, room_for s.number (λ k. count k b) h.unique new k);
          apart = h.apart;
        };
        two = tt;
      }

  -- a ticket that passed its checks
  record Passed (t : Ticket) (b : Book) : Type 0 where
    phase : (is_ended b.phase || (is_call b.phase && is_ioc t.validity)) ≡ false
    number : is_number t.number ≡ true
    quantity : is_quantity t.quantity ≡ true
    pairs_up : pair_up t.kind t.limit t.trigger t.validity ≡ true
    limit : 0 < t.limit → Lawful v.grid.lawful t.limit
    trigger : 0 < t.trigger → Lawful v.grid.lawful t.trigger
    new : count t.number b ≡ 0

  passed : (n : ℕ) (t : Ticket) (b : Book) → Pass (enter_checks v n t b) → Passed t b
  passed n t b c = record {
    phase = c.0;
    number = not-false (is_number t.number) c.1.0;
    quantity = not-false (is_quantity t.quantity) c.1.1.0;
    pairs_up = not-false (pair_up t.kind t.limit t.trigger t.validity) c.1.1.1.0;
    limit = lawful_from v t.limit c.1.1.1.1.0;
    trigger = lawful_from v t.trigger c.1.1.1.1.1.0;
    new = none_named t.number b c.1.1.1.1.1.1.0;
  }

  entered_safe : (t : Ticket) (b : Book) → Passed t b → Sound v b → Safe v (entered v t b)
  entered_safe t b p s = cond_both (is_stop t.kind) _ _ (Safe v)
      (λ h.
      let l = stop_limited t.kind t.limit t.trigger t.validity h p.pairs_up in
      let fits = and_from (is_number t.number) _ p.number (and_from (is_quantity t.quantity) _ p.quantity (and_from (is_price t.trigger) (is_price t.limit) (lawful_price t.trigger (p.trigger l.1)) (lawful_price t.limit (p.limit l.0)))) in
      stop_joins_safe (stop_of t) b (record { fits = fits; is_lawful = p.limit l.0 }) p.new s)
      (λ h. enters_safe (order_of t) b (record { number = p.number; quantity = p.quantity; is_lawful = p.limit; limited = paired_limited t.kind t.limit t.trigger t.validity p.pairs_up }) p.new (ioc_turned_away b.phase t.validity p.phase) s)

  -- ---- records that leave, or are cut

  -- both queues lose records, and the prices stay
  lost_sound : (b : Book) (bs ss : List Order) → Part bs b.buys → Part ss b.sells → Sound v b → Sound v (with_orders bs ss b)
  lost_sound b bs ss p q s = parts_sound v b bs ss b.last p q s.rested.last s

  taken_out_sound : (n : ℕ) (b : Book) (at : Place) → Found n b at → Sound v b → Sound v (taken_out n b at)
  taken_out_sound n b nowhere f s = s
  taken_out_sound n b (in_buys o) f s = lost_sound b _ _ (part_without (numbered n) b.buys) (part_same b.sells) s
  taken_out_sound n b (in_sells o) f s = lost_sound b _ _ (part_same b.buys) (part_without (numbered n) b.sells) s
  taken_out_sound n b (in_stops x) f s = record {
    rested = stop_leaves v (stop_numbered n) b s.rested;
    unique = λ k. omega (arith, s.unique k, total_left (stop_named k) (stop_numbered n) b.stops x f.0);
    apart = s.apart;
  }

  -- an order that stands at a place, what can be done with it, and what is known of it
  record Stands (n : ℕ) (b : Book) (at : Place) (o : Order) : Type 0 where
    side : Side
    good : Good v side o
    number : o.number ≡ n
    gone : count n (taken_out n b at) ≡ 0
    out : Sound v (taken_out n b at)
    is_cut : (q : ℕ) → q < o.«open» → Sound v (cut_by n q b at)

  one_named : (n : ℕ) (o : Order) → o.number ≡ n → named n o ≡ 1
  one_named n o e = ap (λ x. of_number n x 1) e ∙ one_itself n

  buy_stands : (n : ℕ) (b : Book) (o : Order) → Found n b (in_buys o) → Sound v b → Stands n b (in_buys o) o
  buy_stands n b o f s = record {
    side = Buy;
    good = all_first (Good v Buy) (numbered n) b.buys o f.0 s.rested.buys;
    number = f.1;
    gone = omega (arith, s.unique n, total_left (named n) (numbered n) b.buys o f.0, one_named n o f.1);
    out = taken_out_sound n b (in_buys o) f s;
    is_cut = λ q l. lost_sound b _ _ (part_changed (numbered n) q b.buys o f.0 l) (part_same b.sells) s;
  }

  sell_stands : (n : ℕ) (b : Book) (o : Order) → Found n b (in_sells o) → Sound v b → Stands n b (in_sells o) o
  sell_stands n b o f s = record {
    side = Sell;
    good = all_first (Good v Sell) (numbered n) b.sells o f.0 s.rested.sells;
    number = f.1;
    gone = omega (arith, s.unique n, total_left (named n) (numbered n) b.sells o f.0, one_named n o f.1);
    out = taken_out_sound n b (in_sells o) f s;
    is_cut = λ q l. lost_sound b _ _ (part_same b.buys) (part_changed (numbered n) q b.sells o f.0 l) s;
  }

  -- ---- amending

  lapse_two : (n q : ℕ) → AllByRecursion Two (lapse_above0 n q)
  lapse_two n q = cond_both (eqb q 0) _ _ (AllByRecursion Two) (λ _. tt) (λ _. (tt, tt))

  module _ (n limit quantity : ℕ) (b : Book)
      (is-quantity : is_quantity quantity ≡ true) (is_lawful : 0 < limit → Lawful v.grid.lawful limit) where
    amended_safe : (at : Place) (o : Order) → Stands n b at o → not (beq (eqb o.limit 0) (eqb limit 0)) ≡ false → SafeEffect v (amended v n limit quantity b at o)
    amended_safe at o h same = cond_both (keeps_priority o limit quantity) _ _ (SafeEffect v)
        (λ _. plain_safe v PriorityKept _ (then_safe v (cut n quantity b at o) (record { sound = h.is_cut (o.«open» - quantity) (omega (arith, good_some v h.side o g, quantity_some quantity is-quantity)); two = lapse_two n (o.«open» - quantity) })))
        (λ _.
        let t = renewed o limit quantity in
        let again = enters_safe t (taken_out n b at)
        (record { number = g.number; quantity = is-quantity; is_lawful = is_lawful; limited = λ w. stays_limited o.limit limit same (lasting_limited o.limit o.validity g.stands w) })
        (ap (λ x. count x (taken_out n b at)) h.number ∙ h.gone)
        (λ _. never_ioc o.limit o.validity g.stands)
        h.out in
        plain_safe v PriorityLost _ (then_safe v (enters_again v n limit quantity b at o) (record { sound = again.sound; two = (tt, again.two) })))
      where
        g : Good v h.side o
        g = h.good

    amend_safe : (at : Place) → Found n b at → not (is_order at) ≡ false → not (beq (eqb (limit_at at) 0) (eqb limit 0)) ≡ false → Sound v b → SafeEffect v (amend_at v n limit quantity b at)
    amend_safe nowhere f i same s = absurd (true≢false i)
    amend_safe (in_buys o) f i same s = amended_safe (in_buys o) o (buy_stands n b o f s) same
    amend_safe (in_sells o) f i same s = amended_safe (in_sells o) o (sell_stands n b o f s) same
    amend_safe (in_stops x) f i same s = absurd (true≢false i)

  -- ---- all calls

  pub call_safe : Topped v.grid → (n : ℕ) (b : Book) (request : Request) → Pass (checks_of v n b request) → Sound v b → SafeEffect v (effect_of v b request)
  unfolding enter_effect amend_effect cancel_effect
  call_safe topped n b (Enter t) c s = plain_safe v Accepted _ (then_safe v (entered v t b) (entered_safe t b (passed n t b c) s))
  call_safe topped n b (Amend number limit quantity) c s =
      amend_safe number limit quantity b (not-false (is_quantity quantity) c.1.1.0) (lawful_from v limit c.1.1.1.1.1.0) (place number b) (place_found number b) c.1.1.1.0 c.1.1.1.1.0 s
  call_safe topped n b (Cancel number) c s = record { sound = taken_out_sound number b (place number b) (place_found number b) s; two = (tt, tt) }
  call_safe topped n b Call c s = record { sound = call_sound v b s.rested s.unique; two = tt }
  call_safe topped n b (Uncross next) c s = uncrossed_safe v priced topped next b s
  call_safe topped n b End c s = record { sound = emptied_sound v priced b s.rested; two = All-append Two (all_lapses b) [] (all_lapses_lem Two (λ n q. tt) b) tt }
