-- Continuous trading keeps a book sound: sweeps, and the release of stops.
use Rattle.std.proofs.Common.{◌≡◌, ℕ, zero, suc, ◌+◌, ◌-◌, ◌<◌, ◌≤◌, min, max, Bool, true, false, cond, eqb, leb, List, [], ◌∷◌, length, Some, None, Option, sym, refl, ap, ◌∙◌, subst, inl, inr, arith}
use Rattle.std.specs.List.{AllByRecursion}
use Rattle.std.proofs.ByRecursion.{All-weaker, All-append}
use Rattle.std.proofs.lemmas.Bool.{cases_Bool, both_ways, eqb-true, eq-eqb, leb-false, and_parts, true≢false}
use Rattle.std.proofs.lemmas.Bool.Decides.{nat_tests}
use Rattle.grid.specs.Prices.{is_price}
use Rattle.grid.specs.Neighbours.{Lawful}
use Rattle.rules.specs.declared.order.Order.{Order}
use Rattle.rules.specs.declared.order.Side.{Side}
use Rattle.rules.specs.declared.order.Side.TheVariants.{Buy, Sell}
use Rattle.rules.specs.declared.order.Validity.{Validity}
use Rattle.rules.specs.declared.order.Validity.TheVariants.{Day, Ioc, Vfu}
use Rattle.rules.specs.Auctions.{total}
use Rattle.trading.specs.declared.stop.StopOrder.{StopOrder}
use Rattle.trading.specs.Queues.{joined, first_that, without_first, limit_ahead, order_ahead, stop_ahead}
use Rattle.trading.specs.Books.{Venue, Book, is_continuous, is_day, with_phase, with_last, with_prices, with_orders, with_stops, own_queue, opposite, with_own_queue, with_opposite, with_open}
use Rattle.trading.specs.Ranges.{is_number, is_quantity, may_stand}
use Rattle.trading.specs.declared.sweep.Ending.{Ending}
use Rattle.trading.specs.declared.sweep.Ending.TheVariants.{Filled, Nobody, Collared}
use Rattle.trading.specs.Sweeps.{within, trade_of, sweep, swept_by, Moved, join, settled, sweeps, reached, as_day_order, due_stop, without_due, freed, release, release_all, then_released}
use Rattle.trading.specs.declared.state.Phase.TheVariants.{Call as CallPhase}
use Rattle.sessions.specs.Accounts.{of_number}
use Rattle.sessions.proofs.Sums.{total_joined, total_left}
use Rattle.sessions.proofs.Sweeping.{sweep_by}
use Rattle.sessions.proofs.Ranking.{order_never_both, order_trans, all_joined, all_without, all_first, Sorted, sorted_without, sorted_joined}
use Rattle.sessions.proofs.Standing.{named, stop_named, count, Unique, Two, Good, GoodStop, quantity_less, day_priced, day_limited, Rested, BuysBelow, SellsFrom, Apart, Sound, Safe}
use Rattle.sessions.proofs.Parts.{Like, Part, empty, skip, like, part_same, part_all, part_sorted, good_like, part_swept}
use Rattle.sessions.proofs.Finding.{only_if_some}

pub all_both : {X : Type 0} (P Q R : X → Type 0) → ((x : X) → P x → Q x → R x) → (xs : List X) → AllByRecursion P xs → AllByRecursion Q xs → AllByRecursion R xs
all_both P Q R f [] a b = tt
all_both P Q R f (x ∷ xs) a b = (f x a.0 b.0, all_both P Q R f xs a.1 b.1)

-- ---- numbers

-- queues that lose records have no more of a number
pub part_named : (k : ℕ) {xs ys : List Order} → Part xs ys → total (named k) xs ≤ total (named k) ys
part_named k empty = omega arith
part_named k (skip p) = omega (arith, part_named k p)
part_named k (like l p) = omega (arith, part_named k p, ap (λ n. of_number k n 1) l.number)

pub one_itself : (n : ℕ) → of_number n n 1 ≡ 1
one_itself n = ap (λ v. cond v 1 0) (eq-eqb n n refl)

-- one more of a number that is not there
pub room_for : (n : ℕ) (c : ℕ → ℕ) → ((k : ℕ) → c k ≤ 1) → c n ≡ 0 → (k : ℕ) → of_number k n 1 + c k ≤ 1
room_for n c u h k = (elim (eqb n k) as (λ v. eqb n k ≡ v → cond v 1 0 + c k ≤ 1) [
  | true ↦ λ e. (let i = eqb-true n k e in omega (arith, ap c i))
  | false ↦ λ e. omega (arith, u k)
]) refl

two_of : (side : Side) (n o p q : ℕ) → (n ≡ o → ⊥) → Two (trade_of side n o p q)
two_of Buy n o p q h = h
two_of Sell n o p q h = λ e. h (sym e)

not_itself : (t o : Order) (os : List Order) → named t.number o + total (named t.number) os ≡ 0 → t.number ≡ o.number → ⊥
not_itself t o os h e = omega (arith, one_itself o.number, ap (λ k. named k o) e)

sweep_two : (allows : ℕ → ℕ → Bool) (t : Order) (rest last : ℕ) (os : List Order) → total (named t.number) os ≡ 0 → AllByRecursion Two (sweep allows t rest last os).trades
sweep_two allows t = sweep_by allows t (λ rest last os s. total (named t.number) os ≡ 0 → AllByRecursion Two s.trades)
    (λ last os h. tt) (λ rest last z h. tt) (λ rest last o os z d w h. tt) (λ rest last o os z d f h. tt)
    (λ rest last o os s d i h. i (omega arith))
    (λ rest last o os s d w f l i h. (two_of t.side t.number o.number o.limit _ (not_itself t o os h), i (omega arith)))
    (λ rest last o os z d w f l h. (two_of t.side t.number o.number o.limit _ (not_itself t o os h), tt))

-- ---- what a sweep leaves opposite

abbrev pub other_side : Side → Side
other_side Buy = Sell
other_side Sell = Buy

-- the day orders are out of reach of a limit
abbrev pub Beyond : Side → ℕ → Order → Type 0
Beyond side limit y = is_day y.validity ≡ true → within side limit y.limit ≡ false

pub limits_of : (s t : Side) (o p : Order) → p.side ≡ s → o.side ≡ t → order_ahead p o ≡ false → limit_ahead s t p.limit o.limit ≡ false
limits_of s t o p e f h = ap (λ u. limit_ahead u t p.limit o.limit) (sym e) ∙ ap (λ u. limit_ahead p.side u p.limit o.limit) (sym f) ∙ h

-- behind an order out of reach, day orders are
buy_beyond : (l a b : ℕ) → 0 < a → 0 < b → limit_ahead Sell Sell b a ≡ false → leb a l ≡ false → leb b l ≡ false
buy_beyond l a b h k n w = grind (arith, nat_tests)

sell_beyond : (l a b : ℕ) → 0 < a → 0 < b → limit_ahead Buy Buy b a ≡ false → leb l a ≡ false → leb l b ≡ false
sell_beyond l a b h k n w = grind (arith, nat_tests)

module _ (v : Venue) where
  good_limited : (side : Side) (o : Order) → Good v side o → is_day o.validity ≡ true → 0 < o.limit
  good_limited side o g d = day_limited o.limit o.validity g.stands d

  beyond_behind : (side : Side) (l : ℕ) (o p : Order) → Good v (other_side side) o → is_day o.validity ≡ true → within side l o.limit ≡ false → Good v (other_side side) p → order_ahead p o ≡ false → Beyond side l p
  beyond_behind Buy l o p g d w k n e = buy_beyond l o.limit p.limit (good_limited Sell o g d) (good_limited Sell p k e) (limits_of Sell Sell o p k.on_side g.on_side n) w
  beyond_behind Sell l o p g d w k n e = sell_beyond l o.limit p.limit (good_limited Buy o g d) (good_limited Buy p k e) (limits_of Buy Buy o p k.on_side g.on_side n) w

  sweep_beyond : (allows : ℕ → ℕ → Bool) (t : Order) (rest last : ℕ) (os : List Order) → AllByRecursion (Good v (other_side t.side)) os → Sorted order_ahead os → (sweep allows t rest last os).ending ≡ Nobody → AllByRecursion (Beyond t.side t.limit) (sweep allows t rest last os).queue
  sweep_beyond allows t = sweep_by allows t (λ rest last os s. AllByRecursion (Good v (other_side t.side)) os → Sorted order_ahead os → s.ending ≡ Nobody → AllByRecursion (Beyond t.side t.limit) s.queue)
      (λ last os a b e. absurd (let z : ◌≡◌ {A = ℕ} 0 1 = cc in omega arith))
      (λ rest last z a b e. tt)
      (λ rest last o os z d w a b e. (λ _. w, all_both (Good v (other_side t.side)) (λ p. order_ahead p o ≡ false) (Beyond t.side t.limit) (λ p g n. beyond_behind t.side t.limit o p a.0 d w g n) os a.1 b.0))
      (λ rest last o os z d f a b e. absurd (let z : ◌≡◌ {A = ℕ} 0 1 = cc in omega arith))
      (λ rest last o os s d h a b e. (λ y. absurd (both_ways (is_day o.validity) d y), h a.1 b.1 e))
      (λ rest last o os s d w f l h a b e. h a.1 b.1 e)
      (λ rest last o os z d w f l a b e. absurd (let z : ◌≡◌ {A = ℕ} 0 1 = cc in omega arith))

  -- the last price stays a price
  sweep_last : (side : Side) (allows : ℕ → ℕ → Bool) (t : Order) (rest last : ℕ) (os : List Order) → AllByRecursion (Good v side) os → is_price last ≡ true → is_price (sweep allows t rest last os).last ≡ true
  sweep_last side allows t = sweep_by allows t (λ rest last os s. AllByRecursion (Good v side) os → is_price last ≡ true → is_price s.last ≡ true)
      (λ last os a p. p) (λ rest last z a p. p) (λ rest last o os z d w a p. p) (λ rest last o os z d f a p. p)
      (λ rest last o os s d h a p. h a.1 p)
      (λ rest last o os s d w f l h a p. h a.1 (day_priced o.limit o.validity a.0.stands d))
      (λ rest last o os z d w f l a p. day_priced o.limit o.validity a.0.stands d)

-- what is left of an order that is not filled
abbrev Remains : ℕ → Ending → ℕ → Type 0
Remains q Filled rest = Unit {0}
Remains q Nobody rest = (0 < rest) × (rest ≤ q)
Remains q Collared rest = (0 < rest) × (rest ≤ q)

remains_more : (p q : ℕ) (e : Ending) (rest : ℕ) → p ≤ q → Remains p e rest → Remains q e rest
remains_more p q Filled rest l h = tt
remains_more p q Nobody rest l h = (h.0, omega (arith, h.1))
remains_more p q Collared rest l h = (h.0, omega (arith, h.1))

sweep_remains : (allows : ℕ → ℕ → Bool) (t : Order) (rest last : ℕ) (os : List Order) → Remains rest (sweep allows t rest last os).ending (sweep allows t rest last os).rest
sweep_remains allows t = sweep_by allows t (λ rest last os s. Remains rest s.ending s.rest)
    (λ last os. tt) (λ rest last z. (z, omega arith)) (λ rest last o os z d w. (z, omega arith)) (λ rest last o os z d f. (z, omega arith))
    (λ rest last o os s d h. h)
    (λ rest last o os s d w f l h. remains_more (rest - o.«open») rest s.ending s.rest (omega arith) h)
    (λ rest last o os z d w f l. tt)

-- ---- queues that lose

below_like : (c : ℕ) (x y : Order) → Like x y → BuysBelow c y → BuysBelow c x
below_like c x y l h d = omega (arith, l.limit, h (ap is_day (sym l.validity) ∙ d))

from_like : (c : ℕ) (x y : Order) → Like x y → SellsFrom c y → SellsFrom c x
from_like c x y l h d = omega (arith, l.limit, h (ap is_day (sym l.validity) ∙ d))

pub apart_parts : {bs bs' ss ss' : List Order} → Part bs' bs → Part ss' ss → Apart bs ss → Apart bs' ss'
apart_parts p q a = record { at = a.at; buys = part_all (BuysBelow a.at) (below_like a.at) p a.buys; sells = part_all (SellsFrom a.at) (from_like a.at) q a.sells }

module _ (v : Venue) where
  -- both queues lose records, and the prices move to prices
  pub parts_rested : (b : Book) (bs ss : List Order) (s l : ℕ) → Part bs b.buys → Part ss b.sells → is_price s ≡ true → is_price l ≡ true → Rested v b → Rested v (with_prices s l (with_orders bs ss b))
  parts_rested b bs ss s l p q hs hl r = record {
    buys = part_all (Good v Buy) (good_like v Buy) p r.buys;
    sells = part_all (Good v Sell) (good_like v Sell) q r.sells;
    stops = r.stops;
    buys_sorted = part_sorted p r.buys_sorted;
    sells_sorted = part_sorted q r.sells_sorted;
    stops_sorted = r.stops_sorted;
    static = hs;
    last = hl;
  }

  pub parts_unique : (b : Book) (bs ss : List Order) → Part bs b.buys → Part ss b.sells → Unique b → Unique (with_orders bs ss b)
  parts_unique b bs ss p q u k = omega (arith, u k, part_named k p, part_named k q)

  pub parts_sound : (b : Book) (bs ss : List Order) (l : ℕ) → Part bs b.buys → Part ss b.sells → is_price l ≡ true → Sound v b → Sound v (with_last l (with_orders bs ss b))
  parts_sound b bs ss l p q h s = record { rested = parts_rested b bs ss b.static l p q s.rested.static h s.rested; unique = parts_unique b bs ss p q s.unique; apart = λ c. apart_parts p q (s.apart c) }

  opposite_sound : (side : Side) (os : List Order) (l : ℕ) (b : Book) → Part os (opposite side b) → is_price l ≡ true → Sound v b → Sound v (with_last l (with_opposite side os b))
  opposite_sound Buy os l b p h s = parts_sound b b.buys os l (part_same b.buys) p h s
  opposite_sound Sell os l b p h s = parts_sound b os b.sells l p (part_same b.sells) h s

  opposite_good : (side : Side) (b : Book) → Rested v b → AllByRecursion (Good v (other_side side)) (opposite side b)
  opposite_good Buy b r = r.sells
  opposite_good Sell b r = r.buys

  opposite_sorted : (side : Side) (b : Book) → Rested v b → Sorted order_ahead (opposite side b)
  opposite_sorted Buy b r = r.sells_sorted
  opposite_sorted Sell b r = r.buys_sorted

  -- ---- joining

  abbrev joins : Side → Order → Book → Book
  joins side o b = with_own_queue side (joined order_ahead o (own_queue side b)) b

  joins_rested : (side : Side) (o : Order) (b : Book) → Good v side o → Rested v b → Rested v (joins side o b)
  joins_rested Buy o b g r = record { buys = all_joined (Good v Buy) order_ahead o b.buys g r.buys; sells = r.sells; stops = r.stops; buys_sorted = sorted_joined order_ahead order_never_both order_trans o b.buys r.buys_sorted; sells_sorted = r.sells_sorted; stops_sorted = r.stops_sorted; static = r.static; last = r.last }
  joins_rested Sell o b g r = record { buys = r.buys; sells = all_joined (Good v Sell) order_ahead o b.sells g r.sells; stops = r.stops; buys_sorted = r.buys_sorted; sells_sorted = sorted_joined order_ahead order_never_both order_trans o b.sells r.sells_sorted; stops_sorted = r.stops_sorted; static = r.static; last = r.last }

  joins_count : (side : Side) (o : Order) (b : Book) (k : ℕ) → count k (joins side o b) ≡ named k o + count k b
  joins_count Buy o b k = omega (arith, total_joined (named k) order_ahead o b.buys)
  joins_count Sell o b k = omega (arith, total_joined (named k) order_ahead o b.sells)

  joins_unique : (side : Side) (o : Order) (b : Book) → count o.number b ≡ 0 → Unique b → Unique (joins side o b)
  joins_unique side o b z u k = omega (arith, joins_count side o b k, room_for o.number (λ k. count k b) u z k)

  -- an order that the other side is beyond, or that is no day order, joins apart
  joins_apart : (side : Side) (o : Order) (b : Book) → (is_day o.validity ≡ true → AllByRecursion (Beyond side o.limit) (opposite side b)) → Apart b.buys b.sells → Apart (joins side o b).buys (joins side o b).sells
  joins_apart Buy o b h a =
      let c = max a.at (suc o.limit) in
      elim (cases_Bool (is_day o.validity)) [
        | inl d ↦ record {
          at = c;
          buys = all_joined (BuysBelow c) order_ahead o b.buys (λ _. omega arith) (All-weaker (BuysBelow a.at) (BuysBelow c) (λ x k e. omega (arith, k e)) b.buys a.buys);
          sells = all_both (SellsFrom a.at) (Beyond Buy o.limit) (SellsFrom c) (λ y k n e. omega (arith, k e, leb-false y.limit o.limit (n e))) b.sells a.sells (h d);
        }
        | inr d ↦ record { at = a.at; buys = all_joined (BuysBelow a.at) order_ahead o b.buys (λ e. absurd (both_ways (is_day o.validity) d e)) a.buys; sells = a.sells }
      ]
  joins_apart Sell o b h a =
      let c = min a.at o.limit in
      elim (cases_Bool (is_day o.validity)) [
        | inl d ↦ record {
          at = c;
          buys = all_both (BuysBelow a.at) (Beyond Sell o.limit) (BuysBelow c) (λ y k n e. omega (arith, k e, leb-false o.limit y.limit (n e))) b.buys a.buys (h d);
          sells = all_joined (SellsFrom c) order_ahead o b.sells (λ _. omega arith) (All-weaker (SellsFrom a.at) (SellsFrom c) (λ x k e. omega (arith, k e)) b.sells a.sells);
        }
        | inr d ↦ record { at = a.at; buys = a.buys; sells = all_joined (SellsFrom a.at) order_ahead o b.sells (λ e. absurd (both_ways (is_day o.validity) d e)) a.sells }
      ]

  joins_phase : (side : Side) (o : Order) (b : Book) → (joins side o b).phase ≡ b.phase
  joins_phase Buy o b = refl
  joins_phase Sell o b = refl

  pub joins_sound : (o : Order) (b : Book) → Good v o.side o → count o.number b ≡ 0 → (is_continuous b.phase ≡ true → is_day o.validity ≡ true → AllByRecursion (Beyond o.side o.limit) (opposite o.side b)) → Sound v b → Sound v (join o b)
  joins_sound o b g z h s = record {
    rested = joins_rested o.side o b g s.rested;
    unique = joins_unique o.side o b z s.unique;
    apart = λ c. let c' : is_continuous b.phase ≡ true = ap is_continuous (sym (joins_phase o.side o b)) ∙ c in joins_apart o.side o b (h c') (s.apart c');
  }

  -- in call nothing has to be apart
  pub call_sound : (b : Book) → Rested v b → Unique b → Sound v (with_phase CallPhase b)
  call_sound b r u = record {
    rested = record { buys = r.buys; sells = r.sells; stops = r.stops; buys_sorted = r.buys_sorted; sells_sorted = r.sells_sorted; stops_sorted = r.stops_sorted; static = r.static; last = r.last };
    unique = u;
    apart = λ c. absurd (true≢false (sym c));
  }

  -- ---- sweeps

  -- an order that comes to sweep, its number not live
  pub record Coming (t : Order) (b : Book) : Type 0 where
    pub number : is_number t.number ≡ true
    pub quantity : is_quantity t.«open» ≡ true
    pub priced : is_price t.limit ≡ true
    pub is_lawful : Lawful v.grid.lawful t.limit
    pub new : count t.number b ≡ 0

  day_stands : (limit : ℕ) (w : Validity) → is_price limit ≡ true → is_day w ≡ true → may_stand limit w ≡ true
  day_stands limit Day h d = h
  day_stands limit Ioc h d = absurd (true≢false (sym d))
  day_stands limit Vfu h d = absurd (true≢false (sym d))

  rest_good : (t : Order) (b : Book) (rest : ℕ) → Coming t b → is_day t.validity ≡ true → (0 < rest) × (rest ≤ t.«open») → Good v t.side (with_open t rest)
  rest_good t b rest i d h = record { on_side = refl; number = i.number; quantity = quantity_less rest t.«open» i.quantity h.0 h.1; stands = day_stands t.limit t.validity i.priced d; is_lawful = λ _. i.is_lawful }

  settled_safe : (d : Bool) (t : Order) (b : Book) (rest : ℕ) (e : Ending) → is_day t.validity ≡ d → Coming t b → Remains t.«open» e rest → (e ≡ Nobody → AllByRecursion (Beyond t.side t.limit) (opposite t.side b)) → Sound v b → Safe v (settled d t b rest e)
  settled_safe d t b rest Filled i c r h s = record { sound = s; two = tt }
  settled_safe true t b rest Nobody i c r h s = record { sound = joins_sound (with_open t rest) b (rest_good t b rest c i r) c.new (λ _ _. h refl) s; two = tt }
  settled_safe true t b rest Collared i c r h s = record { sound = call_sound (join (with_open t rest) b) (joins_rested t.side (with_open t rest) b (rest_good t b rest c i r) s.rested) (joins_unique t.side (with_open t rest) b c.new s.unique); two = tt }
  settled_safe false t b rest Nobody i c r h s = record { sound = s; two = (tt, tt) }
  settled_safe false t b rest Collared i c r h s = record { sound = s; two = (tt, tt) }

  opposite_is : (side : Side) (l : ℕ) (os : List Order) (b : Book) → opposite side (with_last l (with_opposite side os b)) ≡ os
  opposite_is Buy l os b = refl
  opposite_is Sell l os b = refl

  opposite_less : (k : ℕ) (side : Side) (b : Book) → total (named k) (opposite side b) ≤ count k b
  opposite_less k Buy b = omega arith
  opposite_less k Sell b = omega arith

  opposite_count : (k : ℕ) (side : Side) (os : List Order) (b : Book) → Part os (opposite side b) → count k (with_opposite side os b) ≤ count k b
  opposite_count k Buy os b p = omega (arith, part_named k p)
  opposite_count k Sell os b p = omega (arith, part_named k p)

  pub sweeps_safe : (t : Order) (b : Book) → Coming t b → Sound v b → Safe v (sweeps v t b)
  unfolding sweeps
  sweeps_safe t b i s =
      let allows = v.allows b.static in
      let os = opposite t.side b in
      let w = swept_by v t b in
      let r = s.rested in
      let b' = with_last w.last (with_opposite t.side w.queue b) in
      let part = part_swept allows t t.«open» b.last os in
      let good = opposite_good t.side b r in
      let rest = settled_safe (is_day t.validity) t b' w.rest w.ending refl
      (record { number = i.number; quantity = i.quantity; priced = i.priced; is_lawful = i.is_lawful; new = omega (arith, i.new, opposite_count t.number t.side w.queue b part) })
      (sweep_remains allows t t.«open» b.last os)
      (λ e. subst (AllByRecursion (Beyond t.side t.limit)) (sym (opposite_is t.side w.last w.queue b)) (sweep_beyond v allows t t.«open» b.last os good (opposite_sorted t.side b r) e))
      (opposite_sound t.side w.queue w.last b part (sweep_last v (other_side t.side) allows t t.«open» b.last os good r.last) s) in
      record {
        sound = rest.sound;
        two = All-append Two w.trades _ (sweep_two allows t t.«open» b.last os (omega (arith, i.new, opposite_less t.number t.side b))) rest.two;
      }

  -- ---- stops

  pub stops_rested : (b : Book) (ss : List StopOrder) → AllByRecursion (GoodStop v) ss → Sorted stop_ahead ss → Rested v b → Rested v (with_stops ss b)
  stops_rested b ss g o r = record { buys = r.buys; sells = r.sells; stops = g; buys_sorted = r.buys_sorted; sells_sorted = r.sells_sorted; stops_sorted = o; static = r.static; last = r.last }

  -- a stop leaves
  pub stop_leaves : (p : StopOrder → Bool) (b : Book) → Rested v b → Rested v (with_stops (without_first p b.stops) b)
  stop_leaves p b r = stops_rested b _ (all_without (GoodStop v) p b.stops r.stops) (sorted_without stop_ahead p b.stops r.stops_sorted) r

  stop_coming : (s : StopOrder) (b : Book) → GoodStop v s → count s.number b ≡ 0 → Coming (as_day_order s) b
  stop_coming s b g z =
      let a = and_parts (is_number s.number) _ g.fits in
      let q = and_parts (is_quantity s.quantity) _ a.1 in
      record { number = a.0; quantity = q.0; priced = (and_parts (is_price s.trigger) (is_price s.limit) q.1).1; is_lawful = g.is_lawful; new = z }

  freed_safe : (again : Book → Moved) → ((b : Book) → Sound v b → Safe v (again b)) → (b : Book) (o : Option StopOrder) → due_stop b ≡ o → Sound v b → Safe v (freed v again b o)
  freed_safe again ih b None e s = record { sound = s; two = tt }
  freed_safe again ih b (Some x) e s =
      let p = reached b.last in
      let found = only_if_some (is_continuous b.phase) (first_that p b.stops) x e in
      let gone : (k : ℕ) → count k (without_due b) + of_number k x.number 1 ≡ count k b = λ k. omega (arith, total_left (stop_named k) p b.stops x found) in
      let b' : Sound v (without_due b) = record { rested = stop_leaves p b s.rested; unique = λ k. omega (arith, gone k, s.unique k); apart = s.apart } in
      let m = sweeps_safe (as_day_order x) (without_due b) (stop_coming x (without_due b) (all_first (GoodStop v) p b.stops x found s.rested.stops) (omega (arith, gone x.number, s.unique x.number, one_itself x.number))) b' in
      let i = ih (sweeps v (as_day_order x) (without_due b)).book m.sound in
      record { sound = i.sound; two = All-append Two (sweeps v (as_day_order x) (without_due b)).lines _ m.two i.two }

  release_safe : (n : ℕ) (b : Book) → Sound v b → Safe v (release v n b)
  unfolding release
  release_safe zero b s = record { sound = s; two = tt }
  release_safe (suc n) b s = freed_safe (release v n) (release_safe n) b (due_stop b) refl s

  pub release_all_safe : (b : Book) → Sound v b → Safe v (release_all v b)
  release_all_safe b s = release_safe (length b.stops) b s

  pub then_safe : (m : Moved) → Safe v m → Safe v (then_released v m)
  then_safe m s = let r = release_all_safe m.book s.sound in record { sound = r.sound; two = All-append Two m.lines _ s.two r.two }
