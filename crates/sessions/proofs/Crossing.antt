-- After the trades at the winner's price, or where nothing executes, no day orders cross.
use Rattle.std.proofs.Common.{◌≡◌, ℕ, suc, ◌+◌, ◌<◌, ◌≤◌, min, max, Bool, true, false, ◌||◌, eqb, leb, List, [], ◌∷◌, inl, inr, arith}
use native.Mathlib.Decide.{dec_lt}
use Rattle.std.specs.List.{AllByRecursion}
use Rattle.std.proofs.ByRecursion.{All-weaker}
use Rattle.std.proofs.lemmas.Bool.{cases_Bool, both_ways}
use Rattle.std.proofs.lemmas.Bool.Decides.{nat_tests}
use Rattle.grid.specs.Neighbours.{Lawful}
use Rattle.rules.specs.declared.order.Order.{Order}
use Rattle.rules.specs.declared.order.Side.{Side}
use Rattle.rules.specs.declared.order.Side.TheVariants.{Buy, Sell}
use Rattle.rules.specs.Accepts.{accepts_buying, accepts_selling}
use Rattle.rules.specs.Auctions.{total, bought_at, sold_at}
use Rattle.trading.specs.Queues.{limit_ahead, order_ahead}
use Rattle.trading.specs.Books.{Venue, is_day}
use Rattle.trading.specs.Uncrossings.{pairs}
use Rattle.sessions.proofs.Standing.{Good, good_some, day_limited, BuysBelow, SellsFrom, Apart}
use Rattle.sessions.proofs.Parts.{part_all, good_like, parts_paired}
use Rattle.sessions.proofs.Continuing.{all_both, limits_of}
use Rattle.sessions.proofs.Leftover.{buys_yes, buys_no, sells_yes, sells_no, ended, buys_fall, sells_fall, Front, sells_left, buys_left}
use Rattle.sessions.proofs.Ranking.{Sorted}
use Rattle.sessions.proofs.Sums.{total_zero}

-- ---- in a sorted queue those who accept a price stand in front

sell_behind : (q a b : ℕ) → limit_ahead Sell Sell b a ≡ false → (eqb a 0 || leb a q) ≡ false → (eqb b 0 || leb b q) ≡ false
sell_behind q a b h k = grind (arith, nat_tests)

buy_behind : (q a b : ℕ) → limit_ahead Buy Buy b a ≡ false → (eqb a 0 || leb q a) ≡ false → (eqb b 0 || leb q b) ≡ false
buy_behind q a b h k = grind (arith, nat_tests)

module _ (v : Venue) where
  front : (side : Side) (accepts : Order → Bool) (at : Order → ℕ) → ((o : Order) → accepts o ≡ false → at o ≡ 0)
      → ((o p : Order) → limit_ahead side side p.limit o.limit ≡ false → accepts o ≡ false → accepts p ≡ false)
      → (os : List Order) → AllByRecursion (Good v side) os → Sorted order_ahead os → Front accepts at os
  front side accepts at nothing behind [] g s = tt
  front side accepts at nothing behind (o ∷ os) g s =
      (λ n. total_zero at accepts nothing os (all_both (Good v side) (λ p. order_ahead p o ≡ false) (λ p. accepts p ≡ false) (λ p k h. behind o p (limits_of side side o p k.on_side g.0.on_side h) n) os g.1 s.0), front side accepts at nothing behind os g.1 s.1)

  front_buys : (q : ℕ) (os : List Order) → AllByRecursion (Good v Buy) os → Sorted order_ahead os → Front (accepts_buying q) (bought_at q) os
  front_buys q = front Buy (accepts_buying q) (bought_at q) (buys_no q) (λ o p. buy_behind q o.limit p.limit)

  front_sells : (q : ℕ) (os : List Order) → AllByRecursion (Good v Sell) os → Sorted order_ahead os → Front (accepts_selling q) (sold_at q) os
  front_sells q = front Sell (accepts_selling q) (sold_at q) (sells_no q) (λ o p. sell_behind q o.limit p.limit)

-- ---- queues are apart where no two of their day orders cross

-- a day order is below each day order of a queue
abbrev BelowEach : List Order → Order → Type 0
BelowEach ss x = is_day x.validity ≡ true → AllByRecursion (λ y. is_day y.validity ≡ true → x.limit < y.limit) ss

apart_from : (bs ss : List Order) → AllByRecursion (SellsFrom 1) ss → AllByRecursion (BelowEach ss) bs → Apart bs ss
apart_from [] ss z a = record { at = 1; buys = tt; sells = z }
apart_from (x ∷ bs) ss z a =
    let i = apart_from bs ss z a.1 in
    elim (cases_Bool (is_day x.validity)) [
      | inl d ↦ (let c = max i.at (suc x.limit) in record {
        at = c;
        buys = (λ _. omega arith, All-weaker (BuysBelow i.at) (BuysBelow c) (λ o k e. omega (arith, k e)) bs i.buys);
        sells = all_both (SellsFrom i.at) (λ y. is_day y.validity ≡ true → x.limit < y.limit) (SellsFrom c) (λ y k n e. omega (arith, k e, n e)) ss i.sells (a.0 d);
      })
      | inr d ↦ record { at = i.at; buys = (λ e. absurd (both_ways (is_day x.validity) d e), i.buys); sells = i.sells }
    ]

-- each record counts in its total
each_counts : (at : ℕ → Order → ℕ) (xs : List Order) → AllByRecursion (λ x. (q : ℕ) → at q x ≤ total (at q) xs) xs
each_counts at [] = tt
each_counts at (x ∷ xs) = (λ q. omega arith, All-weaker (λ y. (q : ℕ) → at q y ≤ total (at q) xs) (λ y. (q : ℕ) → at q y ≤ at q x + total (at q) xs) (λ y h q. omega (arith, h q)) xs (each_counts at xs))

-- a record of a queue, with what is known of it
pub record Known (at : ℕ → Order → ℕ) (v : Venue) (side : Side) (xs : List Order) (x : Order) : Type 0 where
  pub good : Good v side x
  pub counts : (q : ℕ) → at q x ≤ total (at q) xs

module _ (v : Venue) where
  known : (at : ℕ → Order → ℕ) (side : Side) (xs : List Order) → AllByRecursion (Good v side) xs → AllByRecursion (Known at v side xs) xs
  known at side xs g = all_both (Good v side) (λ x. (q : ℕ) → at q x ≤ total (at q) xs) (Known at v side xs) (λ x k c. record { good = k; counts = c }) xs g (each_counts at xs)

  good_day : (side : Side) (y : Order) → Good v side y → SellsFrom 1 y
  good_day side y g d = day_limited y.limit y.validity g.stands d

  -- where a crossing would be absurd
  apart_known : (bs ss : List Order) → AllByRecursion (Good v Buy) bs → AllByRecursion (Good v Sell) ss
      → ((x y : Order) → Known bought_at v Buy bs x → Known sold_at v Sell ss y → is_day y.validity ≡ true → y.limit ≤ x.limit → ⊥) → Apart bs ss
  apart_known bs ss gb gs no-cross =
      apart_from bs ss (All-weaker (Good v Sell) (SellsFrom 1) (good_day Sell) ss gs)
      (All-weaker (Known bought_at v Buy bs) (BelowEach ss) (λ x k d. All-weaker (Known sold_at v Sell ss) (λ y. is_day y.validity ≡ true → x.limit < y.limit) (λ y l e. below x y k l e) ss (known sold_at Sell ss gs)) bs (known bought_at Buy bs gb))
    where
      below : (x y : Order) → Known bought_at v Buy bs x → Known sold_at v Sell ss y → is_day y.validity ≡ true → x.limit < y.limit
      below x y k l e = elim (dec_lt x.limit y.limit) [ yes h ↦ h | no h ↦ absurd (no-cross x y k l e (omega arith)) ]

-- ---- nobody crosses

buy_accepts : (q : ℕ) (x : Order) → q ≤ x.limit → accepts_buying q x ≡ true
buy_accepts q x h = grind (arith, nat_tests)

buy_below : (p : ℕ) (x : Order) → accepts_buying p x ≡ false → x.limit < p
buy_below p x h = grind (arith, nat_tests)

sell_accepts : (q : ℕ) (y : Order) → y.limit ≤ q → accepts_selling q y ≡ true
sell_accepts q y h = grind (arith, nat_tests)

sell_above : (p : ℕ) (y : Order) → accepts_selling p y ≡ false → p < y.limit
sell_above p y h = grind (arith, nat_tests)

-- what two queues execute at q
abbrev pub executes : List Order → List Order → ℕ → ℕ
executes bs ss q = min (total (bought_at q) bs) (total (sold_at q) ss)

-- were a buy x and a sell y left at limits that cross, the limit of y would execute more than p
module _ (p : ℕ) (bs ss : List Order)
    (fb : (q : ℕ) → Front (accepts_buying q) (bought_at q) bs) (fs : (q : ℕ) → Front (accepts_selling q) (sold_at q) ss)
    (x y : Order) (xo : 0 < x.«open») (yo : 0 < y.«open»)
    (bx : (q : ℕ) → bought_at q x ≤ total (bought_at q) (pairs p bs ss).buys)
    (sy : (q : ℕ) → sold_at q y ≤ total (sold_at q) (pairs p bs ss).sells)
    (tops : executes bs ss y.limit ≤ executes bs ss p) (crossed : y.limit ≤ x.limit) where
  used_buys : total (bought_at p) (pairs p bs ss).buys ≡ 0 → ⊥
  used_buys z = elim (cases_Bool (accepts_buying p x)) [
    | inl a ↦ omega (arith, buys_yes p x a, bx p)
    | inr a ↦
        let q = y.limit in
        let low : q ≤ p = omega (arith, buy_below p x a) in
        let bq = buys_yes q x (buy_accepts q x crossed) in
        let sq = sells_yes q y (sell_accepts q y (omega arith)) in
        elim ((sells_left p q low bs ss).1 (fs q)) [
          | inl n ↦ omega (arith, sy q)
          | inr e ↦ omega (arith, sy q, bx q, buys_fall p q low bs ss, buys_fall p p (omega arith) bs ss)
        ]
  ]

  used_sells : total (sold_at p) (pairs p bs ss).sells ≡ 0 → ⊥
  used_sells z = elim (cases_Bool (accepts_selling p y)) [
    | inl a ↦ omega (arith, sells_yes p y a, sy p)
    | inr a ↦
        let q = y.limit in
        let high : p ≤ q = omega (arith, sell_above p y a) in
        let bq = buys_yes q x (buy_accepts q x crossed) in
        let sq = sells_yes q y (sell_accepts q y (omega arith)) in
        elim ((buys_left p q high bs ss).1 (fb q)) [
          | inl n ↦ omega (arith, bx q)
          | inr e ↦ omega (arith, sy q, bx q, sells_fall p q high bs ss, sells_fall p p (omega arith) bs ss)
        ]
  ]

  never_crossed : ⊥
  never_crossed = elim (ended p bs ss) [ inl z ↦ used_buys z | inr z ↦ used_sells z ]

module _ (v : Venue) where
  good_lawful : (y : Order) → Good v Sell y → is_day y.validity ≡ true → Lawful v.grid.lawful y.limit
  good_lawful y g d = g.is_lawful (good_day v Sell y g d)

  -- after a pairing at a price that no lawful price tops
  pub paired_apart : (p : ℕ) (bs ss : List Order) → AllByRecursion (Good v Buy) bs → AllByRecursion (Good v Sell) ss → Sorted order_ahead bs → Sorted order_ahead ss
      → ((q : ℕ) → Lawful v.grid.lawful q → executes bs ss q ≤ executes bs ss p) → Apart (pairs p bs ss).buys (pairs p bs ss).sells
  paired_apart p bs ss gb gs sb st tops =
      let r = pairs p bs ss in
      let parts = parts_paired p bs ss in
      apart_known v r.buys r.sells (part_all (Good v Buy) (good_like v Buy) parts.0 gb) (part_all (Good v Sell) (good_like v Sell) parts.1 gs)
      (λ x y k l d h. never_crossed p bs ss (λ q. front_buys v q bs gb sb) (λ q. front_sells v q ss gs st) x y (good_some v Buy x k.good) (good_some v Sell y l.good) k.counts l.counts (tops y.limit (good_lawful y l.good d)) h)

  -- where no lawful price executes anything
  pub unexecuted_apart : (bs ss : List Order) → AllByRecursion (Good v Buy) bs → AllByRecursion (Good v Sell) ss → ((q : ℕ) → Lawful v.grid.lawful q → executes bs ss q ≡ 0) → Apart bs ss
  unexecuted_apart bs ss gb gs none =
      apart_known v bs ss gb gs
      (λ x y k l d h.
      let q = y.limit in
      omega (arith, none q (good_lawful y l.good d), k.counts q, l.counts q, good_some v Buy x k.good, good_some v Sell y l.good, buys_yes q x (buy_accepts q x h), sells_yes q y (sell_accepts q y (omega arith))))
