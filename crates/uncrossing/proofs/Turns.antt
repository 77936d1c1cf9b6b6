-- Pairing, turn by turn: the first buy and the first sell trade, until one of them does not accept.
use Rattle.std.proofs.Common.{◌≡◌, ℕ, ◌+◌, ◌-◌, ◌<◌, ◌≤◌, min, Bool, true, false, cond, leb, List, [], ◌∷◌, Some, length, get_or, drop, set, sym, refl, ap, ◌∙◌, subst, inl, inr, add-one, arith}
use Rattle.std.specs.List.{AllByRecursion}
use Rattle.std.proofs.lemmas.List.{drop-set-lt, length-take}
use Rattle.std.proofs.lemmas.Bool.{and_parts, and_cases, both_ways, cases_lt, cases_Bool, cond_both, lt-leb, le-leb, eq-eqb, ne_eqb, lt-ltb, le-ltb}
use Rattle.rules.specs.declared.order.Order.{Order}
use Rattle.rules.specs.Accepts.{accepts_buying, accepts_selling}
use Rattle.trading.specs.declared.report.ReportLine.TheVariants.{Trade}
use Rattle.trading.specs.Books.{reduced}
use Rattle.trading.specs.Desks.{Desk, desk_of}
use Rattle.trading.specs.Uncrossings.{Paired, unpaired, keeping_buy, keeping_sell, paired, trade_at, meets, pairs}
use Rattle.lent.specs.Contents.{Page}
use Rattle.uncrossing.specs.declared.pairing.Met.{Met}
use Rattle.uncrossing.specs.Spans.{span, blank_order}
use Rattle.uncrossing.specs.Fronts.{Fronted, InFront}
use Rattle.uncrossing.specs.Fits.{QueuesStart, orders_left}
use Rattle.uncrossing.specs.Meetings.{firsts_meet, NextPair, paired_at, TookOff, MetBy}
use Rattle.uncrossing.proofs.Spans.{span_cons, span_set}
use Rattle.lent.proofs.Pages.{page_after, wrote_all}

-- ---- the rule's pairing

-- an order that lost q, with those behind it; at 0 it leaves
abbrev pub less : Order → ℕ → List Order → List Order
less o q os = cond (leb o.«open» q) os (reduced o q ∷ os)

module _ (p : ℕ) where
  -- where no sell accepts, nothing trades
  meets_nobody : (b : Order) (next : List Order → Paired) (bs ss : List Order) → AllByRecursion (λ s. accepts_selling p s ≡ false) ss → meets p b next bs ss ≡ unpaired (b ∷ bs) ss
  unfolding meets
  meets_nobody b next bs [] h = refl
  meets_nobody b next bs (s ∷ ss) h = let e = h.0 in rw e (ap (keeping_sell s) (meets_nobody b next bs ss h.1))

  no_seller : (bs ss : List Order) → AllByRecursion (λ s. accepts_selling p s ≡ false) ss → pairs p bs ss ≡ unpaired bs ss
  unfolding pairs
  no_seller [] ss h = refl
  no_seller (b ∷ bs) ss h = elim (cases_Bool (accepts_buying p b)) [
    | inl e ↦ rw e (meets_nobody b (pairs p bs) bs ss h)
    | inr e ↦ rw e (ap (keeping_buy b) (no_seller bs ss h))
  ]

  -- where no buy accepts, nothing trades
  no_buyer : (bs ss : List Order) → AllByRecursion (λ b. accepts_buying p b ≡ false) bs → pairs p bs ss ≡ unpaired bs ss
  unfolding pairs
  no_buyer [] ss h = refl
  no_buyer (b ∷ bs) ss h = let e = h.0 in rw e (ap (keeping_buy b) (no_buyer bs ss h.1))

  -- where the first two do not meet, nothing trades
  pub pairs_end : (bs ss : List Order) → InFront p bs ss → firsts_meet p bs ss ≡ false → pairs p bs ss ≡ unpaired bs ss
  pairs_end [] ss f h = no_buyer [] ss tt
  pairs_end (b ∷ bs) [] f h = no_seller (b ∷ bs) [] tt
  pairs_end (b ∷ bs) (s ∷ ss) f h = elim (and_cases (accepts_buying p b) (accepts_selling p s) h) [
    | inl e ↦ no_buyer (b ∷ bs) (s ∷ ss) (e, f.buys.0 e)
    | inr e ↦ no_seller (b ∷ bs) (s ∷ ss) (e, f.sells.0 e)
  ]

  -- the first two trade
  pub pairs_trade : (b s : Order) (bs ss : List Order) → firsts_meet p (b ∷ bs) (s ∷ ss) ≡ true
      → pairs p (b ∷ bs) (s ∷ ss) ≡ paired (trade_at p b s) (pairs p (less b (min b.«open» s.«open») bs) (less s (min b.«open» s.«open») ss))
  unfolding pairs meets
  pairs_trade b s bs ss h =
      let both = and_parts (accepts_buying p b) (accepts_selling p s) h in
      let a = both.0 in
      let c = both.1 in
      let q = min b.«open» s.«open» in
      elim (cases_lt s.«open» b.«open») [
        | inl l ↦
            let t = lt-ltb s.«open» b.«open» l in
            let e : q ≡ s.«open» = omega arith in
            let x = lt-leb b.«open» s.«open» l in
            let y = le-leb s.«open» s.«open» (omega arith) in
            rw (a, c, t, e, x, y, a)
        | inr l ↦
            let t = le-ltb s.«open» b.«open» l in
            let e : q ≡ b.«open» = omega arith in
            let x = le-leb b.«open» b.«open» (omega arith) in
            elim (cases_lt b.«open» s.«open») [
              | inl k ↦
                  let y = lt-leb s.«open» b.«open» k in
                  let z = ne_eqb b.«open» s.«open» (omega arith) in
                  rw (a, c, t, e, x, y, z)
              | inr k ↦
                  let y = le-leb s.«open» b.«open» k in
                  let z = eq-eqb b.«open» s.«open» (omega arith) in
                  rw (a, c, t, e, x, y, z)
            ]
      ]

-- ---- in place

-- what TookOff says of a queue that ends at n
pub record Off (xs ys : List Order) (n i q j : ℕ) : Type 0 where
  pub queue : span j n ys ≡ less (get_or xs i blank_order) q (span (i + 1) n xs)
  pub beyond : drop n ys ≡ drop n xs
  pub low : i ≤ j
  pub high : j ≤ i + 1
  pub gone : (get_or xs i blank_order).«open» ≤ q → j ≡ i + 1

off : (xs ys : List Order) (n i q j : ℕ) → i < n → n ≤ length xs → TookOff xs ys i q j → Off xs ys n i q j
off xs ys n i q j lt le t =
    let o = get_or xs i blank_order in
    elim (cases_lt q o.«open») [
      | inl k ↦
          let e = t.left_over k in
          let l = lt-leb o.«open» q k in
          record {
            queue = rw l (ap (λ z. span z n ys) e.0 ∙ ap (span i n) e.1 ∙ span_set xs i n (reduced o q) lt le);
            beyond = ap (drop n) e.1 ∙ drop-set-lt n xs i _ lt;
            low = omega (arith, e.0);
            high = omega (arith, e.0);
            gone = λ h. absurd (omega arith);
          }
      | inr k ↦
          let e = t.used_up k in
          let l = le-leb o.«open» q k in
          record {
            queue = rw l (ap (λ z. span z n ys) e.0 ∙ ap (span (i + 1) n) e.1);
            beyond = ap (drop n) e.1;
            low = omega (arith, e.0);
            high = omega (arith, e.0);
            gone = λ h. e.0;
          }
    ]

-- both queues have a first order where the firsts meet
some_first : (p : ℕ) (bs ss : List Order) → firsts_meet p bs ss ≡ true → (0 < length bs) × (0 < length ss)
some_first p [] ss h = absurd (both_ways false refl h)
some_first p (b ∷ bs) [] h = absurd (both_ways false refl h)
some_first p (b ∷ bs) (s ∷ ss) h = (omega arith, omega arith)

pub both_left : (p : ℕ) (xs ys : List Order) (i n j m : ℕ) → n ≤ length xs → m ≤ length ys → firsts_meet p (span i n xs) (span j m ys) ≡ true → (i < n) × (j < m)
both_left p xs ys i n j m ln lm h =
    let some = some_first p (span i n xs) (span j m ys) h in
    (omega (arith, some.0, length-take (n - i) (drop i xs)), omega (arith, some.1, length-take (m - j) (drop j ys)))

-- those who accept still stand in front when q is taken off the first
front_less : (accepts : Order → Bool) → ((o : Order) (q : ℕ) → accepts (reduced o q) ≡ accepts o) → (o : Order) (q : ℕ) (os : List Order) → Fronted accepts (o ∷ os) → Fronted accepts (less o q os)
front_less accepts same o q os f =
    cond_both (leb o.«open» q) _ _ (Fronted accepts) (λ _. f.1) (λ _. (λ e. f.0 (sym (same o q) ∙ e), f.1))

-- the queues and the page that a pairing leads to, with its lines behind those of a page
pub record Finish : Type 0 where
  pub buys : List Order
  pub sells : List Order
  pub page : Page

abbrev pub finish : Page → Paired → Finish
finish p r = record { buys = r.buys; sells = r.sells; page = page_after p r.trades }

-- a pairing at p is under way: what is still to come leads where all of it leads
pub record Pairing (p : ℕ) (d : Desk) (page : Page) (d' : Desk) (page' : Page) (met : Met) : Type 0 where
  pub leads : finish page' (pairs p (span met.buys d'.state.buys d'.buys) (span met.sells d'.state.sells d'.sells)) ≡ finish page (paired_at p d)
  pub fronts : InFront p (span met.buys d'.state.buys d'.buys) (span met.sells d'.state.sells d'.sells)
  pub start : QueuesStart met d'
  pub few : page'.written + orders_left met d.state ≤ page.written + (d.state.buys + d.state.sells)
  pub buys_beyond : drop d.state.buys d'.buys ≡ drop d.state.buys d.buys
  pub sells_beyond : drop d.state.sells d'.sells ≡ drop d.state.sells d.sells
  pub stops : d'.stops ≡ d.stops
  pub state : d'.state ≡ d.state

-- one turn
module _ {p i j q : ℕ} {d d' : Desk} {page page' : Page} {met : Met} {buy sell : Order} {buys sells : List Order} (h : Pairing p d page d' page' met)
    (next : NextPair p (span met.buys d'.state.buys d'.buys) (span met.sells d'.state.sells d'.sells) (Some (buy, sell)))
    (e : q ≡ min buy.«open» sell.«open») (tx : TookOff d'.buys buys met.buys q i) (ty : TookOff d'.sells sells met.sells q j) where
  abbrev b : Order
  b = get_or d'.buys met.buys blank_order

  abbrev s : Order
  s = get_or d'.sells met.sells blank_order

  lt : (met.buys < d'.state.buys) × (met.sells < d'.state.sells)
  lt = both_left p d'.buys d'.sells met.buys d'.state.buys met.sells d'.state.sells h.start.buys h.start.sells next.0

  bs : span met.buys d'.state.buys d'.buys ≡ b ∷ span (met.buys + 1) d'.state.buys d'.buys
  bs = span_cons d'.buys met.buys d'.state.buys blank_order lt.0 h.start.buys

  ss : span met.sells d'.state.sells d'.sells ≡ s ∷ span (met.sells + 1) d'.state.sells d'.sells
  ss = span_cons d'.sells met.sells d'.state.sells blank_order lt.1 h.start.sells

  buy_is : buy ≡ b
  buy_is = next.1 ∙ ap (λ os. get_or os 0 blank_order) bs

  sell_is : sell ≡ s
  sell_is = next.2 ∙ ap (λ os. get_or os 0 blank_order) ss

  buys_off : Off d'.buys buys d'.state.buys met.buys q i
  buys_off = off d'.buys buys d'.state.buys met.buys q i lt.0 h.start.buys tx

  sells_off : Off d'.sells sells d'.state.sells met.sells q j
  sells_off = off d'.sells sells d'.state.sells met.sells q j lt.1 h.start.sells ty

  -- at least one of the two is used up
  fewer : orders_left (record { buys = i; sells = j }) d'.state < orders_left met d'.state
  fewer = elim (cases_lt b.«open» s.«open») [
    | inl k ↦ omega (arith, buys_off.gone (omega (arith, e, ap (λ o. o.«open») buy_is, ap (λ o. o.«open») sell_is)), sells_off.low, lt.0, lt.1)
    | inr k ↦ omega (arith, sells_off.gone (omega (arith, e, ap (λ o. o.«open») buy_is, ap (λ o. o.«open») sell_is)), buys_off.low, lt.0, lt.1)
  ]

  pub turn : (page'' : Page) → page''.lines ≡ set page'.lines page'.written (Trade buy.number sell.number p q) → page''.written ≡ page'.written + 1 → length buys ≡ length d'.buys → length sells ≡ length d'.sells
      → Pairing p d page (desk_of d'.state buys sells d'.stops) page'' (record { buys = i; sells = j })
  turn page'' line place bl sl =
      let bq = buys_off.queue in
      let sq = sells_off.queue in
      let first : firsts_meet p (b ∷ span (met.buys + 1) d'.state.buys d'.buys) (s ∷ span (met.sells + 1) d'.state.sells d'.sells) ≡ true = rw (bs, ss) at next.0 in
      let go = pairs_trade p b s (span (met.buys + 1) d'.state.buys d'.buys) (span (met.sells + 1) d'.state.sells d'.sells) first in
      let before = h.leads in
      record {
        leads = rw (line, place, add-one, bq, sq, e, buy_is, sell_is) (sym (ap (finish page') go)) ∙ rw (bs, ss) at before;
        fronts = record {
          buys = subst (Fronted (accepts_buying p)) (sym bq) (front_less (accepts_buying p) (λ o k. refl) b q _ (subst (Fronted (accepts_buying p)) bs h.fronts.buys));
          sells = subst (Fronted (accepts_selling p)) (sym sq) (front_less (accepts_selling p) (λ o k. refl) s q _ (subst (Fronted (accepts_selling p)) ss h.fronts.sells));
        };
        start = record { buys_start = omega (arith, buys_off.high, lt.0); sells_start = omega (arith, sells_off.high, lt.1); buys = omega (arith, bl, h.start.buys); sells = omega (arith, sl, h.start.sells) };
        few = omega (arith, fewer, place, h.few, ap (λ s. s.buys) h.state, ap (λ s. s.sells) h.state);
        buys_beyond = ap (λ s. drop s.buys buys) (sym h.state) ∙ buys_off.beyond ∙ ap (λ s. drop s.buys d'.buys) h.state ∙ h.buys_beyond;
        sells_beyond = ap (λ s. drop s.sells sells) (sym h.state) ∙ sells_off.beyond ∙ ap (λ s. drop s.sells d'.sells) h.state ∙ h.sells_beyond;
        stops = h.stops;
        state = h.state;
      }

-- the last turn is done
pub met_by : {p : ℕ} {d d' : Desk} {page page' : Page} {met : Met} → page'.written ≤ length page.lines → firsts_meet p (span met.buys d'.state.buys d'.buys) (span met.sells d'.state.sells d'.sells) ≡ false
    → Pairing p d page d' page' met → MetBy p d page d' page' met
met_by {p} {d} {d'} {page} {page'} {met} within unmet h =
    let end : finish page' (unpaired (span met.buys d'.state.buys d'.buys) (span met.sells d'.state.sells d'.sells)) ≡ finish page (paired_at p d) = sym (ap (finish page') (pairs_end p _ _ h.fronts unmet)) ∙ h.leads in
    record {
      buys_left = ap (λ s. span met.buys s.buys d'.buys) (sym h.state) ∙ ap (λ x. x.buys) end;
      sells_left = ap (λ s. span met.sells s.sells d'.sells) (sym h.state) ∙ ap (λ x. x.sells) end;
      trades = wrote_all (ap (λ x. x.page) end) within;
      buys_start = omega (arith, h.start.buys_start, ap (λ s. s.buys) h.state);
      sells_start = omega (arith, h.start.sells_start, ap (λ s. s.sells) h.state);
      few = h.few;
      buys_beyond = h.buys_beyond;
      sells_beyond = h.sells_beyond;
      stops = h.stops;
    }
