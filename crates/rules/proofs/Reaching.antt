-- Every lawful price is equalled or beaten by a lawful price at or beside the last price or a limit.
use Rattle.std.proofs.Common.{◌≡◌, ℕ, ◌<◌, ◌≤◌, Bool, ◌⊎◌, List, [], ◌∷◌, Some, None, Option, sym, refl, inl, inr, arith}
use native.Mathlib.Decide.{dec_lt, dec_le}
use Rattle.std.specs.List.{AllByRecursion}
use Rattle.std.proofs.ByRecursion.{All-weaker}
use Rattle.std.proofs.lemmas.Bool.Decides.{nat_tests}
use Rattle.grid.specs.Neighbours.{Lawful, NextAbove, NextBelow}
use Rattle.rules.specs.declared.order.Order.{Order}
use Rattle.grid.specs.Prices.{distance}
use Rattle.rules.specs.Auctions.{Auction, total, bought_at, sold_at, buy_total, sell_total}
use Rattle.rules.proofs.Beating.{Beats, AsGood, as_good_trans}

-- w is lawful, and as good as every lawful price
pub record Best (lawful : ℕ → Bool) (a : Auction) (w : ℕ) : Type 0 where
  pub is_lawful : Lawful lawful w
  pub tops : (q : ℕ) → Lawful lawful q → AsGood a w q

-- `up` and `down` give the neighbours
pub record Neighboured (lawful : ℕ → Bool) (up down : ℕ → Option ℕ) : Type 0 where
  pub ups : (p : ℕ) → NextAbove lawful p (up p)
  pub downs : (p : ℕ) → NextBelow lawful p (down p)

-- c is x or a neighbour of it
abbrev pub Near : (up down : ℕ → Option ℕ) → ℕ → ℕ → Type 0
Near up down x c = (c ≡ x) ⊎ ((up x ≡ Some c) ⊎ (down x ≡ Some c))

-- Q of each lawful price at or beside x
abbrev pub Around : (ℕ → Type 0) → (lawful : ℕ → Bool) (up down : ℕ → Option ℕ) → ℕ → Type 0
Around Q lawful up down x = (c : ℕ) → Near up down x c → Lawful lawful c → Q c

-- P of the order's limit, unless it is a market order
abbrev pub AtLimit : (ℕ → Type 0) → Order → Type 0
AtLimit P o = 0 < o.limit → P o.limit

-- P of the last price and of every limit
pub record Anchors (P : ℕ → Type 0) (a : Auction) : Type 0 where
  pub at_last : P a.last
  pub at_buys : AllByRecursion (AtLimit P) a.buys
  pub at_sells : AllByRecursion (AtLimit P) a.sells

-- ---- where no limit lies between two prices, their totals are equal

-- the limit does not lie from `low` to `high`
abbrev Outside : ℕ → ℕ → Order → Type 0
Outside low high o = 0 < o.limit → low ≤ o.limit → high < o.limit

bought_same : (low high : ℕ) (o : Order) → low ≤ high → Outside low high o → bought_at low o ≡ bought_at high o
bought_same low high o h k = grind (arith, nat_tests)

sold_same : (low high : ℕ) (o : Order) → low ≤ high → Outside low high o → sold_at low o ≡ sold_at high o
sold_same low high o h k = grind (arith, nat_tests)

total_same : {X : Type 0} (f g : X → ℕ) (xs : List X) → AllByRecursion (λ x. f x ≡ g x) xs → total f xs ≡ total g xs
total_same f g [] h = refl
total_same f g (x ∷ xs) h = omega (arith, h.0, total_same f g xs h.1)

module _ (a : Auction) (low high : ℕ) (le : low ≤ high) where
  buys_same : AllByRecursion (Outside low high) a.buys → buy_total a.buys low ≡ buy_total a.buys high
  unfolding buy_total
  buys_same h =
      total_same (bought_at low) (bought_at high) a.buys
      (All-weaker (Outside low high) (λ o. bought_at low o ≡ bought_at high o) (λ o k. bought_same low high o le k) a.buys h)

  sells_same : AllByRecursion (Outside low high) a.sells → sell_total a.sells low ≡ sell_total a.sells high
  unfolding sell_total
  sells_same h =
      total_same (sold_at low) (sold_at high) a.sells
      (All-weaker (Outside low high) (λ o. sold_at low o ≡ sold_at high o) (λ o k. sold_same low high o le k) a.sells h)

-- of two prices with equal totals the nearer one wins
nearer : (a : Auction) (c q : ℕ) → buy_total a.buys q ≡ buy_total a.buys c → sell_total a.sells q ≡ sell_total a.sells c → distance c a.last < distance q a.last → Beats a c q
nearer a c q h k l = inr (omega arith, inr (omega arith, inl l))

-- ---- the nearest anchor from q up, at most `top`

-- no limit lies from q to below x
abbrev FromTo : ℕ → ℕ → Order → Type 0
FromTo q x o = 0 < o.limit → q ≤ o.limit → x ≤ o.limit

record NearestAbove (P : ℕ → Type 0) (q top : ℕ) (os : List Order) : Type 0 where
  pub at : ℕ
  pub holds : P at
  pub low : q ≤ at
  pub high : at ≤ top
  pub clear : AllByRecursion (FromTo q at) os

from_to_less : (q x y : ℕ) (os : List Order) → y ≤ x → AllByRecursion (FromTo q x) os → AllByRecursion (FromTo q y) os
from_to_less q x y os h = All-weaker (FromTo q x) (FromTo q y) (λ o k l m. omega (arith, k l m)) os

nearest_above : (P : ℕ → Type 0) (q top : ℕ) (os : List Order) → P top → q ≤ top → AllByRecursion (AtLimit P) os → NearestAbove P q top os
nearest_above P q top [] pt h ps = record { at = top; holds = pt; low = h; high = omega arith; clear = tt }
nearest_above P q top (o ∷ os) pt h ps = pick (nearest_above P q top os pt h ps.1)
  where
    keep : (n : NearestAbove P q top os) → FromTo q n.at o → NearestAbove P q top (o ∷ os)
    keep n k = record { at = n.at; holds = n.holds; low = n.low; high = n.high; clear = (k, n.clear) }

    pick : NearestAbove P q top os → NearestAbove P q top (o ∷ os)
    pick n = elim (dec_lt 0 o.limit) [
      | no k ↦ keep n (λ x y. absurd (k x))
      | yes x ↦ elim (dec_le q o.limit) [
        | no k ↦ keep n (λ _ y. absurd (k y))
        | yes y ↦ elim (dec_lt o.limit n.at) [
          | no k ↦ keep n (λ _ _. omega arith)
          | yes z ↦ record { at = o.limit; holds = ps.0 x; low = y; high = omega (arith, n.high); clear = (λ _ _. omega arith, from_to_less q n.at o.limit os (omega arith) n.clear) }
        ]
      ]
    ]

-- ---- the nearest anchor from q down, at least `bottom`

-- no limit lies above x and up to q
abbrev DownTo : ℕ → ℕ → Order → Type 0
DownTo q x o = o.limit ≤ q → o.limit ≤ x

record NearestBelow (P : ℕ → Type 0) (q bottom : ℕ) (os : List Order) : Type 0 where
  pub at : ℕ
  pub holds : P at
  pub low : bottom ≤ at
  pub high : at ≤ q
  pub clear : AllByRecursion (DownTo q at) os

down_to_less : (q x y : ℕ) (os : List Order) → x ≤ y → AllByRecursion (DownTo q x) os → AllByRecursion (DownTo q y) os
down_to_less q x y os h = All-weaker (DownTo q x) (DownTo q y) (λ o k l. omega (arith, k l)) os

nearest_below : (P : ℕ → Type 0) (q bottom : ℕ) (os : List Order) → P bottom → bottom ≤ q → AllByRecursion (AtLimit P) os → NearestBelow P q bottom os
nearest_below P q bottom [] pb h ps = record { at = bottom; holds = pb; low = omega arith; high = h; clear = tt }
nearest_below P q bottom (o ∷ os) pb h ps = pick (nearest_below P q bottom os pb h ps.1)
  where
    keep : (n : NearestBelow P q bottom os) → DownTo q n.at o → NearestBelow P q bottom (o ∷ os)
    keep n k = record { at = n.at; holds = n.holds; low = n.low; high = n.high; clear = (k, n.clear) }

    pick : NearestBelow P q bottom os → NearestBelow P q bottom (o ∷ os)
    pick n = elim (dec_le o.limit q) [
      | no k ↦ keep n (λ y. absurd (k y))
      | yes y ↦ elim (dec_lt n.at o.limit) [
        | no k ↦ keep n (λ _. omega arith)
        | yes z ↦ record { at = o.limit; holds = ps.0 (omega arith); low = omega (arith, n.low); high = y; clear = (λ _. omega arith, down_to_less q n.at o.limit os (omega arith) n.clear) }
      ]
    ]

-- ---- every lawful price is reached from an anchor

pub record Reached (lawful : ℕ → Bool) (up down : ℕ → Option ℕ) (P : ℕ → Type 0) (a : Auction) (q : ℕ) : Type 0 where
  pub anchor : ℕ
  pub holds : P anchor
  pub price : ℕ
  pub near : Near up down anchor price
  pub is_lawful : Lawful lawful price
  pub good : AsGood a price q

module _ {lawful : ℕ → Bool} {up down : ℕ → Option ℕ} (laws : Neighboured lawful up down) (P : ℕ → Type 0) (a : Auction) (anchors : Anchors P a) (q : ℕ) (lq : Lawful lawful q) where
  -- q is itself an anchor
  itself : (x : ℕ) → P x → q ≡ x → Reached lawful up down P a q
  itself x px e = record { anchor = x; holds = px; price = q; near = inl e; is_lawful = lq; good = inl refl }

  from_above : q ≤ a.last → Reached lawful up down P a q
  from_above h =
      let m = nearest_above P q a.last a.buys anchors.at_last h anchors.at_buys in
      let n = nearest_above P q m.at a.sells m.holds m.low anchors.at_sells in
      from n.at n.holds n.low (omega (arith, n.high, m.high)) (from_to_less q m.at n.at a.buys n.high m.clear) n.clear
    where
      from : (x : ℕ) → P x → q ≤ x → x ≤ a.last → AllByRecursion (FromTo q x) a.buys → AllByRecursion (FromTo q x) a.sells → Reached lawful up down P a q
      from x px low high k l = elim (dec_lt q x) [ no z ↦ itself x px (omega arith) | yes z ↦ beside z (down x) refl (laws.downs x) ]
        where
          outside : (c : ℕ) → c < x → (os : List Order) → AllByRecursion (FromTo q x) os → AllByRecursion (Outside q c) os
          outside c lt os = All-weaker (FromTo q x) (Outside q c) (λ o f y z. omega (arith, f y z)) os

          beside : q < x → (r : Option ℕ) → down x ≡ r → NextBelow lawful x r → Reached lawful up down P a q
          beside z None e d = absurd (d q z lq)
          beside z (Some c) e d = record {
            anchor = x;
            holds = px;
            price = c;
            near = inr (inr e);
            is_lawful = d.1;
            good = elim (dec_lt q c) [
              | no y ↦ elim (dec_lt c q) [ no w ↦ inl (omega arith) | yes w ↦ absurd (d.2 q w z lq) ]
              | yes y ↦ inr (nearer a c q (buys_same a q c (omega arith) (outside c d.0 a.buys k)) (sells_same a q c (omega arith) (outside c d.0 a.sells l)) (omega (arith, d.0)))
            ];
          }

  from_below : a.last ≤ q → Reached lawful up down P a q
  from_below h =
      let m = nearest_below P q a.last a.buys anchors.at_last h anchors.at_buys in
      let n = nearest_below P q m.at a.sells m.holds m.high anchors.at_sells in
      from n.at n.holds (omega (arith, n.low, m.low)) n.high (down_to_less q m.at n.at a.buys n.low m.clear) n.clear
    where
      from : (x : ℕ) → P x → a.last ≤ x → x ≤ q → AllByRecursion (DownTo q x) a.buys → AllByRecursion (DownTo q x) a.sells → Reached lawful up down P a q
      from x px low high k l = elim (dec_lt x q) [ no z ↦ itself x px (omega arith) | yes z ↦ beside z (up x) refl (laws.ups x) ]
        where
          outside : (c : ℕ) → x < c → (os : List Order) → AllByRecursion (DownTo q x) os → AllByRecursion (Outside c q) os
          outside c lt os = All-weaker (DownTo q x) (Outside c q) (λ o f y z. elim (dec_le o.limit q) [ yes w ↦ absurd (omega (arith, f w)) | no w ↦ omega arith ]) os

          beside : x < q → (r : Option ℕ) → up x ≡ r → NextAbove lawful x r → Reached lawful up down P a q
          beside z None e d = absurd (d q z lq)
          beside z (Some c) e d = record {
            anchor = x;
            holds = px;
            price = c;
            near = inr (inl e);
            is_lawful = d.1;
            good = elim (dec_lt c q) [
              | no y ↦ elim (dec_lt q c) [ no w ↦ inl (omega arith) | yes w ↦ absurd (d.2 q z w lq) ]
              | yes y ↦ inr (nearer a c q (sym (buys_same a c q (omega arith) (outside c d.0 a.buys k))) (sym (sells_same a c q (omega arith) (outside c d.0 a.sells l))) (omega (arith, d.0)))
            ];
          }

  pub reached : Reached lawful up down P a q
  reached = elim (dec_le q a.last) [ yes h ↦ from_above h | no h ↦ from_below (omega arith) ]

-- what is as good as every lawful price at or beside an anchor is as good as every lawful price
pub covers : {lawful : ℕ → Bool} {up down : ℕ → Option ℕ} → Neighboured lawful up down → (a : Auction) (w : ℕ) → Lawful lawful w → Anchors (Around (AsGood a w) lawful up down) a → Best lawful a w
covers {lawful} {up} {down} laws a w lw anchors = record { is_lawful = lw; tops = tops }
  where
    tops : (q : ℕ) → Lawful lawful q → AsGood a w q
    tops q lq =
        let r = reached laws (Around (AsGood a w) lawful up down) a anchors q lq in
        as_good_trans a w r.price q (r.holds r.price r.near r.is_lawful) r.good
