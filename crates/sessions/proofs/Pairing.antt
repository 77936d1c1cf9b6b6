-- What holds of every pairing: one principle, with a case for each way that a pairing can go.
use Rattle.std.proofs.Common.{◌≡◌, ℕ, ◌<◌, true, false, eqb, ltb, List, [], ◌∷◌, arith}
use Rattle.std.proofs.lemmas.Bool.{cond_both, eqb-true, eqb-false, ltb-true, ltb-false}
use Rattle.rules.specs.declared.order.Order.{Order}
use Rattle.rules.specs.Accepts.{accepts_buying, accepts_selling}
use Rattle.trading.specs.Books.{reduced}
use Rattle.trading.specs.Uncrossings.{Paired, unpaired, keeping_buy, keeping_sell, paired, trade_at, meets, pairs}

-- the ways of a pairing at p
module _ (p : ℕ) (P : List Order → List Order → Paired → Type 0)
    (no_buys : (ss : List Order) → P [] ss (unpaired [] ss))
    (no_sells : (b : Order) (bs : List Order) → P (b ∷ bs) [] (unpaired (b ∷ bs) []))
    (pass-buy : (b : Order) (bs ss : List Order) (r : Paired) → accepts_buying p b ≡ false → P bs ss r → P (b ∷ bs) ss (keeping_buy b r))
    (pass-sell : (b : Order) (bs : List Order) (s : Order) (ss : List Order) (r : Paired) → accepts_selling p s ≡ false → P (b ∷ bs) ss r → P (b ∷ bs) (s ∷ ss) (keeping_sell s r))
    (buy-left : (b : Order) (bs : List Order) (s : Order) (ss : List Order) (r : Paired) → accepts_buying p b ≡ true → accepts_selling p s ≡ true → s.«open» < b.«open» → P (reduced b s.«open» ∷ bs) ss r → P (b ∷ bs) (s ∷ ss) (paired (trade_at p b s) r))
    (even : (b : Order) (bs : List Order) (s : Order) (ss : List Order) (r : Paired) → accepts_buying p b ≡ true → accepts_selling p s ≡ true → b.«open» ≡ s.«open» → P bs ss r → P (b ∷ bs) (s ∷ ss) (paired (trade_at p b s) r))
    (sell-left : (b : Order) (bs : List Order) (s : Order) (ss : List Order) (r : Paired) → accepts_buying p b ≡ true → accepts_selling p s ≡ true → b.«open» < s.«open» → P bs (reduced s b.«open» ∷ ss) r → P (b ∷ bs) (s ∷ ss) (paired (trade_at p b s) r)) where
  meet_by : (next : List Order → Paired) (bs : List Order) → ((ss : List Order) → P bs ss (next ss)) → (b : Order) → accepts_buying p b ≡ true → (ss : List Order) → P (b ∷ bs) ss (meets p b next bs ss)
  unfolding meets
  meet_by next bs ih b a [] = no_sells b bs
  meet_by next bs ih b a (s ∷ ss) =
      let Q : Paired → Type 0 = P (b ∷ bs) (s ∷ ss) in
      let R : Paired → Type 0 = λ r. Q (paired (trade_at p b s) r) in
      cond_both (accepts_selling p s) _ _ Q
      (λ e. cond_both (ltb s.«open» b.«open») _ _ R
      (λ l. buy-left b bs s ss _ a e (ltb-true s.«open» b.«open» l) (meet_by next bs ih (reduced b s.«open») a ss))
      (λ l. cond_both (eqb b.«open» s.«open») _ _ R
      (λ q. even b bs s ss _ a e (eqb-true b.«open» s.«open» q) (ih ss))
      (λ q. sell-left b bs s ss _ a e (omega (arith, ltb-false s.«open» b.«open» l, eqb-false b.«open» s.«open» q)) (ih (reduced s b.«open» ∷ ss)))))
      (λ e. pass-sell b bs s ss _ e (meet_by next bs ih b a ss))

  pub pairs_by : (bs ss : List Order) → P bs ss (pairs p bs ss)
  unfolding pairs
  pairs_by [] ss = no_buys ss
  pairs_by (b ∷ bs) ss =
      cond_both (accepts_buying p b) _ _ (P (b ∷ bs) ss)
      (λ a. meet_by (pairs p bs) bs (pairs_by bs) b a ss)
      (λ a. pass-buy b bs ss _ a (pairs_by bs ss))
