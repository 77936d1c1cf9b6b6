-- What a pairing leaves of the buy and sell totals at a price.
use Rattle.std.proofs.Common.{◌≡◌, ℕ, ◌+◌, ◌≤◌, Bool, true, false, ◌⊎◌, List, [], ◌∷◌, refl, inl, inr, arith}
use Rattle.std.proofs.lemmas.Bool.{cond-true, cond-false, cases_Bool}
use Rattle.std.proofs.lemmas.Bool.Decides.{nat_tests}
use Rattle.rules.specs.declared.order.Order.{Order}
use Rattle.rules.specs.Accepts.{accepts_buying, accepts_selling}
use Rattle.rules.specs.Auctions.{total, bought_at, sold_at}
use Rattle.trading.specs.declared.report.ReportLine.{ReportLine}
use Rattle.trading.specs.declared.report.ReportLine.TheVariants.{Trade, Lapse}
use Rattle.trading.specs.Books.{reduced}
use Rattle.trading.specs.Uncrossings.{Paired, pairs}
use Rattle.sessions.proofs.Pairing.{pairs_by}

abbrev pub quantity_of : ReportLine → ℕ
quantity_of (Trade b s p q) = q
quantity_of (Lapse n q) = 0

abbrev pub volume_of : Paired → ℕ
volume_of r = total quantity_of r.trades

-- an order trades all of its quantity at a price that it accepts, and nothing at another
pub buys_yes : (q : ℕ) (o : Order) → accepts_buying q o ≡ true → bought_at q o ≡ o.«open»
buys_yes q o e = cond-true (accepts_buying q o) o.«open» 0 e

pub buys_no : (q : ℕ) (o : Order) → accepts_buying q o ≡ false → bought_at q o ≡ 0
buys_no q o e = cond-false (accepts_buying q o) o.«open» 0 e

pub sells_yes : (q : ℕ) (o : Order) → accepts_selling q o ≡ true → sold_at q o ≡ o.«open»
sells_yes q o e = cond-true (accepts_selling q o) o.«open» 0 e

pub sells_no : (q : ℕ) (o : Order) → accepts_selling q o ≡ false → sold_at q o ≡ 0
sells_no q o e = cond-false (accepts_selling q o) o.«open» 0 e

-- who buys at p buys at less; who sells at p sells at more
pub buys_below : (p q : ℕ) (o : Order) → q ≤ p → accepts_buying p o ≡ true → accepts_buying q o ≡ true
buys_below p q o h e = grind (arith, nat_tests)

pub sells_above : (p q : ℕ) (o : Order) → p ≤ q → accepts_selling p o ≡ true → accepts_selling q o ≡ true
sells_above p q o h e = grind (arith, nat_tests)

buys_above_no : (p q : ℕ) (o : Order) → p ≤ q → accepts_buying p o ≡ false → accepts_buying q o ≡ false
buys_above_no p q o h e = grind (arith, nat_tests)

sells_below_no : (p q : ℕ) (o : Order) → q ≤ p → accepts_selling p o ≡ false → accepts_selling q o ≡ false
sells_below_no p q o h e = grind (arith, nat_tests)

-- a pairing ends when one side has none that accepts
pub ended : (p : ℕ) (bs ss : List Order) → (total (bought_at p) (pairs p bs ss).buys ≡ 0) ⊎ (total (sold_at p) (pairs p bs ss).sells ≡ 0)
ended p = pairs_by p (λ bs ss r. (total (bought_at p) r.buys ≡ 0) ⊎ (total (sold_at p) r.sells ≡ 0))
    (λ ss. inl refl)
    (λ b bs. inr refl)
    (λ b bs ss r a h. elim h [ inl z ↦ inl (omega (arith, buys_no p b a)) | inr z ↦ inr z ])
    (λ b bs s ss r a h. elim h [ inl z ↦ inl z | inr z ↦ inr (omega (arith, sells_no p s a)) ])
    (λ b bs s ss r a e l h. h)
    (λ b bs s ss r a e l h. h)
    (λ b bs s ss r a e l h. h)

-- at a lower price the buy total falls by what was traded
pub buys_fall : (p q : ℕ) → q ≤ p → (bs ss : List Order) → total (bought_at q) bs ≡ total (bought_at q) (pairs p bs ss).buys + volume_of (pairs p bs ss)
buys_fall p q h = pairs_by p (λ bs ss r. total (bought_at q) bs ≡ total (bought_at q) r.buys + volume_of r)
    (λ ss. omega arith)
    (λ b bs. omega arith)
    (λ b bs ss r a i. omega arith)
    (λ b bs s ss r a i. omega arith)
    (λ b bs s ss r a e l i. omega (arith, buys_yes q b (buys_below p q b h a), buys_yes q (reduced b s.«open») (buys_below p q b h a)))
    (λ b bs s ss r a e l i. omega (arith, buys_yes q b (buys_below p q b h a)))
    (λ b bs s ss r a e l i. omega (arith, buys_yes q b (buys_below p q b h a)))

-- at a higher price the sell total does
pub sells_fall : (p q : ℕ) → p ≤ q → (bs ss : List Order) → total (sold_at q) ss ≡ total (sold_at q) (pairs p bs ss).sells + volume_of (pairs p bs ss)
sells_fall p q h = pairs_by p (λ bs ss r. total (sold_at q) ss ≡ total (sold_at q) r.sells + volume_of r)
    (λ ss. omega arith)
    (λ b bs. omega arith)
    (λ b bs ss r a i. omega arith)
    (λ b bs s ss r a i. omega arith)
    (λ b bs s ss r a e l i. omega (arith, sells_yes q s (sells_above p q s h e)))
    (λ b bs s ss r a e l i. omega (arith, sells_yes q s (sells_above p q s h e)))
    (λ b bs s ss r a e l i. omega (arith, sells_yes q s (sells_above p q s h e), sells_yes q (reduced s b.«open») (sells_above p q s h e)))

-- none behind an order that does not accept q accepts it
abbrev pub Front : (Order → Bool) → (Order → ℕ) → List Order → Type 0
Front accepts at [] = Unit {0}
Front accepts at (o ∷ os) = (accepts o ≡ false → total at os ≡ 0) × Front accepts at os

-- at a lower price either no sell is left, or the sell total falls by what was traded
abbrev SellsLeft : ℕ → List Order → Paired → Type 0
SellsLeft q ss r = (total (sold_at q) r.sells ≤ total (sold_at q) ss) × (Front (accepts_selling q) (sold_at q) ss → (total (sold_at q) r.sells ≡ 0) ⊎ (total (sold_at q) ss ≡ total (sold_at q) r.sells + volume_of r))

pub sells_left : (p q : ℕ) → q ≤ p → (bs ss : List Order) → SellsLeft q ss (pairs p bs ss)
sells_left p q h = pairs_by p (λ bs ss r. SellsLeft q ss r)
    (λ ss. (omega arith, λ f. inr (omega arith)))
    (λ b bs. (omega arith, λ f. inl refl))
    (λ b bs ss r a i. i)
    (λ b bs s ss r a i.
    let n = sells_no q s (sells_below_no p q s h a) in
    (omega (arith, i.0), λ f. elim (i.1 f.1) [ inl z ↦ inl (omega arith) | inr z ↦ inr (omega arith) ]))
    (λ b bs s ss r a e l i. (
      omega (arith, i.0),
      λ f. elim (cases_Bool (accepts_selling q s)) [
        | inl y ↦ elim (i.1 f.1) [ inl z ↦ inl z | inr z ↦ inr (omega (arith, sells_yes q s y)) ]
        | inr y ↦ inl (omega (arith, i.0, f.0 y))
      ],
    ))
    (λ b bs s ss r a e l i. (
      omega (arith, i.0),
      λ f. elim (cases_Bool (accepts_selling q s)) [
        | inl y ↦ elim (i.1 f.1) [ inl z ↦ inl z | inr z ↦ inr (omega (arith, sells_yes q s y)) ]
        | inr y ↦ inl (omega (arith, i.0, f.0 y))
      ],
    ))
    (λ b bs s ss r a e l i. elim (cases_Bool (accepts_selling q s)) [
      | inl y ↦ (omega (arith, i.0, sells_yes q s y, sells_yes q (reduced s b.«open») y), λ f. elim (i.1 (f.0, f.1)) [ inl z ↦ inl z | inr z ↦ inr (omega (arith, sells_yes q s y, sells_yes q (reduced s b.«open») y)) ])
      | inr y ↦ (omega (arith, i.0, sells_no q s y, sells_no q (reduced s b.«open») y), λ f. inl (omega (arith, i.0, f.0 y, sells_no q (reduced s b.«open») y)))
    ])

-- at a higher price either no buy is left, or the buy total falls by what was traded
abbrev BuysLeft : ℕ → List Order → Paired → Type 0
BuysLeft q bs r = (total (bought_at q) r.buys ≤ total (bought_at q) bs) × (Front (accepts_buying q) (bought_at q) bs → (total (bought_at q) r.buys ≡ 0) ⊎ (total (bought_at q) bs ≡ total (bought_at q) r.buys + volume_of r))

pub buys_left : (p q : ℕ) → p ≤ q → (bs ss : List Order) → BuysLeft q bs (pairs p bs ss)
buys_left p q h = pairs_by p (λ bs ss r. BuysLeft q bs r)
    (λ ss. (omega arith, λ f. inl refl))
    (λ b bs. (omega arith, λ f. inr (omega arith)))
    (λ b bs ss r a i.
    let n = buys_no q b (buys_above_no p q b h a) in
    (omega (arith, i.0), λ f. elim (i.1 f.1) [ inl z ↦ inl (omega arith) | inr z ↦ inr (omega arith) ]))
    (λ b bs s ss r a i. i)
    (λ b bs s ss r a e l i. elim (cases_Bool (accepts_buying q b)) [
      | inl y ↦ (omega (arith, i.0, buys_yes q b y, buys_yes q (reduced b s.«open») y), λ f. elim (i.1 (f.0, f.1)) [ inl z ↦ inl z | inr z ↦ inr (omega (arith, buys_yes q b y, buys_yes q (reduced b s.«open») y)) ])
      | inr y ↦ (omega (arith, i.0, buys_no q b y, buys_no q (reduced b s.«open») y), λ f. inl (omega (arith, i.0, f.0 y, buys_no q (reduced b s.«open») y)))
    ])
    (λ b bs s ss r a e l i. (
      omega (arith, i.0),
      λ f. elim (cases_Bool (accepts_buying q b)) [
        | inl y ↦ elim (i.1 f.1) [ inl z ↦ inl z | inr z ↦ inr (omega (arith, buys_yes q b y)) ]
        | inr y ↦ inl (omega (arith, i.0, f.0 y))
      ],
    ))
    (λ b bs s ss r a e l i. (
      omega (arith, i.0),
      λ f. elim (cases_Bool (accepts_buying q b)) [
        | inl y ↦ elim (i.1 f.1) [ inl z ↦ inl z | inr z ↦ inr (omega (arith, buys_yes q b y)) ]
        | inr y ↦ inl (omega (arith, i.0, f.0 y))
      ],
    ))
