-- What holds of every sweep: one principle, with a case for each way that a sweep can go.
use Rattle.std.proofs.Common.{◌≡◌, ℕ, zero, suc, ◌-◌, ◌<◌, ◌≤◌, min, Bool, true, false, eqb, leb, List, [], ◌∷◌, arith}
use Rattle.std.proofs.lemmas.Bool.{cond_both, ne_eqb, leb-true, leb-false}
use Rattle.rules.specs.declared.order.Order.{Order}
use Rattle.trading.specs.Books.{is_day, reduced}
use Rattle.trading.specs.declared.sweep.Ending.TheVariants.{Filled, Nobody, Collared}
use Rattle.trading.specs.Sweeps.{within, Swept, stopped, keeping, trading, trade_of, sweep}

-- the ways of a sweep, with what is known on each
module _ (allows : ℕ → ℕ → Bool) (t : Order) (P : ℕ → ℕ → List Order → Swept → Type 0)
    (full : (last : ℕ) (os : List Order) → P 0 last os (stopped os 0 last Filled))
    (none : (rest last : ℕ) → 0 < rest → P rest last [] (stopped [] rest last Nobody))
    (out : (rest last : ℕ) (o : Order) (os : List Order) → 0 < rest → is_day o.validity ≡ true → within t.side t.limit o.limit ≡ false → P rest last (o ∷ os) (stopped (o ∷ os) rest last Nobody))
    (bar : (rest last : ℕ) (o : Order) (os : List Order) → 0 < rest → is_day o.validity ≡ true → allows last o.limit ≡ false → P rest last (o ∷ os) (stopped (o ∷ os) rest last Collared))
    (keep : (rest last : ℕ) (o : Order) (os : List Order) (s : Swept) → is_day o.validity ≡ false → P rest last os s → P rest last (o ∷ os) (keeping o s))
    (gone : (rest last : ℕ) (o : Order) (os : List Order) (s : Swept) → is_day o.validity ≡ true → within t.side t.limit o.limit ≡ true → allows last o.limit ≡ true → o.«open» ≤ rest → P (rest - o.«open») o.limit os s → P rest last (o ∷ os) (trading (trade_of t.side t.number o.number o.limit (min rest o.«open»)) s))
    (less : (rest last : ℕ) (o : Order) (os : List Order) → 0 < rest → is_day o.validity ≡ true → within t.side t.limit o.limit ≡ true → allows last o.limit ≡ true → rest < o.«open» → P rest last (o ∷ os) (trading (trade_of t.side t.number o.number o.limit (min rest o.«open»)) (stopped (reduced o rest ∷ os) 0 o.limit Filled))) where
  pub sweep_by : (rest last : ℕ) (os : List Order) → P rest last os (sweep allows t rest last os)
  unfolding sweep
  sweep_by zero last [] = full last []
  sweep_by (suc n) last [] =
      let nz : eqb (suc n) 0 ≡ false = ne_eqb (suc n) 0 (omega arith) in
      rw nz (none (suc n) last (omega arith))
  sweep_by zero last (o ∷ os) = full last (o ∷ os)
  sweep_by (suc n) last (o ∷ os) =
      let nz : eqb (suc n) 0 ≡ false = ne_eqb (suc n) 0 (omega arith) in
      let some : 0 < suc n = omega arith in
      let Q : Swept → Type 0 = P (suc n) last (o ∷ os) in
      rw nz (cond_both (is_day o.validity) _ _ Q
      (λ d. cond_both (within t.side t.limit o.limit) _ _ Q
      (λ w. cond_both (allows last o.limit) _ _ Q
      (λ f. cond_both (leb o.«open» (suc n)) _ _ (λ s. Q (trading (trade_of t.side t.number o.number o.limit (min (suc n) o.«open»)) s))
      (λ l. gone (suc n) last o os _ d w f (leb-true o.«open» (suc n) l) (sweep_by (suc n - o.«open») o.limit os))
      (λ l. less (suc n) last o os some d w f (leb-false o.«open» (suc n) l)))
      (λ f. bar (suc n) last o os some d f))
      (λ w. out (suc n) last o os some d w))
      (λ d. keep (suc n) last o os _ d (sweep_by (suc n) last os)))
