-- The law of the opening price, in volumes, surpluses, distances and heights.
use Rattle.std.specs.Prelude.{◌≡◌, ℕ, ◌<◌, Bool, true, false, ◌⊎◌, ◌≢◌}
use Rattle.grid.specs.Neighbours.{Lawful}
use Rattle.rules.specs.declared.opening.Opening.{Opening}
use Rattle.rules.specs.declared.opening.Opening.TheVariants.{NoPrice, Printed, RefusedByCollar}
use Rattle.grid.specs.Prices.{distance}
use Rattle.rules.specs.Auctions.{Auction, volume, surplus}

-- q loses to w: it executes less; or as much with more surplus; or it ties there and lies farther from the last price;
-- or it lies as far and is lower
abbrev pub LosesTo : Auction → ℕ → ℕ → Type 0
LosesTo a w q =
    (volume a q < volume a w)
    ⊎ (((volume a q ≡ volume a w) × (surplus a w < surplus a q))
    ⊎ (((volume a q ≡ volume a w) × (surplus a w ≡ surplus a q) × (distance w a.last < distance q a.last))
    ⊎ ((volume a q ≡ volume a w) × (surplus a w ≡ surplus a q) × (distance w a.last ≡ distance q a.last) × (q < w))))

-- w is lawful, and every other lawful price, candidate or not, loses to it
pub record Winner (lawful : ℕ → Bool) (a : Auction) (w : ℕ) : Type 0 where
  pub is_lawful : Lawful lawful w
  pub wins : (q : ℕ) → Lawful lawful q → (q ≢ w) → LosesTo a w q

-- no lawful price executes anything
abbrev pub NothingExecutes : (ℕ → Bool) → Auction → Type 0
NothingExecutes lawful a = (q : ℕ) → Lawful lawful q → volume a q ≡ 0

-- one price wins and no other; it is the answer, printed with its volume where the collar allows it, else refused
pub record WinnerAnswers (lawful : ℕ → Bool) (allows : ℕ → ℕ → ℕ → Bool) (static : ℕ) (a : Auction) (r : Opening) : Type 0 where
  pub price : ℕ
  pub winner : Winner lawful a price
  pub only : (v : ℕ) → Winner lawful a v → v ≡ price
  pub executes : 0 < volume a price
  pub printed : allows static a.last price ≡ true → r ≡ Printed price (volume a price)
  pub refused : allows static a.last price ≡ false → r ≡ RefusedByCollar price

-- no price exactly when no lawful price executes anything; otherwise the winner answers
pub record PriceLaw (lawful : ℕ → Bool) (allows : ℕ → ℕ → ℕ → Bool) (static : ℕ) (a : Auction) (r : Opening) : Type 0 where
  pub none : NothingExecutes lawful a → r ≡ NoPrice
  pub only_none : r ≡ NoPrice → NothingExecutes lawful a
  pub some : (r ≢ NoPrice) → WinnerAnswers lawful allows static a r
