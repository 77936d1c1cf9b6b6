-- The order of prices: the test that the rules use, as a proposition, and that it is an order.
use Rattle.std.proofs.Common.{◌≡◌, ℕ, ◌<◌, ◌≤◌, true, false, ◌⊎◌, arith}
use Rattle.std.proofs.lemmas.Bool.Decides.{nat_tests}
use Rattle.grid.specs.Prices.{distance}
use Rattle.rules.specs.Auctions.{Auction, volume, surplus, beats}
use Rattle.rules.specs.Winners.{LosesTo}

abbrev pub BelowOr : ℕ → ℕ → Type 0 → Type 0
BelowOr x y rest = (x < y) ⊎ ((x ≡ y) × rest)

-- p beats q
abbrev pub Beats : Auction → ℕ → ℕ → Type 0
Beats a p q =
    BelowOr (volume a q) (volume a p)
    (BelowOr (surplus a p) (surplus a q)
    (BelowOr (distance p a.last) (distance q a.last)
    (q < p)))

-- w is c, or beats it
abbrev pub AsGood : Auction → ℕ → ℕ → Type 0
AsGood a w c = (c ≡ w) ⊎ Beats a w c

-- ---- the test and what it says

pub beats_says : (a : Auction) (p q : ℕ) → beats a p q ≡ true → Beats a p q
beats_says a p q h = grind (arith, nat_tests)

-- of two prices, the one that is not beaten is as good
pub beats_not : (a : Auction) (p w : ℕ) → beats a p w ≡ false → AsGood a w p
beats_not a p w h = grind (arith, nat_tests)

-- ---- an order

beats_trans : (a : Auction) (p q r : ℕ) → Beats a p q → Beats a q r → Beats a p r
beats_trans a p q r h k = grind arith

beats_never : (a : Auction) (p : ℕ) → Beats a p p → ⊥
beats_never a p h = grind arith

pub as_good_trans : (a : Auction) (v u c : ℕ) → AsGood a v u → AsGood a u c → AsGood a v c
as_good_trans a v u c h k = grind arith

-- two prices that are as good as each other are one
pub as_good_both : (a : Auction) (v w : ℕ) → AsGood a v w → AsGood a w v → v ≡ w
as_good_both a v w h k = grind arith

pub as_good_volume : (a : Auction) (w c : ℕ) → AsGood a w c → volume a c ≤ volume a w
as_good_volume a w c h = grind arith

-- ---- the same in the words of the law

pub loses : (a : Auction) (w q : ℕ) → Beats a w q → LosesTo a w q
loses a w q h = grind arith

pub beats_from : (a : Auction) (w q : ℕ) → LosesTo a w q → Beats a w q
beats_from a w q h = grind arith
