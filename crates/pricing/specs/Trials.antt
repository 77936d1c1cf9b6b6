-- Prices are tried one after another: the best found so far covers all that were tried.
use Rattle.std.specs.Prelude.{◌≡◌, ℕ, ◌<◌, Bool, cond, ◌⊎◌, List, IfSome, Some, None, Option, MatchOption, ◌==◌}
use Rattle.std.specs.List.{AllByRecursion}
use Rattle.grid.specs.Neighbours.{Lawful, NextAbove, NextBelow}
use Rattle.rules.specs.declared.order.Order.{Order}
use Rattle.rules.specs.declared.opening.Score.{Score}
use Rattle.rules.specs.declared.opening.Opening.{Opening}
use Rattle.rules.specs.declared.opening.Opening.TheVariants.{NoPrice, Printed, RefusedByCollar}
use Rattle.rules.specs.Outranks.{outranks}
use Rattle.rules.specs.Auctions.{Auction, score_of}
use Rattle.rules.specs.Winners.{LosesTo}

-- the score of a price, if there is one
abbrev pub scored : Auction → Option ℕ → Option Score
scored a None = None
scored a (Some p) = Some (score_of a p)

-- c is x or a lawful neighbour of it
abbrev pub Beside : (ℕ → Bool) → ℕ → ℕ → Type 0
Beside lawful x c = (c ≡ x) ⊎ (NextAbove lawful x (Some c) ⊎ NextBelow lawful x (Some c))

-- the best found is a lawful price with its score
abbrev pub Found : (ℕ → Bool) → Auction → Option Score → Type 0
Found lawful a r = IfSome r (λ w. Lawful lawful w.price × (w ≡ score_of a w.price))

-- the best found is c or beats it, if c is lawful
abbrev pub Covers : (ℕ → Bool) → Auction → Option Score → ℕ → Type 0
Covers lawful a r c = MatchOption r (Lawful lawful c → ⊥) (λ w. Lawful lawful c → (c ≡ w.price) ⊎ LosesTo a w.price c)

-- what is better of the best so far and one price more
abbrev pub chosen : Auction → Option Score → Score → Option Score
chosen a None s = Some s
chosen a (Some w) s = cond (outranks a.last s w) (Some s) (Some w)

-- the same, if there is one price more
abbrev pub chosen_of : Auction → Option Score → Option ℕ → Option Score
chosen_of a best None = best
chosen_of a best (Some p) = chosen a best (score_of a p)

-- from old to new nothing that was covered is lost, and every price of P is covered
pub record Tried (lawful : ℕ → Bool) (a : Auction) (old new : Option Score) (P : ℕ → Type 0) : Type 0 where
  pub found : Found lawful a new
  pub keeps : (c : ℕ) → Covers lawful a old c → Covers lawful a new c
  pub adds : (c : ℕ) → P c → Covers lawful a new c

-- all lawful prices at and beside x are covered
abbrev pub AroundTried : (ℕ → Bool) → Auction → Option Score → ℕ → Type 0
AroundTried lawful a r x = (c : ℕ) → Beside lawful x c → Covers lawful a r c

-- and at and beside the limit of an order, unless it is a market order
abbrev pub LimitTried : (ℕ → Bool) → Auction → Option Score → Order → Type 0
LimitTried lawful a r o = 0 < o.limit → AroundTried lawful a r o.limit

-- from old to new nothing that was covered is lost, and the limits of these orders are covered
pub record LimitsTried (lawful : ℕ → Bool) (a : Auction) (old new : Option Score) (orders : List Order) : Type 0 where
  pub found : Found lawful a new
  pub keeps : (c : ℕ) → Covers lawful a old c → Covers lawful a new c
  pub limits : AllByRecursion (LimitTried lawful a new) orders

-- midway in a list of orders: the limits so far are covered, and what is at and beside the limit tried last
pub record SoFar (lawful : ℕ → Bool) (a : Auction) (old new : Option Score) (tried : Option ℕ) (orders : List Order) : Type 0 where
  pub around : IfSome tried (AroundTried lawful a new)
  pub limits : LimitsTried lawful a old new orders

-- what the best price comes to: nothing executes, or the collar is asked
abbrev pub decided : (ℕ → ℕ → ℕ → Bool) → ℕ → ℕ → Option Score → Opening
decided allows static last None = NoPrice
decided allows static last (Some w) =
    cond (w.volume == 0) NoPrice
    (cond (allows static last w.price) (Printed w.price w.volume) (RefusedByCollar w.price))
