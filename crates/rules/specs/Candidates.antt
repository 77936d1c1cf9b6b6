-- The prices that are tried, and the best of them.
use Rattle.std.specs.Prelude.{ℕ, Bool, cond, List, [], ◌∷◌, Some, None, Option, ◌==◌}
use Rattle.grid.specs.Prices.{top_price}
use Rattle.grid.specs.Neighbours.{next_above, next_below}
use Rattle.rules.specs.declared.order.Order.{Order}
use Rattle.rules.specs.Auctions.{Auction, beats}

-- a grid by its meaning: which prices are lawful, none of them above `top`
pub record Grid : Type 0 where
  pub lawful : ℕ → Bool
  pub top : ℕ

-- the grid of a meaning whose lawful prices are prices
abbrev pub grid_of : (ℕ → Bool) → Grid
grid_of lawful = record { lawful = lawful; top = top_price }

abbrev pub with_some : Option ℕ → List ℕ → List ℕ
with_some None ps = ps
with_some (Some p) ps = p ∷ ps

abbrev pub with_lawful : Grid → ℕ → List ℕ → List ℕ
with_lawful g p ps = cond (g.lawful p) (p ∷ ps) ps

-- p itself, if it is lawful, and the next lawful prices above and below it
abbrev pub around : Grid → ℕ → List ℕ → List ℕ
around g p ps = with_lawful g p (with_some (next_above g.lawful g.top p) (with_some (next_below g.lawful g.top p) ps))

-- the same around the limit of each order that has one
unfoldable pub around_limits : Grid → List Order → List ℕ → List ℕ
around_limits g [] ps = ps
around_limits g (o ∷ os) ps =
    let others = around_limits g os ps in
    let more = around g o.limit others in
    cond (o.limit == 0) others more

-- what lies around the last price, and around each limit on both sides
abbrev pub candidates : Grid → Auction → List ℕ
candidates g a = around g a.last (around_limits g a.buys (around_limits g a.sells []))

abbrev pub better_of : Auction → ℕ → ℕ → ℕ
better_of a w p = cond (beats a p w) p w

-- the best of w and ps
unfoldable pub best_from : Auction → ℕ → List ℕ → ℕ
best_from a w [] = w
best_from a w (p ∷ ps) = best_from a (better_of a w p) ps

abbrev pub best_of : Auction → List ℕ → Option ℕ
best_of a [] = None
best_of a (p ∷ ps) = Some (best_from a p ps)

-- the best candidate
abbrev pub best : Grid → Auction → Option ℕ
best g a = best_of a (candidates g a)
