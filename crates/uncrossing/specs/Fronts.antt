-- Those who accept a price stand in front of a queue.
use Rattle.std.specs.Prelude.{◌≡◌, ℕ, Bool, false, List, [], ◌∷◌}
use Rattle.std.specs.List.{AllByRecursion}
use Rattle.rules.specs.declared.order.Order.{Order}
use Rattle.rules.specs.Accepts.{accepts_buying, accepts_selling}

-- behind an order that does not accept, none accepts
abbrev pub Fronted : (Order → Bool) → List Order → Type 0
Fronted accepts [] = Unit {0}
Fronted accepts (x ∷ xs) = (accepts x ≡ false → AllByRecursion (λ y. accepts y ≡ false) xs) × Fronted accepts xs

-- in both queues, at the price p
pub record InFront (p : ℕ) (bs ss : List Order) : Type 0 where
  pub buys : Fronted (accepts_buying p) bs
  pub sells : Fronted (accepts_selling p) ss
