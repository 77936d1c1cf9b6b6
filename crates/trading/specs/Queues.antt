-- Queues of ranked records, and who is ahead of whom.
use Rattle.std.specs.Prelude.{ℕ, Bool, true, false, cond, not, ◌&&◌, List, [], ◌∷◌, Some, None, Option, ◌==◌, nat_lt}
use Rattle.rules.specs.declared.order.Order.{Order}
use Rattle.rules.specs.declared.order.Side.{Side}
use Rattle.rules.specs.declared.order.Side.TheVariants.{Buy, Sell}
use Rattle.trading.specs.declared.stop.StopOrder.{StopOrder}

-- ---- queues of any records

-- r joins: it stands before the first record that it is ahead of, else at the end
unfoldable pub joined : {R : Type 0} → (R → R → Bool) → R → List R → List R
joined ahead r [] = r ∷ []
joined ahead r (x ∷ xs) =
    let here = r ∷ (x ∷ xs) in
    let later = x ∷ joined ahead r xs in
    cond (ahead r x) here later

-- the first record that passes a test
unfoldable pub first_that : {R : Type 0} → (R → Bool) → List R → Option R
first_that passes [] = None
first_that passes (x ∷ xs) = let later = first_that passes xs in cond (passes x) (Some x) later

-- the queue without it: leaving closes the gap
unfoldable pub without_first : {R : Type 0} → (R → Bool) → List R → List R
without_first passes [] = []
without_first passes (x ∷ xs) = let later = x ∷ without_first passes xs in cond (passes x) xs later

-- the queue with it changed where it stands
unfoldable pub first_changed : {R : Type 0} → (R → Bool) → (R → R) → List R → List R
first_changed passes change [] = []
first_changed passes change (x ∷ xs) =
    let here = change x ∷ xs in
    let later = x ∷ first_changed passes change xs in
    cond (passes x) here later

-- every record passes
abbrev pub all_pass : {R : Type 0} → (R → Bool) → List R → Bool
all_pass passes [] = true
all_pass passes (x ∷ xs) = passes x && all_pass passes xs

-- the record in front is not ahead of x
abbrev pub not_ahead : {R : Type 0} → (R → R → Bool) → R → List R → Bool
not_ahead ahead x [] = true
not_ahead ahead x (y ∷ ys) = not (ahead y x)

-- no record is ahead of the one before it
abbrev pub in_order : {R : Type 0} → (R → R → Bool) → List R → Bool
in_order ahead [] = true
in_order ahead (x ∷ xs) = not_ahead ahead x xs && in_order ahead xs

-- ---- who is ahead

-- a market order, whose limit is 0, is ahead of one with a limit; of two with limits the better one is ahead
abbrev pub market_or : (ℕ → ℕ → Bool) → ℕ → ℕ → Bool
market_or better a b = cond (a == 0) (not (b == 0)) (cond (b == 0) false (better a b))

abbrev pub higher : ℕ → ℕ → Bool
higher a b = nat_lt b a

abbrev pub lower : ℕ → ℕ → Bool
lower a b = nat_lt a b

-- by side and limit: a buy is ahead of a sell; then market; then the higher buy limit, or the lower sell limit
abbrev pub limit_ahead : Side → Side → ℕ → ℕ → Bool
limit_ahead Buy Buy a b = market_or higher a b
limit_ahead Buy Sell a b = true
limit_ahead Sell Buy a b = false
limit_ahead Sell Sell a b = market_or lower a b

abbrev pub order_ahead : Order → Order → Bool
order_ahead a b = limit_ahead a.side b.side a.limit b.limit

-- by side and trigger: a buy is ahead of a sell; then the lower buy trigger, or the higher sell trigger
abbrev pub trigger_ahead : Side → Side → ℕ → ℕ → Bool
trigger_ahead Buy Buy a b = lower a b
trigger_ahead Buy Sell a b = true
trigger_ahead Sell Buy a b = false
trigger_ahead Sell Sell a b = higher a b

abbrev pub stop_ahead : StopOrder → StopOrder → Bool
stop_ahead a b = trigger_ahead a.side b.side a.trigger b.trigger
