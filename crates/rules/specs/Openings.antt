-- The opening price: the best candidate, where it executes anything and the collar allows it.
use Rattle.std.specs.Prelude.{ℕ, Bool, cond, Some, None, Option, ◌==◌}
use Rattle.rules.specs.declared.opening.Opening.{Opening}
use Rattle.rules.specs.declared.opening.Opening.TheVariants.{NoPrice, Printed, RefusedByCollar}
use Rattle.rules.specs.Auctions.{Auction, volume}
use Rattle.rules.specs.Candidates.{Grid, best}

-- `allows` is the collar's meaning: whether it allows a price, given the static and the last price
abbrev pub opening_at : (ℕ → ℕ → ℕ → Bool) → ℕ → Auction → Option ℕ → Opening
opening_at allows static a None = NoPrice
opening_at allows static a (Some p) =
    let printed = Printed p (volume a p) in
    let refused = RefusedByCollar p in
    let some = cond (allows static a.last p) printed refused in
    cond (volume a p == 0) NoPrice some

abbrev pub opening : Grid → (ℕ → ℕ → ℕ → Bool) → ℕ → Auction → Opening
opening g allows static a = opening_at allows static a (best g a)
