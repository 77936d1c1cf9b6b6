-- What a call book holds, and what it holds after a line.
use Rattle.std.specs.Prelude.{◌≡◌, ℕ, Bool, ◌&&◌, List, [], length, Some, None, Ok, Err, MatchBool, Option, Result, ◌==◌}
use Rattle.grid.specs.Prices.{is_price}
use Rattle.ticks.specs.declared.any.AnyGrid.{AnyGrid}
use Rattle.collar.specs.Any.{allows_any}
use Rattle.collar.specs.declared.any.AnyCollar.{AnyCollar}
use Rattle.rules.specs.declared.order.Order.{Order}
use Rattle.callbook.specs.declared.fault.BookFault.{BookFault}

-- what was named so far, and the orders on each side
pub record Desk : Type 0 where
  pub grid : Option AnyGrid
  pub collar : AnyCollar
  pub static_price : Option ℕ
  pub last : Option ℕ
  pub buys : List Order
  pub sells : List Order

-- nothing is named, no order stands, and every price is allowed
pub record Fresh (d : Desk) : Type 0 where
  pub no_grid : d.grid ≡ None
  pub no_static : d.static_price ≡ None
  pub no_last : d.last ≡ None
  pub no_buys : d.buys ≡ []
  pub no_sells : d.sells ≡ []
  pub all_allowed : (static last p : ℕ) → allows_any d.collar static last p ≡ is_price p

abbrev pub no_orders : Desk → Bool
no_orders d = length d.buys == 0 && length d.sells == 0

abbrev pub with_grid : AnyGrid → Desk → Desk
with_grid g d = record { grid = Some g; collar = d.collar; static_price = d.static_price; last = d.last; buys = d.buys; sells = d.sells }

abbrev pub with_collar : AnyCollar → Desk → Desk
with_collar c d = record { grid = d.grid; collar = c; static_price = d.static_price; last = d.last; buys = d.buys; sells = d.sells }

abbrev pub with_static : ℕ → Desk → Desk
with_static p d = record { grid = d.grid; collar = d.collar; static_price = Some p; last = d.last; buys = d.buys; sells = d.sells }

abbrev pub with_last : ℕ → Desk → Desk
with_last p d = record { grid = d.grid; collar = d.collar; static_price = d.static_price; last = Some p; buys = d.buys; sells = d.sells }

abbrev pub with_orders : List Order → List Order → Desk → Desk
with_orders bs ss d = record { grid = d.grid; collar = d.collar; static_price = d.static_price; last = d.last; buys = bs; sells = ss }

-- from d to d': taken, and d' is e; or refused by f, and d' is d
abbrev pub Guarded : Bool → BookFault → Desk → Desk → Result Unit BookFault → Desk → Type 0
Guarded test f d e r d' = MatchBool test ((r ≡ Ok tt) × (d' ≡ e)) ((r ≡ Err f) × (d' ≡ d))
