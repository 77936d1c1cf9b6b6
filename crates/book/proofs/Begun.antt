-- A new book begins a session.
use Rattle.std.proofs.Common.{◌≡◌, ℕ, true, None, refl}
use Rattle.grid.specs.Prices.{is_price}
use Rattle.trading.specs.Books.{new_state}
use Rattle.trading.specs.Calls.{first_fault, new_checks}
use Rattle.sessions.specs.Runs.{opens}
use Rattle.book.specs.Making.{Begins}

-- a price is refused by no check
passes : (p : ℕ) → is_price p ≡ true → first_fault (new_checks p) ≡ None
passes p e = rw e

pub begins : (p : ℕ) → is_price p ≡ true → (first_fault (new_checks p) ≡ None) × Begins p (new_state p)
begins p e = (passes p e, record { new = refl; session = λ v buys sells stops. opens p (passes p e) refl })
