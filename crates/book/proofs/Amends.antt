-- Which check refuses an amendment.
use Rattle.std.proofs.Common.{◌≡◌, ℕ, true, false, eqb, get_or, Some, None, ap, arith}
use mathlib.Core.Bool.{beq}
use Rattle.trading.specs.declared.fault.BookFault.TheVariants.{Unpaired, LimitUnlawful}
use Rattle.trading.specs.Books.{Book, Venue, is_ended, blank_order, blank_stop}
use Rattle.trading.specs.Ranges.{is_number, is_quantity}
use Rattle.trading.specs.Calls.{place, is_order, limit_at, first_fault, amend_checks, unlawful, why_unlawful}
use Rattle.book.specs.declared.finding.Spot.{Spot}
use Rattle.book.specs.declared.finding.Spot.TheVariants.{Buys, Sells, Stops}
use Rattle.book.specs.declared.amendment.Standing.{Standing}
use Rattle.book.specs.Finding.{AtSpot}
use Rattle.book.specs.Amending.{place_as, Stands}

module _ (n : ℕ) (b : Book) (i : ℕ) where
  pub buy_stands : AtSpot n b (Buys i) → Stands n b (record { spot = Buys i; order = get_or b.buys i blank_order })
  buy_stands at = record { at = at; is = at.1 blank_order }

  pub sell_stands : AtSpot n b (Sells i) → Stands n b (record { spot = Sells i; order = get_or b.sells i blank_order })
  sell_stands at = record { at = at; is = at.1 blank_order }

-- a stop stands where no order does
placed_order : (b : Book) (n : ℕ) (x : Standing) → Stands n b x → (is_order (place n b) ≡ true) × (limit_at (place n b) ≡ x.order.limit)
placed_order b n x s = by_spot x.spot s.at s.is
  where
    by_spot : (spot : Spot) → AtSpot n b spot → place n b ≡ place_as spot x.order → (is_order (place n b) ≡ true) × (limit_at (place n b) ≡ x.order.limit)
    by_spot (Buys i) at e = (ap is_order e, ap limit_at e)
    by_spot (Sells i) at e = (ap is_order e, ap limit_at e)
    by_spot (Stops i) at e = absurd (let p = at.1 blank_stop in let z : ◌≡◌ {A = ℕ} 0 1 = cc in omega arith)

module _ (v : Venue) (n limit quantity : ℕ) (b : Book) (x : Standing) (s : Stands n b x)
    (open-yet : is_ended b.phase ≡ false) (number : is_number n ≡ true) (amount : is_quantity quantity ≡ true) where
  pub no_pair : beq (eqb x.order.limit 0) (eqb limit 0) ≡ false → first_fault (amend_checks v n limit quantity b) ≡ Some Unpaired
  no_pair e = let o = placed_order b n x s in let is = o.0 in let same = o.1 in rw (open-yet, number, amount, is, same, e)

  pub no_limit : beq (eqb x.order.limit 0) (eqb limit 0) ≡ true → unlawful v limit ≡ true → first_fault (amend_checks v n limit quantity b) ≡ Some (LimitUnlawful (why_unlawful v limit))
  no_limit e u = let o = placed_order b n x s in let is = o.0 in let same = o.1 in rw (open-yet, number, amount, is, same, e, u)

  pub may_amend : beq (eqb x.order.limit 0) (eqb limit 0) ≡ true → unlawful v limit ≡ false → first_fault (amend_checks v n limit quantity b) ≡ None
  may_amend e u = let o = placed_order b n x s in let is = o.0 in let same = o.1 in rw (open-yet, number, amount, is, same, e, u)

-- where a stop stands, no order does
pub stop_stands : (n : ℕ) (b : Book) (spot : Spot) → AtSpot n b spot → (i : ℕ) → spot ≡ Stops i → is_order (place n b) ≡ false
stop_stands n b (Buys j) at i e = absurd (let z : ◌≡◌ {A = ℕ} 0 1 = cc in omega arith)
stop_stands n b (Sells j) at i e = absurd (let z : ◌≡◌ {A = ℕ} 0 1 = cc in omega arith)
stop_stands n b (Stops j) at i e = ap is_order (at.1 blank_stop)
