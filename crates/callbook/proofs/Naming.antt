-- A grid that was made is the one that the line names.
use Rattle.std.proofs.Common.{◌≡◌, ℕ, Bool, true, false, None, Ok, Err, MatchBool, Option, Result, refl}
use Rattle.ticks.specs.Any.{on_any}
use Rattle.ticks.specs.declared.any.AnyGrid.{AnyGrid}
use Rattle.rules.specs.declared.opening.Opening.{Opening}
use Rattle.callbook.specs.declared.fault.BookFault.{BookFault}
use Rattle.callbook.specs.declared.fault.BookFault.TheVariants.{OrdersStand}
use Rattle.callbook.specs.Desks.{Desk, no_orders, with_grid, Guarded}
use Rattle.callbook.specs.Lines.{GridNamed}

pub named_grid : (lawful : ℕ → Bool) (d d' : Desk) (g : AnyGrid) → ((p : ℕ) → on_any g p ≡ lawful p)
    → Guarded (no_orders d) OrdersStand d (with_grid g d) (Ok tt) d' → GridNamed None lawful d (Ok None) d'
named_grid lawful d d' g m h = named (no_orders d) h
  where
    named : (test : Bool) → Guarded test OrdersStand d (with_grid g d) (Ok tt) d'
        → MatchBool test ((◌≡◌ {A = Result (Option Opening) BookFault} (Ok None) (Ok None)) × ((g : AnyGrid) × ((p : ℕ) → on_any g p ≡ lawful p) × (d' ≡ with_grid g d))) ((◌≡◌ {A = Result (Option Opening) BookFault} (Ok None) (Err OrdersStand)) × (d' ≡ d))
    named true h = (refl, (g, m, h.1))
    named false h = absurd (cc h.0)
