-- The checks of what a request brings.
use Rattle.std.specs.Prelude.{◌≡◌, ℕ, Bool, true, false, not, ◌&&◌, ◌||◌, List, [], ◌∷◌, Result, MatchResult}
use Rattle.rules.specs.declared.order.Validity.{Validity}
use Rattle.trading.specs.declared.fault.BookFault.TheVariants.{WrongPhase, Unpaired}
use Rattle.trading.specs.declared.fault.Part.{Part}
use Rattle.trading.specs.declared.fault.Unlawful.{Unlawful}
use Rattle.trading.specs.declared.state.Phase.{Phase}
use Rattle.trading.specs.declared.ticket.Ticket.{Ticket}
use Rattle.trading.specs.Books.{Venue, venue_of, is_call, is_ended, is_ioc}
use Rattle.trading.specs.Ranges.{pair_up}
use Rattle.trading.specs.Calls.{Check, check, number_check, quantity_check, limit_check, trigger_check, unlawful, why_unlawful}

-- everything is allowed: no check of what is brought asks the collar
abbrev pub grid_only : (ℕ → Bool) → Venue
grid_only lawful = venue_of lawful (λ _ _ _. true)

-- a limit or trigger is fine where it is 0 or lawful; else the fault is the grid's
abbrev pub PartChecked : {U : Type 0} → (ℕ → Bool) → Part → ℕ → Result U Unlawful → Type 0
PartChecked lawful part p r = MatchResult r (λ _. unlawful (grid_only lawful) p ≡ false) (λ u. (unlawful (grid_only lawful) p ≡ true) × (u ≡ record { part = part; fault = why_unlawful (grid_only lawful) p }))

-- a phase takes a ticket of a validity
abbrev pub takes_validity : Phase → Validity → Bool
takes_validity phase validity = not (is_ended phase || (is_call phase && is_ioc validity))

-- the first six checks of an entry
abbrev pub ticket_checks : (ℕ → Bool) → Phase → Ticket → List Check
ticket_checks lawful phase t =
    check (is_ended phase || (is_call phase && is_ioc t.validity)) WrongPhase
    ∷ (number_check t.number
    ∷ (quantity_check t.quantity
    ∷ (check (not (pair_up t.kind t.limit t.trigger t.validity)) Unpaired
    ∷ (limit_check (grid_only lawful) t.limit
    ∷ (trigger_check (grid_only lawful) t.trigger
    ∷ [])))))
