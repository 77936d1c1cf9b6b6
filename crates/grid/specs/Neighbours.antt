-- What a price grid answers, said by its meaning alone: which prices are lawful.
use Rattle.std.specs.Prelude.{◌≡◌, ℕ, zero, suc, ◌-◌, ◌<◌, ◌≤◌, min, Bool, true, cond, Some, None, Ok, Err, Option, Result, MatchOption}
use Rattle.grid.specs.Prices.{top_price}
use Rattle.grid.specs.declared.GridFault.{GridFault}
use Rattle.grid.specs.declared.GridFault.TheVariants.{PastLast, BelowFirst, BetweenSteps}

-- p is a lawful price
abbrev pub Lawful : (ℕ → Bool) → ℕ → Type 0
Lawful lawful p = lawful p ≡ true

-- a lawful price is a price
abbrev pub Priced : (ℕ → Bool) → Type 0
Priced lawful = (p : ℕ) → Lawful lawful p → (1 ≤ p) × (p ≤ top_price)

-- r is the next lawful price above p, or no lawful price is above p
abbrev pub NextAbove : (ℕ → Bool) → ℕ → Option ℕ → Type 0
NextAbove lawful p None = (x : ℕ) → p < x → Lawful lawful x → ⊥
NextAbove lawful p (Some q) = (p < q) × Lawful lawful q × ((x : ℕ) → p < x → x < q → Lawful lawful x → ⊥)

-- r is the next lawful price below p, or no lawful price is below p
abbrev pub NextBelow : (ℕ → Bool) → ℕ → Option ℕ → Type 0
NextBelow lawful p None = (x : ℕ) → x < p → Lawful lawful x → ⊥
NextBelow lawful p (Some q) = (q < p) × Lawful lawful q × ((x : ℕ) → q < x → x < p → Lawful lawful x → ⊥)

-- why p is not lawful: nothing from p up is; or something is, but nothing from p down; or there is something on both
-- sides, and p lies between
abbrev pub Unlawful : (ℕ → Bool) → ℕ → GridFault → Type 0
Unlawful lawful p PastLast = (x : ℕ) → p ≤ x → Lawful lawful x → ⊥
Unlawful lawful p BelowFirst = ((x : ℕ) × (p ≤ x) × Lawful lawful x) × ((x : ℕ) → x ≤ p → Lawful lawful x → ⊥)
Unlawful lawful p BetweenSteps = ((x : ℕ) × (p ≤ x) × Lawful lawful x) × ((x : ℕ) × (x ≤ p) × Lawful lawful x) × (Lawful lawful p → ⊥)

-- fine exactly when p is lawful, else the one fault that holds
abbrev pub Checked : (ℕ → Bool) → ℕ → Result Unit GridFault → Type 0
Checked lawful p (Ok _) = Lawful lawful p
Checked lawful p (Err f) = Unlawful lawful p f

-- ---- the same, found by going from number to number, for rules that compute

-- the first lawful price among the n numbers above p
unfoldable pub first_above : (ℕ → Bool) → ℕ → ℕ → Option ℕ
first_above lawful zero p = None
first_above lawful (suc n) p = let more = first_above lawful n (suc p) in cond (lawful (suc p)) (Some (suc p)) more

-- the first lawful price below p, going down
unfoldable pub first_below : (ℕ → Bool) → ℕ → Option ℕ
first_below lawful zero = None
first_below lawful (suc p) = let more = first_below lawful p in cond (lawful p) (Some p) more

-- the next lawful price above p, where no lawful price is above `top`
abbrev pub next_above : (ℕ → Bool) → ℕ → ℕ → Option ℕ
next_above lawful top p = first_above lawful (top - p) p

-- the next lawful price below p, where no lawful price is above `top`
abbrev pub next_below : (ℕ → Bool) → ℕ → ℕ → Option ℕ
next_below lawful top p = first_below lawful (min p (suc top))

-- the fault of a number that is not lawful, by its neighbours above and below
abbrev pub fault_by : Option ℕ → Option ℕ → GridFault
fault_by None below = PastLast
fault_by (Some q) None = BelowFirst
fault_by (Some q) (Some r) = BetweenSteps

-- the fault of p, or none where p is lawful
abbrev pub fault_at : (ℕ → Bool) → ℕ → ℕ → Option GridFault
fault_at lawful top p = let fault = Some (fault_by (next_above lawful top p) (next_below lawful top p)) in cond (lawful p) None fault

-- what is found is right: the neighbours and the fault of every number
pub record NeighboursFound (lawful : ℕ → Bool) : Type 0 where
  pub next_above_lem : (p : ℕ) → NextAbove lawful p (next_above lawful top_price p)
  pub next_below_lem : (p : ℕ) → NextBelow lawful p (next_below lawful top_price p)
  pub fault : (p : ℕ) → MatchOption (fault_at lawful top_price p) (Lawful lawful p) (Unlawful lawful p)
