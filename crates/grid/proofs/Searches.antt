-- The search for the neighbours of a number finds them, and each answer is the only one.
use Rattle.std.proofs.Common.{◌≡◌, ◌≢◌, ℕ, zero, suc, ◌+◌, ◌-◌, ◌<◌, ◌≤◌, min, Bool, true, false, cond, Some, None, Ok, Err, Option, Result, sym, refl, ap, ◌∙◌, inl, inr, arith, MatchOption}
use Rattle.std.proofs.lemmas.Bool.{both_ways, cases_order}
use Rattle.grid.specs.Neighbours.{Lawful, NextAbove, NextBelow, Unlawful, Checked, first_above, first_below, next_above, next_below, fault_by, fault_at}
use Rattle.grid.specs.declared.GridFault.{GridFault}
use Rattle.grid.specs.declared.GridFault.TheVariants.{PastLast, BelowFirst, BetweenSteps}

-- no lawful price is above the top
abbrev pub Topped : (ℕ → Bool) → ℕ → Type 0
Topped lawful top = (p : ℕ) → Lawful lawful p → p ≤ top

-- a lawful number is no unlawful one
apart : (lawful : ℕ → Bool) (p x : ℕ) → lawful p ≡ false → Lawful lawful x → x ≢ p
apart lawful p x e l i = both_ways (lawful p) e (ap lawful (sym i) ∙ l)

-- ---- above

-- r is the next lawful price above p, or none of the n numbers above p is lawful
abbrev AboveWithin : (ℕ → Bool) → ℕ → ℕ → Option ℕ → Type 0
AboveWithin lawful n p r = MatchOption r ((x : ℕ) → p < x → x ≤ p + n → Lawful lawful x → ⊥) (λ q. NextAbove lawful p (Some q))

above_more : (lawful : ℕ → Bool) (n p : ℕ) → lawful (suc p) ≡ false → (r : Option ℕ) → AboveWithin lawful n (suc p) r → AboveWithin lawful (suc n) p r
above_more lawful n p e None h = λ x a b l. h x (omega (arith, apart lawful (suc p) x e l)) (omega arith) l
above_more lawful n p e (Some q) h = (omega (arith, h.0), h.1, λ x a b l. h.2 x (omega (arith, apart lawful (suc p) x e l)) b l)

first_above_lem : (lawful : ℕ → Bool) (n p : ℕ) → AboveWithin lawful n p (first_above lawful n p)
unfolding first_above
first_above_lem lawful zero p = λ x a b l. omega arith
first_above_lem lawful (suc n) p = (elim (lawful (suc p)) as (λ v. lawful (suc p) ≡ v → AboveWithin lawful (suc n) p (cond v (Some (suc p)) (first_above lawful n (suc p)))) [
  | true ↦ λ e. (omega arith, e, λ x a b l. omega arith)
  | false ↦ λ e. above_more lawful n p e (first_above lawful n (suc p)) (first_above_lem lawful n (suc p))
]) refl

above_all : (lawful : ℕ → Bool) (top : ℕ) → Topped lawful top → (p : ℕ) (r : Option ℕ) → AboveWithin lawful (top - p) p r → NextAbove lawful p r
above_all lawful top t p None h = λ x a l. h x a (omega (arith, t x l)) l
above_all lawful top t p (Some q) h = h

pub above_finds : (lawful : ℕ → Bool) (top : ℕ) → Topped lawful top → (p : ℕ) → NextAbove lawful p (next_above lawful top p)
above_finds lawful top t p = above_all lawful top t p (next_above lawful top p) (first_above_lem lawful (top - p) p)

pub above_one : (lawful : ℕ → Bool) (p : ℕ) (r s : Option ℕ) → NextAbove lawful p r → NextAbove lawful p s → r ≡ s
above_one lawful p None None h k = refl
above_one lawful p None (Some c) h k = absurd (h c k.0 k.1)
above_one lawful p (Some c) None h k = absurd (k c h.0 h.1)
above_one lawful p (Some c) (Some d) h k =
    elim (cases_order c d) [
      | inl e ↦ ap Some e
      | inr e ↦ elim e [ inl l ↦ absurd (k.2 c h.0 l h.1) | inr l ↦ absurd (h.2 d k.0 l k.1) ]
    ]

-- ---- below

below_more : (lawful : ℕ → Bool) (p : ℕ) → lawful p ≡ false → (r : Option ℕ) → NextBelow lawful p r → NextBelow lawful (suc p) r
below_more lawful p e None h = λ x a l. h x (omega (arith, apart lawful p x e l)) l
below_more lawful p e (Some q) h = (omega (arith, h.0), h.1, λ x a b l. h.2 x a (omega (arith, apart lawful p x e l)) l)

first_below_lem : (lawful : ℕ → Bool) (p : ℕ) → NextBelow lawful p (first_below lawful p)
unfolding first_below
first_below_lem lawful zero = λ x a l. omega arith
first_below_lem lawful (suc p) = (elim (lawful p) as (λ v. lawful p ≡ v → NextBelow lawful (suc p) (cond v (Some p) (first_below lawful p))) [
  | true ↦ λ e. (omega arith, e, λ x a b l. omega arith)
  | false ↦ λ e. below_more lawful p e (first_below lawful p) (first_below_lem lawful p)
]) refl

below_all : (lawful : ℕ → Bool) (top : ℕ) → Topped lawful top → (p : ℕ) (r : Option ℕ) → NextBelow lawful (min p (suc top)) r → NextBelow lawful p r
below_all lawful top t p None h = λ x a l. h x (omega (arith, t x l)) l
below_all lawful top t p (Some q) h = (omega (arith, h.0), h.1, λ x a b l. h.2 x a (omega (arith, t x l)) l)

pub below_finds : (lawful : ℕ → Bool) (top : ℕ) → Topped lawful top → (p : ℕ) → NextBelow lawful p (next_below lawful top p)
below_finds lawful top t p = below_all lawful top t p (next_below lawful top p) (first_below_lem lawful (min p (suc top)))

pub below_one : (lawful : ℕ → Bool) (p : ℕ) (r s : Option ℕ) → NextBelow lawful p r → NextBelow lawful p s → r ≡ s
below_one lawful p None None h k = refl
below_one lawful p None (Some c) h k = absurd (h c k.0 k.1)
below_one lawful p (Some c) None h k = absurd (k c h.0 h.1)
below_one lawful p (Some c) (Some d) h k =
    elim (cases_order c d) [
      | inl e ↦ ap Some e
      | inr e ↦ elim e [ inl l ↦ absurd (h.2 d l k.0 k.1) | inr l ↦ absurd (k.2 c l h.0 h.1) ]
    ]

-- ---- faults

-- an unlawful number has the fault that its neighbours tell
told : (lawful : ℕ → Bool) (p : ℕ) → lawful p ≡ false → (a b : Option ℕ) → NextAbove lawful p a → NextBelow lawful p b → Unlawful lawful p (fault_by a b)
told lawful p e None b up down = λ x h l. up x (omega (arith, apart lawful p x e l)) l
told lawful p e (Some q) None up down = ((q, omega (arith, up.0), up.1), λ x h l. down x (omega (arith, apart lawful p x e l)) l)
told lawful p e (Some q) (Some r) up down = ((q, omega (arith, up.0), up.1), (r, omega (arith, down.0), down.1), λ l. both_ways (lawful p) e l)

pub fault_finds : (lawful : ℕ → Bool) (top : ℕ) → Topped lawful top → (p : ℕ) → MatchOption (fault_at lawful top p) (Lawful lawful p) (Unlawful lawful p)
fault_finds lawful top t p = (elim (lawful p) as (λ v. lawful p ≡ v → MatchOption (cond v None (Some (fault_by (next_above lawful top p) (next_below lawful top p)))) (Lawful lawful p) (Unlawful lawful p)) [
  | true ↦ λ e. e
  | false ↦ λ e. told lawful p e (next_above lawful top p) (next_below lawful top p) (above_finds lawful top t p) (below_finds lawful top t p)
]) refl

-- a number with a fault is not lawful
pub unlawful_not : (lawful : ℕ → Bool) (p : ℕ) (f : GridFault) → Unlawful lawful p f → Lawful lawful p → ⊥
unlawful_not lawful p PastLast u l = u p (omega arith) l
unlawful_not lawful p BelowFirst u l = u.1 p (omega arith) l
unlawful_not lawful p BetweenSteps u l = u.2 l

pub fault_one : (lawful : ℕ → Bool) (p : ℕ) (f g : GridFault) → Unlawful lawful p f → Unlawful lawful p g → f ≡ g
fault_one lawful p PastLast PastLast h k = refl
fault_one lawful p PastLast BelowFirst h k = absurd (h k.0.0 k.0.1 k.0.2)
fault_one lawful p PastLast BetweenSteps h k = absurd (h k.0.0 k.0.1 k.0.2)
fault_one lawful p BelowFirst PastLast h k = absurd (k h.0.0 h.0.1 h.0.2)
fault_one lawful p BelowFirst BelowFirst h k = refl
fault_one lawful p BelowFirst BetweenSteps h k = absurd (h.1 k.1.0 k.1.1 k.1.2)
fault_one lawful p BetweenSteps PastLast h k = absurd (k h.0.0 h.0.1 h.0.2)
fault_one lawful p BetweenSteps BelowFirst h k = absurd (k.1 h.1.0 h.1.1 h.1.2)
fault_one lawful p BetweenSteps BetweenSteps h k = refl

pub checked_one : (lawful : ℕ → Bool) (p : ℕ) (r s : Result Unit GridFault) → Checked lawful p r → Checked lawful p s → r ≡ s
checked_one lawful p (Ok u) (Ok v) h k = refl
checked_one lawful p (Ok u) (Err f) h k = absurd (unlawful_not lawful p f k h)
checked_one lawful p (Err f) (Ok v) h k = absurd (unlawful_not lawful p f h k)
checked_one lawful p (Err f) (Err g) h k = ap Err (fault_one lawful p f g h k)
