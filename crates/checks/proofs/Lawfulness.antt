-- A limit or a trigger that the grid refuses is not lawful, for the reason that the rules give.
use Rattle.std.proofs.Common.{◌∙◌, sym, Ok, Err, Result, MatchResult, IsErrAnd, ◌≡◌, ℕ, Bool, true, false, Some, None, ap, subst, MatchOption, arith}
use Rattle.std.proofs.lemmas.Bool.{false_from_ne_true, ne_eqb, cond-false}
use Rattle.grid.specs.Prices.{top_price}
use Rattle.grid.specs.Neighbours.{Priced, Unlawful, Lawful, Checked}
use Rattle.grid.specs.declared.GridFault.{GridFault}
use Rattle.grid.proofs.Searches.{fault_finds, fault_one, unlawful_not}
use Rattle.trading.specs.Calls.{unlawful, why_unlawful}
use Rattle.trading.specs.declared.fault.Part.{Part}
use Rattle.trading.specs.declared.fault.Unlawful.{Unlawful as Refusal}
use Rattle.checks.specs.Brought.{grid_only, PartChecked}

module _ (lawful : ℕ → Bool) (priced : Priced lawful) (p : ℕ) (f : GridFault) (u : Unlawful lawful p f) where
  not_lawful : lawful p ≡ false
  not_lawful = false_from_ne_true _ (unlawful_not lawful p f u)

  is_unlawful : (p ≡ 0 → ⊥) → unlawful (grid_only lawful) p ≡ true
  is_unlawful n = grind (arith, not_lawful, ne_eqb p 0 n)

  -- the fault that is told is the one that the rules find
  why : f ≡ why_unlawful (grid_only lawful) p
  why = fault_one lawful p f (why_unlawful (grid_only lawful) p) u found
    where
      found : Unlawful lawful p (why_unlawful (grid_only lawful) p)
      found = subst (λ o. MatchOption o (Lawful lawful p) (Unlawful lawful p)) (cond-false (lawful p) None (Some (why_unlawful (grid_only lawful) p)) not_lawful) (fault_finds lawful top_price (λ q l. (priced q l).1) p)

-- what a check answers, by what the grid answered, where made says how its refusal becomes another
pub checked : (lawful : ℕ → Bool) (priced : Priced lawful) (part : Part) (p : ℕ) (r : Result Unit GridFault) (w : Result Unit Refusal)
    (made : GridFault → Refusal → Type 0) → ((f : GridFault) (u : Refusal) → made f u → u ≡ record { part = part; fault = f }) → (p ≡ 0 → ⊥)
    → Checked lawful p r → MatchResult r (λ x. w ≡ Ok x) (λ f. IsErrAnd w (made f)) → PartChecked lawful part p w
checked lawful priced part p (Ok x) w made is n c e = subst (PartChecked lawful part p) (sym e) (grind arith)
checked lawful priced part p (Err f) (Ok x) made is n c e = absurd e
checked lawful priced part p (Err f) (Err u) made is n c e =
    (is_unlawful lawful priced p f c n, is f u e ∙ ap (λ k. record { part = part; fault = k }) (why lawful priced p f c))
