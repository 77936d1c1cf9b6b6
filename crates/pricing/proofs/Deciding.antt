-- The decision on the best price is the opening price of the rules, and keeps the price law.
use Rattle.std.proofs.Common.{◌≡◌, ℕ, Bool, Some, None, Option, sym, refl, ap, ◌∙◌, subst}
use Rattle.grid.specs.Neighbours.{Priced}
use Rattle.rules.specs.declared.opening.Opening.{Opening}
use Rattle.rules.specs.declared.opening.Score.{Score}
use Rattle.rules.specs.Auctions.{Auction}
use Rattle.rules.specs.Candidates.{grid_of, best}
use Rattle.rules.specs.Openings.{opening_at, opening}
use Rattle.rules.specs.Winners.{PriceLaw}
use Rattle.rules.proofs.Opened.{opening_lawful}
use Rattle.pricing.specs.Trials.{scored, decided}

module _ (lawful : ℕ → Bool) (allows : ℕ → ℕ → ℕ → Bool) (static : ℕ) (a : Auction) where
  decides : (o : Option ℕ) → decided allows static a.last (scored a o) ≡ opening_at allows static a o
  decides None = refl
  decides (Some p) = refl

  pub is_opening : (b : Auction) (w : Option Score) (r : Opening) → b ≡ a → w ≡ scored b (best (grid_of lawful) b) → r ≡ decided allows static a.last w → r ≡ opening (grid_of lawful) allows static a
  is_opening b w r i e d =
      let found : w ≡ scored a (best (grid_of lawful) a) = subst (λ x. w ≡ scored x (best (grid_of lawful) x)) i e in
      d ∙ (ap (decided allows static a.last) found ∙ decides (best (grid_of lawful) a))

  pub keeps_law : Priced lawful → (r : Opening) → r ≡ opening (grid_of lawful) allows static a → PriceLaw lawful allows static a r
  keeps_law priced r e = subst (PriceLaw lawful allows static a) (sym e) (opening_lawful (grid_of lawful) (λ p l. (priced p l).1) allows static a)
