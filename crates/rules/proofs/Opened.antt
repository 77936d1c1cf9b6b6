-- The opening price keeps the price law.
use Rattle.std.proofs.Common.{◌≡◌, ℕ, ◌<◌, Bool, true, false, cond, eqb, Some, None, Option, refl, inl, inr, arith}
use Rattle.std.proofs.lemmas.Bool.{cases_Bool, cond-true, cond-false, eqb-true, eqb-false}
use Rattle.grid.specs.Neighbours.{Lawful}
use Rattle.rules.specs.declared.opening.Opening.{Opening}
use Rattle.rules.specs.declared.opening.Opening.TheVariants.{NoPrice, Printed, RefusedByCollar}
use Rattle.rules.specs.Auctions.{Auction, volume}
use Rattle.rules.specs.Candidates.{Grid, best}
use Rattle.rules.specs.Openings.{opening_at, opening}
use Rattle.rules.specs.Winners.{Winner, NothingExecutes, PriceLaw}
use Rattle.rules.proofs.Beating.{AsGood, as_good_both, as_good_volume}
use Rattle.rules.proofs.Reaching.{Best}
use Rattle.rules.proofs.Choosing.{Topped, BestOrNone, best_is}

pub best_wins : (lawful : ℕ → Bool) (a : Auction) (w : ℕ) → Best lawful a w → Winner lawful a w
best_wins lawful a w h = record { is_lawful = h.is_lawful; wins = λ q l n. grind (arith, h.tops q l) }

winner_good : (lawful : ℕ → Bool) (a : Auction) (v q : ℕ) → Winner lawful a v → Lawful lawful q → AsGood a v q
winner_good lawful a v q h l = grind (arith, h.wins q l)

only_one : (lawful : ℕ → Bool) (a : Auction) (w : ℕ) → Best lawful a w → (v : ℕ) → Winner lawful a v → v ≡ w
only_one lawful a w h v k = as_good_both a v w (winner_good lawful a v w k h.is_lawful) (h.tops v k.is_lawful)

module _ (lawful : ℕ → Bool) (allows : ℕ → ℕ → ℕ → Bool) (static : ℕ) (a : Auction) where
  -- where nothing executes
  nothing : NothingExecutes lawful a → PriceLaw lawful allows static a NoPrice
  nothing n = record { none = λ _. refl; only_none = λ _. n; some = λ not. absurd (not refl) }

  -- where w wins and executes something
  something : (w : ℕ) (r : Opening) → Best lawful a w → 0 < volume a w
      → (allows static a.last w ≡ true → r ≡ Printed w (volume a w)) → (allows static a.last w ≡ false → r ≡ RefusedByCollar w)
      → PriceLaw lawful allows static a r
  something w r h pos yes' no' = record {
    none = λ n. absurd (omega (arith, n w h.is_lawful));
    only_none = λ e. absurd (elim (cases_Bool (allows static a.last w)) [
      | inl t ↦ cc (yes' t)
      | inr f ↦ cc (no' f)
    ]);
    some = λ _. record { price = w; winner = best_wins lawful a w h; only = only_one lawful a w h; executes = pos; printed = yes'; refused = no' };
  }

  opening_at_lem : (o : Option ℕ) → BestOrNone lawful a o → PriceLaw lawful allows static a (opening_at allows static a o)
  opening_at_lem None h = nothing (λ q l. absurd (h q l))
  opening_at_lem (Some w) h =
      let allowed = allows static a.last w in
      let outcome = cond allowed (Printed w (volume a w)) (RefusedByCollar w) in
      elim (cases_Bool (eqb (volume a w) 0)) [
        | inl z ↦ rw (cond-true (eqb (volume a w) 0) NoPrice outcome z) (nothing (λ q l. let n = eqb-true (volume a w) 0 z in omega (arith, as_good_volume a w q (h.tops q l))))
        | inr z ↦ rw (cond-false (eqb (volume a w) 0) NoPrice outcome z) (something w outcome h (let n = eqb-false (volume a w) 0 z in omega arith) (λ t. cond-true allowed _ _ t) (λ f. cond-false allowed _ _ f))
      ]

-- the law of the opening price, for every grid and every collar
pub opening_lawful : (g : Grid) → Topped g → (allows : ℕ → ℕ → ℕ → Bool) (static : ℕ) (a : Auction) → PriceLaw g.lawful allows static a (opening g allows static a)
opening_lawful g t allows static a = opening_at_lem g.lawful allows static a (best g a) (best_is g t a)
