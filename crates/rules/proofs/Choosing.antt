-- The best candidate is as good as every lawful price.
use Rattle.std.proofs.Common.{◌≡◌, ℕ, ◌≤◌, Bool, true, false, cond, eqb, List, [], ◌∷◌, Some, None, Option, sym, refl, subst, inl, inr, arith, MatchOption}
use Rattle.std.specs.List.{AllByRecursion}
use Rattle.std.proofs.lemmas.Bool.{cond_both, eqb-true}
use Rattle.grid.specs.Neighbours.{Lawful, NextAbove, NextBelow, next_above, next_below}
use Rattle.grid.proofs.Searches.{above_finds, below_finds}
use Rattle.rules.specs.declared.order.Order.{Order}
use Rattle.rules.specs.Auctions.{Auction, beats}
use Rattle.rules.specs.Candidates.{Grid, with_some, with_lawful, around, around_limits, candidates, better_of, best_from, best_of, best}
use Rattle.rules.proofs.Beating.{AsGood, beats_says, beats_not, as_good_trans, as_good_both}
use Rattle.rules.proofs.Reaching.{Best, Neighboured, Around, AtLimit, Anchors, reached, covers}

-- no lawful price is above the top
abbrev pub Topped : Grid → Type 0
Topped g = (p : ℕ) → Lawful g.lawful p → p ≤ g.top

abbrev pub up : Grid → ℕ → Option ℕ
up g = next_above g.lawful g.top

abbrev pub down : Grid → ℕ → Option ℕ
down g = next_below g.lawful g.top

pub neighboured : (g : Grid) → Topped g → Neighboured g.lawful (up g) (down g)
neighboured g t = record { ups = above_finds g.lawful g.top t; downs = below_finds g.lawful g.top t }

-- ---- the best of a list

better_good : (a : Auction) (w p : ℕ) → AsGood a (better_of a w p) w × AsGood a (better_of a w p) p
better_good a w p = cond_both (beats a p w) p w (λ x. AsGood a x w × AsGood a x p) (λ h. (inr (beats_says a p w h), inl refl)) (λ h. (inl refl, beats_not a p w h))

best_from_good : (a : Auction) (w : ℕ) (ps : List ℕ) → AsGood a (best_from a w ps) w × AllByRecursion (AsGood a (best_from a w ps)) ps
unfolding best_from
best_from_good a w [] = (inl refl, tt)
best_from_good a w (p ∷ ps) =
    let i = best_from_good a (better_of a w p) ps in
    let g = better_good a w p in
    (as_good_trans a _ _ w i.0 g.0, (as_good_trans a _ _ p i.0 g.1, i.1))

best_from_is : (Q : ℕ → Type 0) (a : Auction) (w : ℕ) (ps : List ℕ) → Q w → AllByRecursion Q ps → Q (best_from a w ps)
unfolding best_from
best_from_is Q a w [] h k = h
best_from_is Q a w (p ∷ ps) h k = best_from_is Q a (better_of a w p) ps (cond_both (beats a p w) p w Q (λ _. k.0) (λ _. h)) k.1

-- ---- what holds of every candidate holds at and beside every anchor

with_some_all : (Q : ℕ → Type 0) (o : Option ℕ) (ps : List ℕ) → AllByRecursion Q (with_some o ps) → ((c : ℕ) → o ≡ Some c → Q c) × AllByRecursion Q ps
with_some_all Q None ps k = ((λ c e. absurd (cc)), k)
with_some_all Q (Some p) ps k = ((λ c e. subst Q (cc) k.0), k.1)

all_with_some : (Q : ℕ → Type 0) (o : Option ℕ) (ps : List ℕ) → ((c : ℕ) → o ≡ Some c → Q c) → AllByRecursion Q ps → AllByRecursion Q (with_some o ps)
all_with_some Q None ps h k = k
all_with_some Q (Some p) ps h k = (h p refl, k)

with_lawful_all : (Q : ℕ → Type 0) (g : Grid) (p : ℕ) (ps : List ℕ) → AllByRecursion Q (with_lawful g p ps) → (Lawful g.lawful p → Q p) × AllByRecursion Q ps
with_lawful_all Q g p ps k = (elim (g.lawful p) as (λ v. AllByRecursion Q (cond v (p ∷ ps) ps) → (v ≡ true → Q p) × AllByRecursion Q ps) [
  | true ↦ λ k. (λ _. k.0, k.1)
  | false ↦ λ k. (λ e. absurd (cc), k)
]) k

module _ (Q : ℕ → Type 0) (g : Grid) where
  abbrev Beside : ℕ → Type 0
  Beside = Around Q g.lawful (up g) (down g)

  around_all : (p : ℕ) (ps : List ℕ) → AllByRecursion Q (around g p ps) → Beside p × AllByRecursion Q ps
  around_all p ps k =
      let i = with_lawful_all Q g p (with_some (up g p) (with_some (down g p) ps)) k in
      let u = with_some_all Q (up g p) (with_some (down g p) ps) i.1 in
      let d = with_some_all Q (down g p) ps u.1 in
      ((λ c n l. elim n [ inl e ↦ subst Q (sym e) (i.0 (subst (Lawful g.lawful) e l)) | inr m ↦ elim m [ inl e ↦ u.0 c e | inr e ↦ d.0 c e ] ]), d.1)

  around_limits_all : (os : List Order) (ps : List ℕ) → AllByRecursion Q (around_limits g os ps) → AllByRecursion (AtLimit Beside) os × AllByRecursion Q ps
  unfolding around_limits
  around_limits_all [] ps k = (tt, k)
  around_limits_all (o ∷ os) ps k = (elim (eqb o.limit 0) as (λ v. eqb o.limit 0 ≡ v → AllByRecursion Q (cond v (around_limits g os ps) (around g o.limit (around_limits g os ps))) → AllByRecursion (AtLimit Beside) (o ∷ os) × AllByRecursion Q ps) [
    | true ↦ λ e k. (let i = around_limits_all os ps k in ((λ h. absurd (omega (arith, eqb-true o.limit 0 e)), i.0), i.1))
    | false ↦ λ e k. (let n = around_all o.limit (around_limits g os ps) k in let i = around_limits_all os ps n.1 in ((λ _. n.0, i.0), i.1))
  ]) refl k

  anchored : (a : Auction) → AllByRecursion Q (candidates g a) → Anchors Beside a
  anchored a k =
      let l = around_all a.last (around_limits g a.buys (around_limits g a.sells [])) k in
      let x = around_limits_all a.buys (around_limits g a.sells []) l.1 in
      let y = around_limits_all a.sells [] x.1 in
      record { at_last = l.0; at_buys = x.0; at_sells = y.0 }

-- ---- every candidate is lawful

module _ (g : Grid) (t : Topped g) where
  around_lawful : (p : ℕ) (ps : List ℕ) → AllByRecursion (Lawful g.lawful) ps → AllByRecursion (Lawful g.lawful) (around g p ps)
  around_lawful p ps k =
      let n = neighboured g t in
      let d = all_with_some (Lawful g.lawful) (down g p) ps (λ c e. (subst (NextBelow g.lawful p) e (n.downs p)).1) k in
      let u = all_with_some (Lawful g.lawful) (up g p) (with_some (down g p) ps) (λ c e. (subst (NextAbove g.lawful p) e (n.ups p)).1) d in
      cond_both (g.lawful p) _ _ (AllByRecursion (Lawful g.lawful)) (λ e. (e, u)) (λ _. u)

  around_limits_lawful : (os : List Order) (ps : List ℕ) → AllByRecursion (Lawful g.lawful) ps → AllByRecursion (Lawful g.lawful) (around_limits g os ps)
  unfolding around_limits
  around_limits_lawful [] ps k = k
  around_limits_lawful (o ∷ os) ps k =
      let i = around_limits_lawful os ps k in
      cond_both (eqb o.limit 0) _ _ (AllByRecursion (Lawful g.lawful)) (λ _. i) (λ _. around_lawful o.limit (around_limits g os ps) i)

  candidates_lawful : (a : Auction) → AllByRecursion (Lawful g.lawful) (candidates g a)
  candidates_lawful a =
      around_lawful a.last (around_limits g a.buys (around_limits g a.sells []))
      (around_limits_lawful a.buys (around_limits g a.sells []) (around_limits_lawful a.sells [] tt))

-- ---- the best candidate

-- w is the best lawful price, or no price is lawful
abbrev pub BestOrNone : (ℕ → Bool) → Auction → Option ℕ → Type 0
BestOrNone lawful a r = MatchOption r ((q : ℕ) → Lawful lawful q → ⊥) (Best lawful a)

best_of_lem : (g : Grid) → Topped g → (a : Auction) (ps : List ℕ) → candidates g a ≡ ps → BestOrNone g.lawful a (best_of a ps)
best_of_lem g t a [] e = λ q l.
    let r = reached (neighboured g t) (Beside (λ c. ⊥) g) a (anchored (λ c. ⊥) g a (subst (AllByRecursion (λ c. ⊥)) (sym e) tt)) q l in
    r.holds r.price r.near r.is_lawful
best_of_lem g t a (p ∷ ps) e =
    let lawful = subst (AllByRecursion (Lawful g.lawful)) e (candidates_lawful g t a) in
    covers (neighboured g t) a (best_from a p ps) (best_from_is (Lawful g.lawful) a p ps lawful.0 lawful.1)
    (anchored (AsGood a (best_from a p ps)) g a (subst (AllByRecursion (AsGood a (best_from a p ps))) (sym e) (best_from_good a p ps)))

pub best_is : (g : Grid) → Topped g → (a : Auction) → BestOrNone g.lawful a (best g a)
best_is g t a = best_of_lem g t a (candidates g a) refl

-- there is one best price at most, so a search that finds one finds the best candidate
pub best_one : (lawful : ℕ → Bool) (a : Auction) (r s : Option ℕ) → BestOrNone lawful a r → BestOrNone lawful a s → r ≡ s
best_one lawful a None None h k = refl
best_one lawful a None (Some v) h k = absurd (h v k.is_lawful)
best_one lawful a (Some w) None h k = absurd (k w h.is_lawful)
best_one lawful a (Some w) (Some v) h k =
    let e = as_good_both a w v (h.tops v k.is_lawful) (k.tops w h.is_lawful) in rw e
