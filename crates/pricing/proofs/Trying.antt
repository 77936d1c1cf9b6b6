-- One price more is tried: nothing that was covered is lost, and that price is covered.
use Rattle.std.proofs.Common.{◌≡◌, ℕ, Bool, true, false, cond, ◌⊎◌, Some, None, Option, sym, refl, ap, ◌∙◌, subst, inl, inr, arith}
use Rattle.std.proofs.lemmas.Bool.{cond_both, cond-true, cond-false, cases_Bool, both_ways}
use Rattle.std.proofs.lemmas.Option.{none-some, same_Some}
use Rattle.grid.specs.Neighbours.{Lawful, NextAbove, NextBelow}
use Rattle.grid.proofs.Searches.{above_one, below_one}
use Rattle.rules.specs.declared.opening.Score.{Score}
use Rattle.rules.specs.Outranks.{outranks}
use Rattle.rules.specs.Auctions.{Auction, score_of}
use Rattle.rules.specs.Winners.{LosesTo}
use Rattle.rules.proofs.Beating.{AsGood, beats_says, beats_not}
use Rattle.pricing.specs.Trials.{Beside, Found, Covers, chosen, chosen_of, Tried}

pub as_good : (a : Auction) (w c : ℕ) → (c ≡ w) ⊎ LosesTo a w c → AsGood a w c
as_good a w c h = grind arith

covered : (a : Auction) (w c : ℕ) → AsGood a w c → (c ≡ w) ⊎ LosesTo a w c
covered a w c h = grind arith

-- what is as good as a covering price covers too
covered_by : (a : Auction) (v w c : ℕ) → AsGood a v w → (c ≡ w) ⊎ LosesTo a w c → (c ≡ v) ⊎ LosesTo a v c
covered_by a v w c h k = grind arith

module _ (lawful : ℕ → Bool) (a : Auction) where
  unlawful_covered : (r : Option Score) (c : ℕ) → (Lawful lawful c → ⊥) → Covers lawful a r c
  unlawful_covered None c h = h
  unlawful_covered (Some w) c h = λ l. absurd (h l)

  tried_none : (old : Option Score) (P : ℕ → Type 0) → Found lawful a old → ((c : ℕ) → P c → Covers lawful a old c) → Tried lawful a old old P
  tried_none old P f h = record { found = f; keeps = λ c k. k; adds = h }

  tried_one : (old : Option Score) (p : ℕ) → Lawful lawful p → Found lawful a old → Tried lawful a old (chosen a old (score_of a p)) (λ c. c ≡ p)
  tried_one None p l f = record { found = (l, refl); keeps = λ c k lc. absurd (k lc); adds = λ c e lc. inl e }
  tried_one (Some w) p l f =
      cond_both (outranks a.last (score_of a p) w) (Some (score_of a p)) (Some w) (λ r. Tried lawful a (Some w) r (λ c. c ≡ p))
      (λ h. let b = beats_says a p w.price (subst (λ v. outranks a.last (score_of a p) v ≡ true) f.1 h) in record {
        found = (l, refl);
        keeps = λ c k lc. covered_by a p w.price c (inr b) (k lc);
        adds = λ c e lc. inl e;
      })
      (λ h. let b = beats_not a p w.price (subst (λ v. outranks a.last (score_of a p) v ≡ false) f.1 h) in record {
        found = f;
        keeps = λ c k. k;
        adds = λ c e lc. subst (λ v. (v ≡ w.price) ⊎ LosesTo a w.price v) (sym e) (covered a w.price p b);
      })

  tried_of : (old : Option Score) (o : Option ℕ) → ((p : ℕ) → o ≡ Some p → Lawful lawful p) → Found lawful a old → Tried lawful a old (chosen_of a old o) (λ c. o ≡ Some c)
  tried_of old None l f = tried_none old (λ c. None ≡ Some c) f (λ c e. absurd (cc))
  tried_of old (Some p) l f = let t = tried_one old p (l p refl) f in record { found = t.found; keeps = t.keeps; adds = λ c e. t.adds c (cc) }

  -- a number, so far as lawful, then its neighbours
  pub around_tried : (old r1 r2 r3 : Option Score) (x : ℕ) (here up down : Option ℕ) → here ≡ cond (lawful x) (Some x) None → NextAbove lawful x up → NextBelow lawful x down
      → r1 ≡ chosen_of a old here → r2 ≡ chosen_of a r1 up → r3 ≡ chosen_of a r2 down
      → Found lawful a old → Tried lawful a old r3 (Beside lawful x)
  around_tried old r1 r2 r3 x here up down e u d i1 i2 i3 f =
      let t1 = subst (λ r. Tried lawful a old r (λ c. here ≡ Some c)) (sym i1) (tried_of old here lawful_here f) in
      let t2 = subst (λ r. Tried lawful a r1 r (λ c. up ≡ Some c)) (sym i2) (tried_of r1 up (λ p i. (subst (NextAbove lawful x) i u).1) t1.found) in
      let t3 = subst (λ r. Tried lawful a r2 r (λ c. down ≡ Some c)) (sym i3) (tried_of r2 down (λ p i. (subst (NextBelow lawful x) i d).1) t2.found) in
      record {
        found = t3.found;
        keeps = λ c k. t3.keeps c (t2.keeps c (t1.keeps c k));
        adds = λ c b. elim b [
          | inl i ↦ elim (cases_Bool (lawful x)) [
            | inl l ↦ t3.keeps c (t2.keeps c (t1.adds c (e ∙ cond-true (lawful x) (Some x) None l ∙ ap Some (sym i))))
            | inr n ↦ unlawful_covered _ c (λ l. both_ways (lawful x) n (ap lawful (sym i) ∙ l))
          ]
          | inr (inl n) ↦ t3.keeps c (t2.adds c (above_one lawful x up (Some c) u n))
          | inr (inr n) ↦ t3.adds c (below_one lawful x down (Some c) d n)
        ];
      }
    where
      lawful_here : (p : ℕ) → here ≡ Some p → Lawful lawful p
      lawful_here p i = elim (cases_Bool (lawful x)) [
        | inl l ↦ subst (Lawful lawful) (same_Some x p (sym (cond-true (lawful x) (Some x) None l) ∙ (sym e ∙ i))) l
        | inr n ↦ absurd (none-some p (sym (cond-false (lawful x) (Some x) None n) ∙ (sym e ∙ i)))
      ]
