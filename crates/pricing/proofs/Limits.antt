-- The limits of a list of orders are tried one after another; in the end the best lawful price is found.
use Rattle.std.proofs.Common.{◌≡◌, ℕ, ◌+◌, ◌<◌, Bool, ◌⊎◌, List, length, get_or, take, Some, None, Option, sym, ap, ◌∙◌, subst, inl, inr, arith}
use Rattle.std.specs.List.{AllByRecursion}
use Rattle.std.specs.Option.{IfSome}
use Rattle.std.proofs.ByRecursion.{All-weaker, All-more}
use Rattle.grid.specs.Neighbours.{Lawful, Priced, NextAbove, NextBelow}
use Rattle.rules.specs.declared.order.Order.{Order}
use Rattle.rules.specs.declared.opening.Score.{Score}
use Rattle.rules.specs.Auctions.{Auction}
use Rattle.rules.specs.Candidates.{grid_of, best}
use Rattle.rules.proofs.Beating.{AsGood}
use Rattle.rules.proofs.Reaching.{Near, Around, AtLimit, Anchors, reached, covers}
use Rattle.rules.proofs.Choosing.{Topped, up, down, neighboured, BestOrNone, best_is, best_one}
use Rattle.pricing.specs.Trials.{scored, Beside, Found, Covers, Tried, AroundTried, LimitTried, LimitsTried, SoFar}
use Rattle.pricing.proofs.Blank.{blank}
use Rattle.pricing.proofs.Trying.{as_good}

module _ (lawful : ℕ → Bool) (a : Auction) where
  limits_kept : (old new : Option Score) (os : List Order) → ((c : ℕ) → Covers lawful a old c → Covers lawful a new c) → AllByRecursion (LimitTried lawful a old) os → AllByRecursion (LimitTried lawful a new) os
  limits_kept old new os keeps = All-weaker (LimitTried lawful a old) (LimitTried lawful a new) (λ o d h c b. keeps c (d h c b)) os

  module _ (old r : Option Score) (t : Option ℕ) (os : List Order) (i : ℕ) (within : i < length os) (s : SoFar lawful a old r t (take i os)) where
    -- an order more whose limit was tried
    pub one_tried : (new : Option Score) (t' : Option ℕ) → t' ≡ Some (get_or os i blank).limit → Tried lawful a r new (Beside lawful (get_or os i blank).limit) → SoFar lawful a old new t' (take (i + 1) os)
    one_tried new t' e h = record {
      around = subst (λ o. IfSome o (AroundTried lawful a new)) (sym e) h.adds;
      limits = record {
        found = h.found;
        keeps = λ c k. h.keeps c (s.limits.keeps c k);
        limits = All-more (LimitTried lawful a new) os i blank within (limits_kept r new (take i os) h.keeps s.limits.limits) (λ _. h.adds);
      };
    }

    -- an order more that is a market order, or has the limit that was tried last
    pub one_skipped : ((get_or os i blank).limit ≡ 0) ⊎ (t ≡ Some (get_or os i blank).limit) → SoFar lawful a old r t (take (i + 1) os)
    one_skipped e = record {
      around = s.around;
      limits = record { found = s.limits.found; keeps = s.limits.keeps; limits = All-more (LimitTried lawful a r) os i blank within s.limits.limits (here e) };
    }
      where
        here : ((get_or os i blank).limit ≡ 0) ⊎ (t ≡ Some (get_or os i blank).limit) → LimitTried lawful a r (get_or os i blank)
        here (inl z) = λ h. absurd (omega (arith, h, z))
        here (inr z) = λ _. subst (λ o. IfSome o (AroundTried lawful a r)) z s.around

  -- ---- the whole search

  near_beside : (t : Topped (grid_of lawful)) (x c : ℕ) → Near (up (grid_of lawful)) (down (grid_of lawful)) x c → Beside lawful x c
  near_beside t x c (inl e) = inl e
  near_beside t x c (inr (inl e)) = inr (inl (subst (NextAbove lawful x) e ((neighboured (grid_of lawful) t).ups x)))
  near_beside t x c (inr (inr e)) = inr (inr (subst (NextBelow lawful x) e ((neighboured (grid_of lawful) t).downs x)))

  -- what the best found covers at and beside every anchor
  anchored : (t : Topped (grid_of lawful)) (Q : ℕ → Type 0) (r : Option Score) → ((c : ℕ) → Covers lawful a r c → Lawful lawful c → Q c)
      → AroundTried lawful a r a.last → AllByRecursion (LimitTried lawful a r) a.buys → AllByRecursion (LimitTried lawful a r) a.sells
      → Anchors (Around Q lawful (up (grid_of lawful)) (down (grid_of lawful))) a
  anchored t Q r f l bs ss =
      let P = Around Q lawful (up (grid_of lawful)) (down (grid_of lawful)) in
      let carry : (o : Order) → LimitTried lawful a r o → AtLimit P o = λ o d h c n lc. f c (d h c (near_beside t o.limit c n)) lc in
      record {
        at_last = λ c n lc. f c (l c (near_beside t a.last c n)) lc;
        at_buys = All-weaker (LimitTried lawful a r) (AtLimit P) carry a.buys bs;
        at_sells = All-weaker (LimitTried lawful a r) (AtLimit P) carry a.sells ss;
      }

  best_of_covered : (t : Topped (grid_of lawful)) (r : Option Score) → Found lawful a r → AroundTried lawful a r a.last → AllByRecursion (LimitTried lawful a r) a.buys → AllByRecursion (LimitTried lawful a r) a.sells
      → r ≡ scored a (best (grid_of lawful) a)
  best_of_covered t None f l bs ss =
      let none : BestOrNone lawful a None = λ q lq.
      let m = reached (neighboured (grid_of lawful) t) _ a (anchored t (λ c. ⊥) None (λ c k lc. k lc) l bs ss) q lq in
      m.holds m.price m.near m.is_lawful in
      ap (scored a) (best_one lawful a None (best (grid_of lawful) a) none (best_is (grid_of lawful) t a))
  best_of_covered t (Some w) f l bs ss =
      let win = covers (neighboured (grid_of lawful) t) a w.price f.0 (anchored t (AsGood a w.price) (Some w) (λ c k lc. as_good a w.price c (k lc)) l bs ss) in
      ap Some f.1 ∙ ap (scored a) (best_one lawful a (Some w.price) (best (grid_of lawful) a) win (best_is (grid_of lawful) t a))

  -- the last price, then the limits of the buys, then those of the sells
  pub searched : Priced lawful → (r s r' : Option Score) → Tried lawful a None r (Beside lawful a.last) → LimitsTried lawful a r s a.buys → LimitsTried lawful a s r' a.sells
      → r' ≡ scored a (best (grid_of lawful) a)
  searched priced r s r' l bs ss =
      best_of_covered (λ p lp. (priced p lp).1) r' ss.found (λ c b. ss.keeps c (bs.keeps c (l.adds c b))) (limits_kept s r' a.buys ss.keeps bs.limits) ss.limits
