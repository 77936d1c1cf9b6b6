-- A queue that has lost records, or parts of them.
use Rattle.std.proofs.Common.{◌≡◌, ℕ, ◌<◌, ◌≤◌, Bool, false, List, [], ◌∷◌, filter, refl, ap, ◌∙◌, arith}
use Rattle.std.specs.List.{AllByRecursion}
use Rattle.std.proofs.ByRecursion.{All-weaker}
use Rattle.std.proofs.lemmas.Bool.{cond_both}
use Rattle.rules.specs.declared.order.Order.{Order}
use Rattle.rules.specs.declared.order.Side.{Side}
use Rattle.trading.specs.Queues.{without_first, limit_ahead, order_ahead}
use Rattle.trading.specs.Books.{Venue, reduced}
use Rattle.trading.specs.Ranges.{is_number, may_stand}
use Rattle.trading.specs.Sweeps.{sweep}
use Rattle.trading.specs.Uncrossings.{Paired, pairs}
use Rattle.sessions.proofs.Ranking.{Sorted}
use Rattle.sessions.proofs.Sweeping.{sweep_by}
use Rattle.sessions.proofs.Pairing.{pairs_by}
use Rattle.sessions.proofs.Standing.{Good, quantity_less, good_some}

-- x is y, or what a trade leaves of it
pub record Like (x y : Order) : Type 0 where
  pub number : x.number ≡ y.number
  pub side : x.side ≡ y.side
  pub limit : x.limit ≡ y.limit
  pub validity : x.validity ≡ y.validity
  pub some : 0 < y.«open» → 0 < x.«open»
  pub less : x.«open» ≤ y.«open»

pub like_same : (x : Order) → Like x x
like_same x = record { number = refl; side = refl; limit = refl; validity = refl; some = λ h. h; less = omega arith }

pub like_cut : (x : Order) (q : ℕ) → q < x.«open» → Like (reduced x q) x
like_cut x q h = record { number = refl; side = refl; limit = refl; validity = refl; some = λ _. omega arith; less = omega arith }

pub like_trans : {x y z : Order} → Like x y → Like y z → Like x z
like_trans h k = record { number = h.number ∙ k.number; side = h.side ∙ k.side; limit = h.limit ∙ k.limit; validity = h.validity ∙ k.validity; some = λ l. h.some (k.some l); less = omega (arith, h.less, k.less) }

pub data Part : List Order → List Order → Type 0 where
  empty : Part [] []
  skip : {y : Order} {xs ys : List Order} → Part xs ys → Part xs (y ∷ ys)
  like : {x y : Order} {xs ys : List Order} → Like x y → Part xs ys → Part (x ∷ xs) (y ∷ ys)

pub part_same : (xs : List Order) → Part xs xs
part_same [] = empty
part_same (x ∷ xs) = like (like_same x) (part_same xs)

pub part_front : {x y : Order} {xs ys : List Order} → Like x y → Part xs (x ∷ ys) → Part xs (y ∷ ys)
part_front l (skip p) = skip p
part_front l (like k p) = like (like_trans k l) p

-- what holds of the records, and of what a trade leaves of them
pub part_all : (P : Order → Type 0) → ((x y : Order) → Like x y → P y → P x) → {xs ys : List Order} → Part xs ys → AllByRecursion P ys → AllByRecursion P xs
part_all P s empty a = tt
part_all P s (skip p) a = part_all P s p a.1
part_all P s (like {x = x} {y = y} l p) a = (s x y l a.0, part_all P s p a.1)

ahead_like : (x y z : Order) → Like x y → order_ahead y z ≡ false → order_ahead x z ≡ false
ahead_like x y z l h = ap (λ s. limit_ahead s z.side x.limit z.limit) l.side ∙ ap (λ s. limit_ahead y.side z.side s z.limit) l.limit ∙ h

behind_like : (x y z : Order) → Like x y → order_ahead z y ≡ false → order_ahead z x ≡ false
behind_like x y z l h = ap (λ s. limit_ahead z.side s z.limit x.limit) l.side ∙ ap (λ s. limit_ahead z.side y.side z.limit s) l.limit ∙ h

pub part_sorted : {xs ys : List Order} → Part xs ys → Sorted order_ahead ys → Sorted order_ahead xs
part_sorted empty s = tt
part_sorted (skip p) s = part_sorted p s.1
part_sorted (like {x = x} {y = y} {xs = xs} l p) s =
    (All-weaker (λ z. order_ahead z y ≡ false) (λ z. order_ahead z x ≡ false) (λ z h. behind_like x y z l h) xs (part_all (λ z. order_ahead z y ≡ false) (λ u v k h. ahead_like u v y k h) p s.0), part_sorted p s.1)

pub good_like : (v : Venue) (side : Side) (x y : Order) → Like x y → Good v side y → Good v side x
good_like v side x y l g = record {
  on_side = l.side ∙ g.on_side;
  number = ap is_number l.number ∙ g.number;
  quantity = quantity_less x.«open» y.«open» g.quantity (l.some (good_some v side y g)) l.less;
  stands = ap (λ p. may_stand p x.validity) l.limit ∙ ap (may_stand y.limit) l.validity ∙ g.stands;
  is_lawful = λ h. ap v.grid.lawful l.limit ∙ g.is_lawful (omega (arith, l.limit));
}

-- ---- the ways in which queues lose

pub part_without : (p : Order → Bool) (xs : List Order) → Part (without_first p xs) xs
unfolding without_first
part_without p [] = empty
part_without p (x ∷ xs) = cond_both (p x) _ _ (λ ys. Part ys (x ∷ xs)) (λ _. skip (part_same xs)) (λ _. like (like_same x) (part_without p xs))

pub part_kept : (p : Order → Bool) (xs : List Order) → Part (filter p xs) xs
part_kept p [] = empty
part_kept p (x ∷ xs) = cond_both (p x) _ _ (λ ys. Part ys (x ∷ xs)) (λ _. like (like_same x) (part_kept p xs)) (λ _. skip (part_kept p xs))

pub part_swept : (allows : ℕ → ℕ → Bool) (t : Order) (rest last : ℕ) (os : List Order) → Part (sweep allows t rest last os).queue os
part_swept allows t = sweep_by allows t (λ rest last os s. Part s.queue os)
    (λ last os. part_same os)
    (λ rest last z. empty)
    (λ rest last o os z d w. part_same (o ∷ os))
    (λ rest last o os z d f. part_same (o ∷ os))
    (λ rest last o os s d h. like (like_same o) h)
    (λ rest last o os s d w f l h. skip h)
    (λ rest last o os z d w f l. like (like_cut o rest l) (part_same os))

abbrev Both : List Order → List Order → Paired → Type 0
Both bs ss r = Part r.buys bs × Part r.sells ss

pub parts_paired : (p : ℕ) (bs ss : List Order) → Both bs ss (pairs p bs ss)
parts_paired p = pairs_by p Both
    (λ ss. (empty, part_same ss))
    (λ b bs. (part_same (b ∷ bs), empty))
    (λ b bs ss r a h. (like (like_same b) h.0, h.1))
    (λ b bs s ss r a h. (h.0, like (like_same s) h.1))
    (λ b bs s ss r a e l h. (part_front (like_cut b s.«open» l) h.0, skip h.1))
    (λ b bs s ss r a e l h. (skip h.0, skip h.1))
    (λ b bs s ss r a e l h. (skip h.0, part_front (like_cut s b.«open» l) h.1))
