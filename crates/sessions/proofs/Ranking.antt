-- Who is ahead: never both of two, and transitive; queues stay in order when a record joins or leaves.
use Rattle.std.proofs.Common.{◌≡◌, ℕ, Bool, true, false, cond, not, List, [], ◌∷◌, Some, sym, refl, ap, subst, inl, inr, arith}
use Rattle.std.specs.List.{AllByRecursion}
use Rattle.std.proofs.ByRecursion.{All-weaker}
use Rattle.std.proofs.lemmas.Bool.{cond_both, cases_Bool, both_ways, and_from, true≢false}
use Rattle.std.proofs.lemmas.Bool.Decides.{nat_tests}
use Rattle.rules.specs.declared.order.Order.{Order}
use Rattle.rules.specs.declared.order.Side.{Side}
use Rattle.rules.specs.declared.order.Side.TheVariants.{Buy, Sell}
use Rattle.trading.specs.declared.stop.StopOrder.{StopOrder}
use Rattle.trading.specs.Queues.{joined, first_that, without_first, in_order, limit_ahead, order_ahead, trigger_ahead, stop_ahead}

-- ---- the ranking of orders and of stops

limit_never_both : (s t : Side) (a b : ℕ) → limit_ahead s t a b ≡ true → limit_ahead t s b a ≡ false
limit_never_both Buy Buy a b h = grind (arith, nat_tests)
limit_never_both Buy Sell a b h = refl
limit_never_both Sell Buy a b h = absurd (true≢false (sym h))
limit_never_both Sell Sell a b h = grind (arith, nat_tests)

limit_trans : (s t u : Side) (a b c : ℕ) → limit_ahead s t a b ≡ true → limit_ahead t u b c ≡ true → limit_ahead s u a c ≡ true
limit_trans Buy Buy Buy a b c h k = grind (arith, nat_tests)
limit_trans Buy Buy Sell a b c h k = refl
limit_trans Buy Sell Buy a b c h k = absurd (true≢false (sym k))
limit_trans Buy Sell Sell a b c h k = refl
limit_trans Sell Buy u a b c h k = absurd (true≢false (sym h))
limit_trans Sell Sell Buy a b c h k = absurd (true≢false (sym k))
limit_trans Sell Sell Sell a b c h k = grind (arith, nat_tests)

pub order_never_both : (a b : Order) → order_ahead a b ≡ true → order_ahead b a ≡ false
order_never_both a b h = limit_never_both a.side b.side a.limit b.limit h

pub order_trans : (a b c : Order) → order_ahead a b ≡ true → order_ahead b c ≡ true → order_ahead a c ≡ true
order_trans a b c h k = limit_trans a.side b.side c.side a.limit b.limit c.limit h k

trigger_never_both : (s t : Side) (a b : ℕ) → trigger_ahead s t a b ≡ true → trigger_ahead t s b a ≡ false
trigger_never_both Buy Buy a b h = grind (arith, nat_tests)
trigger_never_both Buy Sell a b h = refl
trigger_never_both Sell Buy a b h = absurd (true≢false (sym h))
trigger_never_both Sell Sell a b h = grind (arith, nat_tests)

trigger_trans : (s t u : Side) (a b c : ℕ) → trigger_ahead s t a b ≡ true → trigger_ahead t u b c ≡ true → trigger_ahead s u a c ≡ true
trigger_trans Buy Buy Buy a b c h k = grind (arith, nat_tests)
trigger_trans Buy Buy Sell a b c h k = refl
trigger_trans Buy Sell Buy a b c h k = absurd (true≢false (sym k))
trigger_trans Buy Sell Sell a b c h k = refl
trigger_trans Sell Buy u a b c h k = absurd (true≢false (sym h))
trigger_trans Sell Sell Buy a b c h k = absurd (true≢false (sym k))
trigger_trans Sell Sell Sell a b c h k = grind (arith, nat_tests)

pub stop_never_both : (a b : StopOrder) → stop_ahead a b ≡ true → stop_ahead b a ≡ false
stop_never_both a b h = trigger_never_both a.side b.side a.trigger b.trigger h

pub stop_trans : (a b c : StopOrder) → stop_ahead a b ≡ true → stop_ahead b c ≡ true → stop_ahead a c ≡ true
stop_trans a b c h k = trigger_trans a.side b.side c.side a.trigger b.trigger c.trigger h k

-- ---- what holds of every record

pub all_joined : {R : Type 0} (P : R → Type 0) (ahead : R → R → Bool) (r : R) (xs : List R) → P r → AllByRecursion P xs → AllByRecursion P (joined ahead r xs)
unfolding joined
all_joined P ahead r [] h a = (h, tt)
all_joined P ahead r (x ∷ xs) h a = cond_both (ahead r x) _ _ (AllByRecursion P) (λ _. (h, a)) (λ _. (a.0, all_joined P ahead r xs h a.1))

pub all_without : {R : Type 0} (P : R → Type 0) (p : R → Bool) (xs : List R) → AllByRecursion P xs → AllByRecursion P (without_first p xs)
unfolding without_first
all_without P p [] a = tt
all_without P p (x ∷ xs) a = cond_both (p x) _ _ (AllByRecursion P) (λ _. a.1) (λ _. (a.0, all_without P p xs a.1))

pub all_first : {R : Type 0} (P : R → Type 0) (p : R → Bool) (xs : List R) (x : R) → first_that p xs ≡ Some x → AllByRecursion P xs → P x
unfolding first_that
all_first P p [] x e a = absurd (let z : ◌≡◌ {A = ℕ} 0 1 = cc in omega arith)
all_first P p (y ∷ xs) x e a = (elim (p y) as (λ v. cond v (Some y) (first_that p xs) ≡ Some x → P x) [
  | true ↦ λ e. (let j : y ≡ x = cc in subst P j a.0)
  | false ↦ λ e. all_first P p xs x e a.1
]) e

-- ---- order

-- none is ahead of one that stands before it
abbrev pub Sorted : {R : Type 0} → (R → R → Bool) → List R → Type 0
Sorted ahead [] = Unit {0}
Sorted ahead (x ∷ xs) = AllByRecursion (λ y. ahead y x ≡ false) xs × Sorted ahead xs

-- so none is ahead of its neighbour
pub sorted_in_order : {R : Type 0} (ahead : R → R → Bool) (xs : List R) → Sorted ahead xs → in_order ahead xs ≡ true
sorted_in_order ahead [] s = refl
sorted_in_order ahead (x ∷ []) s = refl
sorted_in_order ahead (x ∷ (y ∷ ys)) s = and_from (not (ahead y x)) (in_order ahead (y ∷ ys)) (ap not s.0.0) (sorted_in_order ahead (y ∷ ys) s.1)

pub sorted_without : {R : Type 0} (ahead : R → R → Bool) (p : R → Bool) (xs : List R) → Sorted ahead xs → Sorted ahead (without_first p xs)
unfolding without_first
sorted_without ahead p [] s = tt
sorted_without ahead p (x ∷ xs) s = cond_both (p x) _ _ (Sorted ahead) (λ _. s.1) (λ _. (all_without (λ y. ahead y x ≡ false) p xs s.0, sorted_without ahead p xs s.1))

module _ {R : Type 0} (ahead : R → R → Bool)
    (never_both : (a b : R) → ahead a b ≡ true → ahead b a ≡ false)
    (trans : (a b c : R) → ahead a b ≡ true → ahead b c ≡ true → ahead a c ≡ true) where
  -- behind one that r is ahead of, none is ahead of r
  behind : (r x z : R) → ahead r x ≡ true → ahead z x ≡ false → ahead z r ≡ false
  behind r x z h k = elim (cases_Bool (ahead z r)) [ inl e ↦ absurd (both_ways (ahead z x) k (trans z r x e h)) | inr e ↦ e ]

  pub sorted_joined : (r : R) (xs : List R) → Sorted ahead xs → Sorted ahead (joined ahead r xs)
  unfolding joined
  sorted_joined r [] s = (tt, tt)
  sorted_joined r (x ∷ xs) s =
      cond_both (ahead r x) _ _ (Sorted ahead)
      (λ h. ((never_both r x h, All-weaker (λ z. ahead z x ≡ false) (λ z. ahead z r ≡ false) (λ z k. behind r x z h k) xs s.0), s))
      (λ h. (all_joined (λ z. ahead z x ≡ false) ahead r xs h s.0, sorted_joined r xs s.1))
