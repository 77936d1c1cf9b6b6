-- Sums over queues.
use Rattle.std.proofs.Common.{◌≡◌, ℕ, ◌+◌, Bool, true, false, cond, not, eqb, List, [], ◌∷◌, ◌++◌, Some, filter, refl, ap, arith}
use Rattle.std.specs.List.{AllByRecursion}
use Rattle.std.proofs.lemmas.Bool.{cond_both}
use Rattle.rules.specs.Auctions.{total}
use Rattle.trading.specs.Queues.{joined, first_that, without_first, first_changed}
use Rattle.sessions.specs.Accounts.{of_number}

pub of_sum : (k n a b c : ℕ) → a + b ≡ c → of_number k n a + of_number k n b ≡ of_number k n c
of_sum k n a b c e = elim (eqb n k) as (λ v. cond v a 0 + cond v b 0 ≡ cond v c 0) [ true ↦ e | false ↦ refl ]

pub of_zero : (k n : ℕ) → of_number k n 0 ≡ 0
of_zero k n = elim (eqb n k) as (λ v. ◌≡◌ {A = ℕ} (cond v 0 0) 0) [ true ↦ refl | false ↦ refl ]

module _ {R : Type 0} (f : R → ℕ) where
  pub total_append : (xs ys : List R) → total f (xs ++ ys) ≡ total f xs + total f ys
  total_append [] ys = omega arith
  total_append (x ∷ xs) ys = omega (arith, total_append xs ys)

  pub total_joined : (ahead : R → R → Bool) (r : R) (xs : List R) → total f (joined ahead r xs) ≡ f r + total f xs
  unfolding joined
  total_joined ahead r [] = refl
  total_joined ahead r (x ∷ xs) = cond_both (ahead r x) _ _ (λ ys. total f ys ≡ f r + (f x + total f xs)) (λ _. refl) (λ _. omega (arith, total_joined ahead r xs))

  pub total_left : (p : R → Bool) (xs : List R) (x : R) → first_that p xs ≡ Some x → total f (without_first p xs) + f x ≡ total f xs
  unfolding first_that without_first
  total_left p [] x e = absurd (let z : ◌≡◌ {A = ℕ} 0 1 = cc in omega arith)
  total_left p (y ∷ xs) x e = (elim (p y) as (λ v. cond v (Some y) (first_that p xs) ≡ Some x → total f (cond v xs (y ∷ without_first p xs)) + f x ≡ f y + total f xs) [
    | true ↦ λ e. (let i : y ≡ x = cc in omega (arith, ap f i))
    | false ↦ λ e. omega (arith, total_left p xs x e)
  ]) e

  pub total_changed : (p : R → Bool) (g : R → R) (xs : List R) (x : R) → first_that p xs ≡ Some x → total f (first_changed p g xs) + f x ≡ total f xs + f (g x)
  unfolding first_that first_changed
  total_changed p g [] x e = absurd (let z : ◌≡◌ {A = ℕ} 0 1 = cc in omega arith)
  total_changed p g (y ∷ xs) x e = (elim (p y) as (λ v. cond v (Some y) (first_that p xs) ≡ Some x → total f (cond v (g y ∷ xs) (y ∷ first_changed p g xs)) + f x ≡ (f y + total f xs) + f (g x)) [
    | true ↦ λ e. (let i : y ≡ x = cc in omega (arith, ap f i, ap (λ z. f (g z)) i))
    | false ↦ λ e. omega (arith, total_changed p g xs x e)
  ]) e

  pub total_kept : (p q : R → Bool) → ((x : R) → q x ≡ not (p x)) → (xs : List R) → total f (filter p xs) + total f (filter q xs) ≡ total f xs
  total_kept p q h [] = refl
  total_kept p q h (x ∷ xs) = rw (h x) (elim (p x) as (λ v. total f (cond v (x ∷ filter p xs) (filter p xs)) + total f (cond (not v) (x ∷ filter q xs) (filter q xs)) ≡ f x + total f xs) [
    | true ↦ omega (arith, total_kept p q h xs)
    | false ↦ omega (arith, total_kept p q h xs)
  ])

  -- records that fail a test count for nothing, and so do all of them
  pub total_zero : (p : R → Bool) → ((x : R) → p x ≡ false → f x ≡ 0) → (xs : List R) → AllByRecursion (λ x. p x ≡ false) xs → total f xs ≡ 0
  total_zero p h [] a = refl
  total_zero p h (x ∷ xs) a = omega (arith, h x a.0, total_zero p h xs a.1)
