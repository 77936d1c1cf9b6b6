-- A queue in order stays in order when a record joins or leaves.
use Rattle.std.proofs.Common.{◌≡◌, ℕ, zero, suc, Bool, true, false, not, List, [], ◌∷◌, refl, ap, arith}
use Rattle.std.specs.List.{remove}
use Rattle.trading.specs.Queues.{joined, not_ahead, in_order}

module _ {R : Type 0} (ahead : R → R → Bool) (never_both : (a b : R) → ahead a b ≡ true → ahead b a ≡ false) where
  -- behind y, which r is not ahead of, comes r or what came before
  next_joined : (y r : R) (xs : List R) → ahead r y ≡ false → not_ahead ahead y xs ≡ true → not_ahead ahead y (joined ahead r xs) ≡ true
  unfolding joined
  next_joined y r [] e n = ap not e
  next_joined y r (x ∷ xs) e n = grind arith

  pub in_order_joined : (r : R) (xs : List R) → in_order ahead xs ≡ true → in_order ahead (joined ahead r xs) ≡ true
  unfolding joined
  in_order_joined r [] o = refl
  in_order_joined r (x ∷ xs) o = grind (arith, never_both, next_joined x r xs, in_order_joined r xs)

  module _ (trans : (a b c : R) → ahead a b ≡ true → ahead b c ≡ true → ahead a c ≡ true)
      (level : (a b c : R) → ahead a b ≡ false → ahead b a ≡ false → ahead b c ≡ false → ahead c b ≡ false → (ahead a c ≡ false) × (ahead c a ≡ false)) where
    -- not being ahead is transitive
    behind : (a b c : R) → ahead b a ≡ false → ahead c b ≡ false → ahead c a ≡ false
    behind a b c ba cb = grind (arith, trans, level)

    next_removed : (x : R) (xs : List R) (i : ℕ) → not_ahead ahead x xs ≡ true → in_order ahead xs ≡ true → not_ahead ahead x (remove xs i) ≡ true
    next_removed x [] zero n o = refl
    next_removed x [] (suc i) n o = refl
    next_removed x (y ∷ []) zero n o = refl
    next_removed x (y ∷ (z ∷ zs)) zero n o = grind (arith, behind x y z)
    next_removed x (y ∷ ys) (suc i) n o = n

    pub in_order_removed : (xs : List R) (i : ℕ) → in_order ahead xs ≡ true → in_order ahead (remove xs i) ≡ true
    in_order_removed [] zero o = refl
    in_order_removed [] (suc i) o = refl
    in_order_removed (x ∷ xs) zero o = grind arith
    in_order_removed (x ∷ xs) (suc i) o = grind (arith, next_removed x xs i, in_order_removed xs i)
