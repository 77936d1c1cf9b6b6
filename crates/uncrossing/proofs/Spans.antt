-- Parts of tables.
use Rattle.std.proofs.Common.{◌≡◌, ℕ, suc, ◌+◌, ◌-◌, ◌<◌, ◌≤◌, List, [], ◌∷◌, length, get_or, take, set, ap, ◌∙◌, arith}
use Rattle.std.proofs.lemmas.List.{drop_more, drop-set, drop-set-lt}
use Rattle.uncrossing.specs.Spans.{span}

module _ {X : Type 0} where
  take_one : (k m : ℕ) (x : X) (xs : List X) → k ≡ suc m → take k (x ∷ xs) ≡ x ∷ take m xs
  take_one k m x xs e = ap (λ j. take j (x ∷ xs)) e

  pub span_cons : (xs : List X) (i n : ℕ) (d : X) → i < n → n ≤ length xs → span i n xs ≡ get_or xs i d ∷ span (i + 1) n xs
  span_cons xs i n d lt le = ap (take (n - i)) (drop_more xs i d (omega arith)) ∙ take_one (n - i) (n - (i + 1)) _ _ (omega arith)

  pub span_set : (xs : List X) (i n : ℕ) (y : X) → i < n → n ≤ length xs → span i n (set xs i y) ≡ y ∷ span (i + 1) n xs
  span_set xs i n y lt le = ap (take (n - i)) (drop-set xs i y (omega arith)) ∙ take_one (n - i) (n - (i + 1)) _ _ (omega arith)

  -- what was set before the span does not show
  pub span_set_before : (xs : List X) (k i n : ℕ) (y : X) → k < i → span i n (set xs k y) ≡ span i n xs
  span_set_before xs k i n y lt = ap (take (n - i)) (drop-set-lt i xs k y lt)

  pub span_none : (xs : List X) (i n : ℕ) → n ≤ i → span i n xs ≡ []
  span_none xs i n h = let e : n - i ≡ 0 = omega arith in rw e
