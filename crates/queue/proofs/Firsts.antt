-- The first record that passes a test.
use Rattle.std.proofs.Common.{◌≡◌, ℕ, suc, ◌<◌, ◌≤◌, Bool, true, false, not, List, [], ◌∷◌, length, Some, None, ltb, sym, refl, ap, ◌∙◌, subst, inl, inr, one-add, arith}
use Rattle.std.specs.List.{position}
use Rattle.std.specs.Option.{unwrap_or}
use Rattle.std.proofs.lemmas.Bool.{cond-true, cond-false, cond_both, cases_Bool, not_from_true, not_from_false, ltb-true, ltb-false}
use Rattle.std.proofs.lemmas.List.Sums.{prefix_len-le-length}
use Rattle.trading.specs.Queues.{first_that, without_first, first_changed}
use Rattle.queue.specs.Places.{first_place, FirstAt, FirstFound}

module _ {R : Type 0} (passes : R → Bool) where
  -- it is in front
  first_here : (x : R) (xs : List R) → passes x ≡ true → FirstAt passes (x ∷ xs) 0
  unfolding first_that without_first first_changed
  first_here x xs e = record {
    within = omega arith;
    found = λ d. cond-true _ _ _ e;
    without = cond-true _ _ _ e;
    changed = λ change d. cond-true _ _ _ e;
  }

  -- it is further back
  first_later : (x : R) (xs : List R) (i : ℕ) → passes x ≡ false → FirstAt passes xs i → FirstAt passes (x ∷ xs) (suc i)
  unfolding first_that without_first first_changed
  first_later x xs i e at = record {
    within = omega (arith, at.within);
    found = λ d. cond-false _ _ _ e ∙ at.found d;
    without = cond-false _ _ _ e ∙ ap (λ ys. x ∷ ys) at.without;
    changed = λ change d. cond-false _ _ _ e ∙ ap (λ ys. x ∷ ys) (at.changed change d);
  }

  first_at : (xs : List R) (i : ℕ) → first_place passes xs ≡ i → i < length xs → FirstAt passes xs i
  first_at [] i e h = absurd (omega arith)
  first_at (x ∷ xs) i e h = elim (cases_Bool (passes x)) [
    | inl t ↦ subst (FirstAt passes (x ∷ xs)) (sym (cond-false _ _ _ (not_from_true _ t)) ∙ e) (first_here x xs t)
    | inr f ↦
        let up : suc (first_place passes xs) ≡ i = sym (one-add _) ∙ sym (cond-true _ _ _ (not_from_false _ f)) ∙ e in
        subst (FirstAt passes (x ∷ xs)) up (first_later x xs _ f (first_at xs _ refl (omega arith)))
  ]

  -- none passes
  first_none : (xs : List R) → length xs ≤ first_place passes xs → first_that passes xs ≡ None
  unfolding first_that
  first_none [] h = refl
  first_none (x ∷ xs) h = grind (arith, first_none xs)

  -- the library's search finds it
  pub position_first : (xs : List R) → FirstFound passes xs (position passes xs)
  position_first xs = cond_both _ _ _ (FirstFound passes xs) (λ e. first_at xs _ refl (ltb-true _ _ e)) (λ e. first_none xs (ltb-false _ _ e))

  -- or tells that it is at the end
  pub position_or_end : (xs : List R) → unwrap_or (position passes xs) (length xs) ≡ first_place passes xs
  position_or_end xs =
      let i = first_place passes xs in
      cond_both (ltb i (length xs)) (Some i) None (λ o. unwrap_or o (length xs) ≡ i) (λ e. refl) (λ e. omega (arith, prefix_len-le-length (λ x. not (passes x)) xs, ltb-false i (length xs) e))
