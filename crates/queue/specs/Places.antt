-- Places in a queue.
use Rattle.std.specs.Prelude.{◌≡◌, ℕ, ◌<◌, Bool, not, List, length, Some, None, Option, MatchOption, slice_index_or, slice_set}
use Rattle.std.specs.List.{prefix_len, remove}
use Rattle.trading.specs.Queues.{first_that, without_first, first_changed}

-- where the first record that passes stands; if none does, the end
abbrev pub first_place : {R : Type 0} → (R → Bool) → List R → ℕ
first_place passes xs = prefix_len (λ x. not (passes x)) xs

-- the first record that passes stands at i
pub record FirstAt {R : Type 0} (passes : R → Bool) (xs : List R) (i : ℕ) : Type 0 where
  pub within : i < length xs
  pub found : (d : R) → first_that passes xs ≡ Some (slice_index_or xs i d)
  pub without : without_first passes xs ≡ remove xs i
  pub changed : (change : R → R) (d : R) → first_changed passes change xs ≡ slice_set xs i (change (slice_index_or xs i d))

-- where the first record that passes stands, if one does
abbrev pub FirstFound : {R : Type 0} → (R → Bool) → List R → Option ℕ → Type 0
FirstFound passes xs r = MatchOption r (first_that passes xs ≡ None) (λ i. FirstAt passes xs i)
