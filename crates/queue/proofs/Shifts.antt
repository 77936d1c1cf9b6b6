-- Joining and leaving as a table shows them: the records behind a place move by one.
use Rattle.std.proofs.Common.{◌≡◌, ℕ, ◌+◌, ◌-◌, ◌<◌, ◌≤◌, Bool, true, false, cond, not, List, [], ◌∷◌, length, take, drop, set, refl, ap, add-one, one-add, append_assoc, drop-set-lt, arith}
use lib.Seq.{paste, take-set-lt}
use Rattle.std.specs.List.{insert, remove, copy_within}
use Rattle.std.proofs.lemmas.List.{take-take, drop-take, take_more_set, set-append_left, length-take-le, length-drop}
use Rattle.std.proofs.lemmas.List.Edits.{take-paste, drop-paste}
use Rattle.std.proofs.lemmas.Grind.{drop_more_same}
use Rattle.trading.specs.Queues.{joined}
use Rattle.queue.specs.Places.{first_place}

module _ {R : Type 0} where
  -- m records from i on move back by one, and r takes the place at i
  back : (xs : List R) (i m : ℕ) (r : R) → i + m < length xs → take (i + 1 + m) (set (paste xs (i + 1) (drop i xs) m) i r) ≡ insert (take (i + m) xs) i r
  back xs i m r h = grind (arith, take-set-lt, take-paste xs (i + 1) (drop i xs) m, length-drop i xs, set-append_left (take (i + 1) xs) (take m (drop i xs)) i r, length-take-le (i + 1) xs, take_more_set xs i r, append_assoc (take i xs) (r ∷ []) (take m (drop i xs)), take-take i (i + m) xs, drop-take i m xs)

  -- m records behind i move up by one
  up : (xs : List R) (i m : ℕ) → i + 1 + m ≤ length xs → take (i + m) (paste xs i (drop (i + 1) xs) m) ≡ remove (take (i + 1 + m) xs) i
  up xs i m h = grind (arith, take-paste xs i (drop (i + 1) xs) m, length-drop (i + 1) xs, take-take i (i + 1 + m) xs, drop-take (i + 1) m xs, add-one i)

  -- the same in the first n records of a table, and what stands beyond stays
  pub moved_back : (xs ys : List R) (n i : ℕ) (r : R) → i ≤ n → n < length xs → ys ≡ copy_within xs i n (i + 1) → (take (n + 1) (set ys i r) ≡ insert (take n xs) i r) × (drop (n + 1) (set ys i r) ≡ drop (n + 1) xs)
  moved_back xs ys n i r le lt e =
      let m = n - i in
      (grind (arith, back xs i m r), grind (arith, drop-set-lt, length-drop i xs, drop-paste xs (i + 1) (drop i xs) m))

  pub moved_up : (xs ys : List R) (n i : ℕ) → i < n → n ≤ length xs → ys ≡ copy_within xs (i + 1) n i → (take (n - 1) ys ≡ remove (take n xs) i) × (drop n ys ≡ drop n xs)
  moved_up xs ys n i lt le e =
      let m = n - (i + 1) in
      (grind (arith, up xs i m), grind (arith, length-drop (i + 1) xs, drop-paste xs i (drop (i + 1) xs) m, drop_more_same (paste xs i (drop (i + 1) xs) m) xs (i + m)))

  -- joining is putting r before the first record that it is ahead of
  pub joined_is : (ahead : R → R → Bool) (r : R) (xs : List R) → joined ahead r xs ≡ insert xs (first_place (ahead r) xs) r
  unfolding joined
  joined_is ahead r [] = refl
  joined_is ahead r (x ∷ xs) =
      let At : Bool → Type 0 = λ b. cond b (r ∷ (x ∷ xs)) (x ∷ joined ahead r xs) ≡ insert (x ∷ xs) (cond (not b) (1 + first_place (ahead r) xs) 0) r in
      elim (ahead r x) as At [ true ↦ refl | false ↦ rw one-add (ap (λ ys. x ∷ ys) (joined_is ahead r xs)) ]
