-- One turn of reading a number: the digits of w from index i on, after digits that say n, read as r.
use Rattle.std.proofs.Common.{◌≡◌, ℕ, ◌+◌, ◌-◌, ◌*◌, ◌^◌, ◌<◌, ◌≤◌, true, false, List, [], ◌∷◌, length, get_or, drop, Some, None, Option, sym, ◌∙◌, ⊎_elim, arith}
use Rattle.std.proofs.lemmas.List.{drop_more, drop_all}
use Rattle.std.proofs.lemmas.Bool.{cases_Bool, lt-ltb, le-ltb}
use Rattle.script.specs.Numbers.{is_digit, digits_after, within32}

-- digits past the largest number stay past it
past : (n : ℕ) (bs : List ℕ) → 2 ^ 32 ≤ n → within32 (digits_after n bs) ≡ None
unfolding digits_after
past n [] h = rw (le-ltb n (2 ^ 32) h)
past n (b ∷ bs) h = ⊎_elim (λ e. rw e (past (n * 10 + (b - 48)) bs (omega arith))) (λ e. rw e) (cases_Bool (is_digit b))

module _ (w : List ℕ) (i n : ℕ) (r : Option ℕ) (e : within32 (digits_after n (drop i w)) ≡ r) where
  pub no_digit : i < length w → is_digit (get_or w i 0) ≡ false → None ≡ r
  unfolding digits_after
  no_digit h t = rw (drop_more w i 0 h, t) at e

  pub digit : (m : ℕ) → i < length w → is_digit (get_or w i 0) ≡ true → m ≡ n * 10 + (get_or w i 0 - 48) → within32 (digits_after m (drop (i + 1) w)) ≡ r
  unfolding digits_after
  digit m h t s = rw s (rw (drop_more w i 0 h, t) at e)

  pub too_large : (m : ℕ) → i < length w → is_digit (get_or w i 0) ≡ true → m ≡ n * 10 + (get_or w i 0 - 48) → 2 ^ 32 ≤ m → None ≡ r
  too_large m h t s large = sym (past m (drop (i + 1) w) large) ∙ digit m h t s

  pub all_read : length w ≤ i → n < 2 ^ 32 → Some n ≡ r
  unfolding digits_after
  all_read h small = rw (drop_all i w h, lt-ltb n (2 ^ 32) small) at e

-- what reading a number takes
pub ruleset reading = (no_digit, digit, too_large, all_read)
