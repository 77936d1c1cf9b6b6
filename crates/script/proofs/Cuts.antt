-- How the first word of a line is cut off.
use Rattle.std.proofs.Common.{◌≡◌, ℕ, ◌+◌, ◌<◌, Bool, true, false, cond, not, List, [], ◌∷◌, length, take, drop, sym, refl, ap, ◌∙◌, ⊎_elim, one-add, arith}
use Rattle.std.specs.List.{prefix_len}
use Rattle.std.proofs.lemmas.Bool.{cases_Bool}
use Rattle.std.proofs.lemmas.List.Sums.{prefix_len-le-length}
use Rattle.script.specs.Words.{is_gap, at_gap, words_of}

abbrev in_word : ℕ → Bool
in_word b = not (is_gap b)

skip : (l : List ℕ) → words_of (drop (prefix_len is_gap l) l) ≡ words_of l
unfolding words_of
skip [] = refl
skip (b ∷ bs) =
    ⊎_elim
    (λ e. rw one-add (rw e (skip bs)))
    (λ e. ap (λ t. words_of (drop (cond t (1 + prefix_len is_gap bs) 0) (b ∷ bs))) e)
    (cases_Bool (is_gap b))

stops : (l : List ℕ) → 0 < length (drop (prefix_len is_gap l) l) → at_gap (drop (prefix_len is_gap l) l) ≡ false
stops [] h = absurd (omega arith)
stops (b ∷ bs) h =
    ⊎_elim
    (λ e. rw one-add (rw e (stops bs (rw e at (rw one-add at h)))))
    (λ e. rw e e)
    (cases_Bool (is_gap b))

none_leads : (l : List ℕ) → at_gap l ≡ true → prefix_len in_word l ≡ 0
none_leads [] e = refl
none_leads (b ∷ bs) e = rw e

some_lead : (l : List ℕ) → at_gap l ≡ false → 0 < prefix_len in_word l
some_lead [] e = cc
some_lead (b ∷ bs) e = rw e (omega arith)

cut : (l : List ℕ) → at_gap l ≡ false → words_of l ≡ take (prefix_len in_word l) l ∷ words_of (drop (prefix_len in_word l) l)
unfolding words_of
cut [] e = cc
cut (b ∷ bs) e =
    ⊎_elim
    (λ g. rw (e, none_leads bs g, g))
    (λ g. rw (e, one-add) (rw g (rw (cut bs g))))
    (cases_Bool (at_gap bs))

no_bytes : (l : List ℕ) → length l ≡ 0 → l ≡ []
no_bytes [] h = refl
no_bytes (b ∷ bs) h = absurd (omega arith)

no_words : words_of [] ≡ []
unfolding words_of
no_words = refl

-- what is left after the gap in front: n bytes of gap, then t
module _ (l t : List ℕ) (n : ℕ) (e : n ≡ prefix_len is_gap l) (f : t ≡ drop n l) where
  skipped : words_of t ≡ words_of l
  skipped = rw (f, e) (skip l)

  pub none_here : length t ≡ 0 → words_of l ≡ []
  none_here h = sym skipped ∙ ap words_of (no_bytes t h) ∙ no_words

  at_word : 0 < length t → at_gap t ≡ false
  at_word h = rw (f, e) (stops l (rw (f, e) at h))

  pub long : 0 < length t → (k : ℕ) → k ≡ prefix_len in_word t → 0 < k
  long h k g = rw g (some_lead t (at_word h))

  pub first : 0 < length t → (k : ℕ) → k ≡ prefix_len in_word t → (w u : List ℕ) → w ≡ take k t → u ≡ drop k t → words_of l ≡ w ∷ words_of u
  first h k g w u p q = sym skipped ∙ rw (p, q, g) (cut t (at_word h))

-- what cutting off a word takes
pub ruleset cutting = (prefix_len-le-length, none_here, first)
