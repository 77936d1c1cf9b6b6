-- The words of a line: its longest runs of bytes other than space, tab and carriage return.
use Rattle.std.specs.Prelude.{◌≡◌, ℕ, ◌+◌, Bool, true, cond, ◌||◌, List, [], ◌∷◌, Some, None, Option, ◌==◌}
use Rattle.std.specs.Borrow.{Bor}

-- a byte that parts words
unfoldable pub is_gap : ℕ → Bool
is_gap b = b == 32 || b == 9 || b == 13

-- no word goes on here
abbrev pub at_gap : List ℕ → Bool
at_gap [] = true
at_gap (b ∷ bs) = is_gap b

-- b in front of the first word
abbrev pub longer : ℕ → List (List ℕ) → List (List ℕ)
longer b [] = (b ∷ []) ∷ []
longer b (w ∷ ws) = (b ∷ w) ∷ ws

unfoldable pub words_of : List ℕ → List (List ℕ)
words_of [] = []
words_of (b ∷ bs) = cond (is_gap b) (words_of bs) (cond (at_gap bs) ((b ∷ []) ∷ words_of bs) (longer b (words_of bs)))

-- what is left to read of a line: how many words were read before, and the words that follow
pub record Left : Type 0 where
  pub read : ℕ
  pub words : List (List ℕ)

-- the next word r was read, if there was one, and m is left
abbrev pub Next : Left → Option (Bor (List ℕ)) → Left → Type 0
Next l None m = (l.words ≡ []) × (m.read ≡ l.read)
Next l (Some w) m = (l.words ≡ w.now ∷ m.words) × (m.read ≡ l.read + 1)
