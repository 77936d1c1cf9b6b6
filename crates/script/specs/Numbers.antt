-- Numbers as a line says them: decimal digits, from 0 to 4,294,967,295.
use Rattle.std.specs.Prelude.{ℕ, ◌+◌, ◌-◌, ◌*◌, ◌^◌, Bool, cond, ◌&&◌, List, [], ◌∷◌, Some, None, Option, nat_le, nat_lt}

abbrev pub is_digit : ℕ → Bool
is_digit b = nat_le 48 b && nat_le b 57

-- the digits bs after digits that say n
unfoldable pub digits_after : ℕ → List ℕ → Option ℕ
digits_after n [] = Some n
digits_after n (b ∷ bs) = cond (is_digit b) (digits_after (n * 10 + (b - 48)) bs) None

abbrev pub within32 : Option ℕ → Option ℕ
within32 None = None
within32 (Some n) = cond (nat_lt n (2 ^ 32)) (Some n) None

-- the number that a word says, if it says one
abbrev pub number_of : List ℕ → Option ℕ
number_of [] = None
number_of (b ∷ bs) = within32 (digits_after 0 (b ∷ bs))
