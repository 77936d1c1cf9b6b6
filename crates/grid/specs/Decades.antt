-- The decade grid: the more digits a price has, the wider its step.
use Rattle.std.specs.Prelude.{ℕ, ◌-◌, ◌%◌, Bool, cond, ◌&&◌, [], ◌∷◌, ◌==◌, nat_lt, slice_index}
use Rattle.grid.specs.Prices.{is_price}

-- with how many digits a price is written
abbrev pub digits_of : ℕ → ℕ
digits_of p =
    cond (nat_lt p 10) 1 (cond (nat_lt p 100) 2 (cond (nat_lt p 1000) 3 (cond (nat_lt p 10000) 4
    (cond (nat_lt p 100000) 5 (cond (nat_lt p 1000000) 6 (cond (nat_lt p 10000000) 7 8))))))

-- the step of a price of d digits: 1 up to four digits, then 10, 100, 1,000 and 10,000
abbrev pub step_of : ℕ → ℕ
step_of d = slice_index (1 ∷ 1 ∷ 1 ∷ 1 ∷ 10 ∷ 100 ∷ 1000 ∷ 10000 ∷ []) (d - 1)

-- a lawful price is a multiple of the step that its digits have
abbrev pub on_decades : ℕ → Bool
on_decades p = is_price p && p % step_of (digits_of p) == 0
