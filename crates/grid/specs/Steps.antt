-- An even grid: its first price, then every step, up to its last price.
use Rattle.std.specs.Prelude.{ℕ, ◌-◌, ◌%◌, Bool, ◌&&◌, ◌==◌, nat_le}

-- p is the first price or a whole number of steps above it, and not above the last
abbrev pub on_steps : ℕ → ℕ → ℕ → ℕ → Bool
on_steps first step last p = nat_le first p && nat_le p last && (p - first) % step == 0
