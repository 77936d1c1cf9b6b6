-- A tick table: rows, each with a start and a step of its own, and the end price of the last row.
use Rattle.std.specs.Prelude.{ℕ, zero, suc, ◌+◌, ◌-◌, ◌<◌, ◌≤◌, Bool, false, cond, ◌||◌, List, nat_lt, slice_index_or}
use Rattle.grid.specs.Steps.{on_steps}
use Rattle.ticks.specs.declared.row.TickRow.{TickRow}

abbrev pub row_at : List TickRow → ℕ → TickRow
row_at rows i = slice_index_or rows i (record { start = 0; step = 0 })

abbrev pub start_at : List TickRow → ℕ → ℕ
start_at rows i = (row_at rows i).start

abbrev pub step_at : List TickRow → ℕ → ℕ
step_at rows i = (row_at rows i).step

-- the highest price that row i of n may have: the one below the next start, in the last row the end price
abbrev pub last_at : List TickRow → ℕ → ℕ → ℕ → ℕ
last_at rows n end i = cond (nat_lt (i + 1) n) (start_at rows (i + 1) - 1) end

-- the prices of row i: from its start up by its step
abbrev pub in_row : List TickRow → ℕ → ℕ → ℕ → ℕ → Bool
in_row rows n end i = on_steps (start_at rows i) (step_at rows i) (last_at rows n end i)

-- f holds of some number below n
unfoldable pub some_below : ℕ → (ℕ → Bool) → Bool
some_below zero f = false
some_below (suc n) f = f n || some_below n f

-- p is lawful in one of the first n rows
abbrev pub on_rows : List TickRow → ℕ → ℕ → ℕ → Bool
on_rows rows n end p = some_below n (λ i. in_row rows n end i p)

-- each of the first n rows starts below the next
abbrev pub Rising : List TickRow → ℕ → Type 0
Rising rows n = (i : ℕ) → i + 1 < n → start_at rows i < start_at rows (i + 1)

-- each of the first n rows has a step of at least 1
abbrev pub Stepped : List TickRow → ℕ → Type 0
Stepped rows n = (i : ℕ) → i < n → 1 ≤ step_at rows i
