-- Which rows and end prices make no tick table, and the fault that is told: the first that holds, in the order written here.
use Rattle.std.specs.Prelude.{ℕ, ◌+◌, ◌-◌, cond, not, List, [], ◌∷◌, length, Some, None, Option, ◌==◌, nat_le, nat_lt}
use Rattle.grid.specs.Prices.{is_price}
use Rattle.ticks.specs.Rows.{start_at}
use Rattle.ticks.specs.declared.row.TickRow.{TickRow}
use Rattle.ticks.specs.declared.setup.TableFault.{TableFault}
use Rattle.ticks.specs.declared.setup.TableFault.TheVariants.{NoRows, TooManyRows, StartNotPrice, RowZeroStep, StartNotRising, EndNotPrice, EndBelowLastStart}

-- why rows, the first of which is row i and has to start above `before`, make no tick table
unfoldable pub row_fault : ℕ → ℕ → List TickRow → Option TableFault
row_fault i before [] = None
row_fault i before (r ∷ rs) =
    cond (not (is_price r.start)) (Some (StartNotPrice i))
    (cond (r.step == 0) (Some (RowZeroStep i))
    (cond (nat_le r.start before) (Some (StartNotRising i))
    (row_fault (i + 1) r.start rs)))

-- why an end price does not end rows
abbrev pub end_fault : List TickRow → ℕ → Option TableFault
end_fault rows end =
    cond (not (is_price end)) (Some EndNotPrice)
    (cond (nat_lt end (start_at rows (length rows - 1))) (Some EndBelowLastStart)
    None)

abbrev pub or_else : Option TableFault → Option TableFault → Option TableFault
or_else None other = other
or_else (Some f) other = Some f

-- why rows and an end price make no tick table
abbrev pub table_fault : List TickRow → ℕ → Option TableFault
table_fault rows end =
    cond (length rows == 0) (Some NoRows)
    (cond (nat_lt 32 (length rows)) (Some TooManyRows)
    (or_else (row_fault 0 0 rows) (end_fault rows end)))
