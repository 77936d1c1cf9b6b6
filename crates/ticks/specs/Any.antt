-- One of the three grids: what is lawful on it.
use Rattle.std.specs.Prelude.{ℕ, Bool}
use Rattle.grid.specs.Steps.{on_steps}
use Rattle.ticks.specs.Rows.{on_rows}
use Rattle.grid.specs.Decades.{on_decades}
use Rattle.ticks.specs.declared.any.AnyGrid.{AnyGrid}
use Rattle.ticks.specs.declared.any.AnyGrid.TheVariants.{Even, Table, Decade}

abbrev pub on_any : AnyGrid → ℕ → Bool
on_any (Even g) = on_steps g.first g.step g.last
on_any (Table t) = on_rows t.rows t.count t.end
on_any (Decade g) = on_decades
