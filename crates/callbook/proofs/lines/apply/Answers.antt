use Rattle.std.proofs.Common.{length, refl}
use Rattle.grid.specs.Steps.{on_steps}
use Rattle.grid.specs.Decades.{on_decades}
use Rattle.ticks.specs.Rows.{on_rows}
use Rattle.ticks.specs.declared.any.AnyGrid.TheVariants.{Even, Table, Decade}
use Rattle.callbook.proofs.Naming.{named_grid}
use Rattle.callbook.proofs.lines.apply.Goals as goal

pub returns-in_ok-set_grid-in-GridEven : goal.returns-in_ok-set_grid-in-GridEven
returns-in_ok-set_grid-in-GridEven c =
    let made = c.in_ok-new-in-GridEven.ensures in
    rw (c.in-GridEven.is, made.0)
    (named_grid (on_steps c.in-GridEven.first c.in-GridEven.step c.in-GridEven.last) c.args.book.now c.set_grid.new.self
    (Even c.in_ok-new-in-GridEven.field-0) (λ p. rw (made.1, made.2, made.3)) c.in_ok-set_grid-in-GridEven.ensures)

pub returns-in_ok-set_grid-in-GridTable : goal.returns-in_ok-set_grid-in-GridTable
returns-in_ok-set_grid-in-GridTable c =
    let rows = c.in-GridTable.rows.items in
    let made = rw c.deref.ensures.value at c.in_ok-new-in-GridTable.ensures in
    rw (c.in-GridTable.is, made.0)
    (named_grid (on_rows rows (length rows) c.in-GridTable.end) c.args.book.now c.set_grid-in-GridTable.new.self
    (Table c.in_ok-new-in-GridTable.field-0) made.1 c.in_ok-set_grid-in-GridTable.ensures)

pub returns-in_ok-set_grid-in-GridDecade : goal.returns-in_ok-set_grid-in-GridDecade
returns-in_ok-set_grid-in-GridDecade c =
    rw c.in-GridDecade.is
    (named_grid on_decades c.args.book.now c.set_grid-in-GridDecade.new.self
    (Decade (record {})) (λ p. refl) c.in_ok-set_grid-in-GridDecade.ensures)

pub returns-in_ok-collar_of-in-Collar : goal.returns-in_ok-collar_of-in-Collar
returns-in_ok-collar_of-in-Collar c =
    let made = c.in_ok-collar_of-in-Collar.ensures in
    rw (c.in-Collar.is, made.fits) (refl, (c.in_ok-collar_of-in-Collar.field-0, made.allows, c.set_collar.ensures))
