use Rattle.std.proofs.Common.{◌≡◌, drop}
use Rattle.ticks.specs.Setup.{row_fault}
use Rattle.ticks.proofs.table.check_rows.Given as goal

-- the rows that are left have the fault that all of them have
abbrev pub invariant-loop-i : goal.invariant-loop-i
invariant-loop-i l = row_fault l.i l.before (drop l.i l.rows) ≡ row_fault 0 0 l.rows
