use Rattle.std.proofs.Common.{length, sym}
use Rattle.ticks.proofs.Accepted.{whole, placed}
use Rattle.ticks.specs.Ladder.{same_rows, ended}
use Rattle.ticks.proofs.table.TickTable.new.Goals as goal

pub invariant_of-result : goal.invariant_of-result
invariant_of-result c =
    let rows = c.args.rows.now in
    let w = whole rows c.args.end (sym c.in_ok-validate.ensures) in
    let p = placed rows c.placed.result c.args.end w c.placed.ensures in
    record { some = w.some; few = w.few; rising = p.rising; stepped = p.stepped; low = p.low; closed = p.closed; high = w.high }

pub returns : goal.returns
returns c =
    let rows = c.args.rows.now in
    let w = whole rows c.args.end (sym c.in_ok-validate.ensures) in
    let p = placed rows c.placed.result c.args.end w c.placed.ensures in (
      sym c.in_ok-validate.ensures,
      λ x. same_rows c.placed.result rows (length rows) c.args.end x c.placed.ensures,
      λ x. ended c.placed.result (length rows) c.args.end x p.rising p.closed,
    )
