use Rattle.std.proofs.Common.{rules}
use Rattle.lent.specs.Contents.{page}
use Rattle.sweeping.specs.declared.tables.AfterSweep.{AfterSweep}
use Rattle.sweeping.proofs.Turns.{turn, finished}
use Rattle.sweeping.proofs.tables.sweep_queue.Goals as goal

pub trades-preserved : goal.trades-preserved
trades-preserved g c =
    let l = c.trades in
    let x = c.trade_at-left in
    let met = rw c.as_slice.ensures.queue at c.in-Ok.ensures in (
      turn (g.C.Collar.allows c.args.collar.now c.args.static_price) c.args.order c.args.price c.args.queue.now l.queue x.new.queue (page c.args.report.now) (page l.report) (page x.new.report) l.rest l.last c.in-Ok.i x.result met.0 met.2 x.ensures.traded x.ensures.table l.invariant.0,
      search rules,
    )

pub returns-in-Err : goal.returns-in-Err
returns-in-Err g c =
    let l = c.trades in
    let r : AfterSweep = record { rest = l.rest; ending = c.in-Err.ending; last = l.last } in
    let stopped = rw c.as_slice.ensures.queue at c.in-Err.ensures in
    record {
      swept = finished (g.C.Collar.allows c.args.collar.now c.args.static_price) c.args.order c.args.price c.args.queue.now l.queue (page c.args.report.now) (page l.report) r c.requires c.args.queue.now.within stopped l.invariant.0;
      table = l.invariant.0.table;
      lines = l.invariant.1;
    }
