use Rattle.std.proofs.Common.{◌≡◌, true, sym, refl, subst, arith}
use Rattle.trading.specs.Queues.{in_order}
use Rattle.queue.specs.Lent.{listed}
use Rattle.queue.proofs.Shifts.{moved_up}
use Rattle.queue.proofs.Ordered.{in_order_removed}
use Rattle.queue.proofs.queue.Queue.leave.Goals as goal

pub returns : goal.returns
returns g c =
    let ahead = g.R.Ranked.ahead in
    let laws = g.met.R.Ranked in
    let was = c.args.self.now in
    let moved = moved_up was.records.now c.copy_within.new.self was.count c.args.i (omega arith) (omega arith) c.copy_within.ensures.after in
    record {
      queue = moved.0;
      order = λ o. subst (λ xs. in_order ahead xs ≡ true) (sym moved.0) (in_order_removed ahead laws.never_both laws.transitive laws.level (listed was) c.args.i o);
      count = omega arith;
      beyond = moved.1;
      kept = record { room = c.copy_within.ensures.len; lender = refl };
    }
