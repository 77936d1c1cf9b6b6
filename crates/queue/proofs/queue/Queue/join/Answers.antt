use Rattle.std.proofs.Common.{◌≡◌, true, sym, refl, ap, ◌∙◌, subst, arith, length-set}
use Rattle.std.specs.List.{insert}
use Rattle.trading.specs.Queues.{in_order}
use Rattle.queue.specs.Places.{first_place}
use Rattle.queue.specs.Lent.{listed}
use Rattle.queue.proofs.Shifts.{moved_back, joined_is}
use Rattle.queue.proofs.Ordered.{in_order_joined}
use Rattle.queue.proofs.queue.Queue.join.Goals as goal

pub returns : goal.returns
returns g c =
    let ahead = g.R.Ranked.ahead in
    let r = c.args.r in
    let was = c.args.self.now in
    let i = c.place_of-at.result in
    let moved = moved_back was.records.now c.copy_within.new.self was.count i r (omega arith) (omega arith) c.copy_within.ensures.after in
    let place = c.place_of-at.ensures.place ∙ ap (first_place (ahead r)) c.as_slice.ensures.queue in
    let queue = moved.0 ∙ ap (λ k. insert (listed was) k r) place ∙ sym (joined_is ahead r (listed was)) in
    record {
      queue = queue;
      order = λ o. subst (λ xs. in_order ahead xs ≡ true) (sym queue) (in_order_joined ahead g.met.R.Ranked.never_both r (listed was) o);
      count = refl;
      beyond = moved.1;
      kept = record { room = length-set c.copy_within.new.self i r ∙ c.copy_within.ensures.len; lender = refl };
    }
