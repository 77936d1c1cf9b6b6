use Rattle.std.proofs.Common.{inl, inr, arith, rules}
use Rattle.pricing.specs.Calls.{auction_of}
use Rattle.pricing.proofs.Limits.{one_tried, one_skipped}
use Rattle.pricing.proofs.auction.CallAuction.try_limits.Goals as goal

pub loop-order-preserved : goal.loop-order-preserved
loop-order-preserved g c =
    let lawful = g.G.PriceGrid.lawful c.args.grid.now in
    let a = auction_of c.args.self.now in
    let i = c.loop-order.order-index in
    let os = c.args.orders.now in
    let best = c.args.best in
    let winner = c.loop-order.winner in
    let tried = c.loop-order.tried in (
      omega arith,
      elim c.if-order-ne0.branch [
        | goal.then-order-ne0+then-ne w ↦
            rw w.winner-is (one_tried lawful a best winner tried os i c.loop-order-test.true c.loop-order.invariant.1
            w.try_around-winner.result c.if-order-ne0.tried w.tried-is w.try_around-winner.ensures)
        | goal.else-order-ne0 w ↦ rw (w.winner-is, w.tried-is) (one_skipped lawful a best winner tried os i c.loop-order-test.true c.loop-order.invariant.1 (elim w.else-order-ne0.branch [
          | goal.else-order-ne0-via-then-order-ne0+else-ne v ↦ inr (search rules)
          | goal.else-order-ne0-via-else-order-ne0 v ↦ inl v.if-order-ne0.false
        ]))
      ],
    )
