use Rattle.std.proofs.Common.{rules}
use Rattle.rules.specs.Auctions.{sold_at, sell_total}
use Rattle.pricing.proofs.auction.CallAuction.sell_total.Goals as goal

pub returns : goal.returns
unfolding sell_total
returns c = c.open_total.ensures (sold_at c.args.price) (λ o n k. search rules)
