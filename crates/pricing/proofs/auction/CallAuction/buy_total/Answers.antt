use Rattle.std.proofs.Common.{rules}
use Rattle.rules.specs.Auctions.{bought_at, buy_total}
use Rattle.pricing.proofs.auction.CallAuction.buy_total.Goals as goal

pub returns : goal.returns
unfolding buy_total
returns c = c.open_total.ensures (bought_at c.args.price) (λ o n k. search rules)
