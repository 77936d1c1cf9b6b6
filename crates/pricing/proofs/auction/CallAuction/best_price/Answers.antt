use Rattle.pricing.specs.Calls.{auction_of}
use Rattle.pricing.proofs.Limits.{searched}
use Rattle.pricing.proofs.auction.CallAuction.best_price.Goals as goal

pub returns : goal.returns
returns g c =
    searched (g.G.PriceGrid.lawful c.args.grid.now) (auction_of c.args.self.now)
    (g.met.G.PriceGrid.priced c.args.grid.now)
    c.try_around-from_last.result c.try_limits-from_buys.result c.try_limits.result
    c.try_around-from_last.ensures c.try_limits-from_buys.ensures c.try_limits.ensures
