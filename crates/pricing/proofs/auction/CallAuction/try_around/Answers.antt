use Rattle.pricing.specs.Calls.{auction_of}
use Rattle.pricing.proofs.Trying.{around_tried}
use Rattle.pricing.proofs.auction.CallAuction.try_around.Goals as goal

pub returns : goal.returns
returns g c =
    around_tried (g.G.PriceGrid.lawful c.args.grid.now) (auction_of c.args.self.now)
    c.args.best c.try_price-here.result c.try_price-upward.result c.try_price.result
    c.args.x c.lawful_or_none.result c.above-above.result c.below-below.result
    c.lawful_or_none.ensures c.above-above.ensures c.below-below.ensures
    c.try_price-here.ensures c.try_price-upward.ensures c.try_price.ensures c.requires
