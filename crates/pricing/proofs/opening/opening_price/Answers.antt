use Rattle.rules.specs.Auctions.{auction}
use Rattle.pricing.specs.Calls.{auction_of}
use Rattle.pricing.proofs.Deciding.{is_opening, keeps_law}
use Rattle.pricing.proofs.opening.opening_price.Goals as goal

pub returns-clause-law : goal.returns-clause-law
returns-clause-law g c =
    let lawful = g.G.PriceGrid.lawful c.args.grid.now in
    let allows = g.C.Collar.allows c.args.collar.now in
    let a = auction c.args.last c.args.buys.now c.args.sells.now in
    keeps_law lawful allows c.args.static_price a (g.met.G.PriceGrid.priced c.args.grid.now) c.decide.result
    (is_opening lawful allows c.args.static_price a (auction_of c.in_ok-auction.auction) c.best_price.result c.decide.result c.in_ok-auction.ensures c.best_price.ensures c.decide.ensures)
