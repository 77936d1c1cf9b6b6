-- An auction that is held, in the words of the rules.
use Rattle.rules.specs.Auctions.{Auction, auction}
use Rattle.pricing.specs.declared.auction.CallAuction.{CallAuction}

abbrev pub auction_of : CallAuction → Auction
auction_of c = auction c.last c.buys.now c.sells.now
