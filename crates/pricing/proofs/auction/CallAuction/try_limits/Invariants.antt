use Rattle.std.proofs.Common.{◌≤◌, length, take}
use Rattle.pricing.specs.Calls.{auction_of}
use Rattle.pricing.specs.Trials.{SoFar}
use Rattle.pricing.proofs.auction.CallAuction.try_limits.Given as goal

abbrev pub invariant-loop-order : goal.invariant-loop-order
invariant-loop-order g l =
    (l.order-index ≤ length l.orders) × SoFar (g.G.PriceGrid.lawful l.grid) (auction_of l.self) l.initial.winner l.winner l.tried (take l.order-index l.orders)
