use Rattle.lent.specs.Contents.{book_seen}
use Rattle.book.proofs.Amends.{stop_stands}
use Rattle.book.proofs.amendment.find_order.Goals as goal

pub returns-in-Stops : goal.returns-in-Stops
returns-in-Stops c = stop_stands c.args.number (book_seen c.args.book.now) c.in_ok-spot.spot c.in_ok-spot.ensures _ c.in-Stops.is
