use Rattle.std.proofs.Common.{sym}
use Rattle.book.proofs.Begun.{begins}
use Rattle.book.proofs.making.new_book.Goals as goal

pub returns : goal.returns
returns c = begins c.args.opening_price (sym c.if-not-is_price.ensures)
