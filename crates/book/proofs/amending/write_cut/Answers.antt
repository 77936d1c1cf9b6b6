use Rattle.std.proofs.Common.{rules}
use Rattle.lent.specs.Contents.{page}
use Rattle.book.proofs.Cuts.{wrote_lapse}
use Rattle.book.proofs.amending.write_cut.Goals as goal

pub returns-then-quantity-ne0-clause-wrote : goal.returns-then-quantity-ne0-clause-wrote
returns-then-quantity-ne0-clause-wrote c = wrote_lapse c.args.number c.args.quantity (page c.args.report.now) (page c.write.new.self) (search rules) c.requires c.write.ensures.line c.write.ensures.written
