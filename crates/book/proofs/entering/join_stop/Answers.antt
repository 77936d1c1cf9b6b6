use Rattle.std.proofs.Common.{rules}
use Rattle.lent.specs.Contents.{contents}
use Rattle.book.proofs.Enterings.{joined_stops}
use Rattle.book.proofs.entering.join_stop.Goals as goal

pub returns-clause-joined : goal.returns-clause-joined
returns-clause-joined c = joined_stops c.args.stop (contents c.args.desk.now) c.join_table.new.table (search rules) c.join_table.ensures.queue c.join_table.ensures.beyond
