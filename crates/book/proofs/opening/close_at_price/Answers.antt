use Rattle.std.proofs.lemmas.Bool.{and_parts}
use Rattle.trading.specs.Desks.{book_of, capacity, counts_fit, queues_fit}
use Rattle.lent.specs.Contents.{contents}
use Rattle.uncrossing.proofs.Fronting.{queues_in_front}
use Rattle.book.proofs.opening.close_at_price.Goals as goal

pub print_and_close-requires-clause-fronts : goal.print_and_close-requires-clause-fronts
print_and_close-requires-clause-fronts c =
    let d = contents c.args.desk.now in
    queues_in_front c.args.price (book_of d) (and_parts (counts_fit d) (queues_fit (book_of d)) c.requires.formed).1

pub returns-clause-came : goal.returns-clause-came
returns-clause-came c = c.print_and_close.ensures.came (capacity (contents c.args.desk.now)) c.requires.ready
