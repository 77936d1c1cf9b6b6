use Rattle.std.proofs.Common.{Bool, nat_eq, subst, sym, rules, tests}
use Rattle.std.proofs.lemmas.Iterator.{YieldsList-from_slice}
use Rattle.std.proofs.lemmas.Iterator.Search.{position_from_yields_List}
use Rattle.queue.specs.Places.{FirstFound}
use Rattle.queue.proofs.Firsts.{position_first}
use Rattle.queue.proofs.tables.find_number.Goals as goal

pub returns : goal.returns
returns g c =
    let xs = c.args.queue.now in
    let test : g.row.R.Denot → Bool = λ x. nat_eq (g.R.Numbered.tag x) c.args.number in
    subst (FirstFound test xs) (sym (position_from_yields_List test _ _ c.position.result c.position.ensures.ran (YieldsList-from_slice xs cc) (λ x b q k. search (rules, tests)))) (position_first test xs)
