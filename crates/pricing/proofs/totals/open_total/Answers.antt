use Rattle.std.proofs.Common.{rules, tests, refl, sym, ◌∙◌}
use Rattle.std.proofs.lemmas.Iterator.{YieldsList-from_slice, YieldsList-from_map}
use Rattle.std.proofs.lemmas.Iterator.Consumers.{sum_by_from_yields_List}
use Rattle.std.proofs.lemmas.List.Recursion.{is_sum_by}
use Rattle.rules.specs.Auctions.{total}
use Rattle.pricing.proofs.totals.open_total.Goals as goal

pub returns : goal.returns
returns g c = λ amount computes.
    sum_by_from_yields_List amount c.args.orders.now c.map.result c.sum.result c.sum.ensures.ran
    (YieldsList-from_map _ amount (YieldsList-from_slice c.args.orders.now cc) c.map.ensures.closure (λ x r q k. (search (rules, tests), computes x.now r (search (rules, tests)))))
    ∙ sym (is_sum_by (total amount) amount refl (λ _ _. refl) c.args.orders.now)
