use Rattle.std.proofs.Common.{ℕ, refl, min, rules, arith}
use Rattle.std.proofs.lemmas.Iterator.{YieldsList-from_slice, YieldsList-from_map}
use Rattle.std.proofs.lemmas.Iterator.Consumers.{fits_by_from_yields_list}
use Rattle.std.proofs.lemmas.List.Sums.{sum_by-le}
use Rattle.std.proofs.lemmas.List.Recursion.{is_sum_by}
use Rattle.rules.specs.Auctions.{total}
use Rattle.queue.proofs.queue.Queue.total.Goals as goal

pub sum-requires-clause-fits : goal.sum-requires-clause-fits
sum-requires-clause-fits g c =
    let xs = c.as_slice.result.now in
    let f : g.row.R.Denot → ℕ = λ x. min 4294967295 (g.R.Ranked.amount x) in
    let most = sum_by-le f 4294967295 xs (λ k d h. omega arith) in
    fits_by_from_yields_list f xs c.map.result _ (YieldsList-from_map _ _ (YieldsList-from_slice xs cc) c.map.ensures.closure (λ x r q k. (refl, search rules))) (omega (arith, most, c.as_slice.type_inv.0))

pub returns : goal.returns
returns g c = search (rules, is_sum_by (total g.R.Ranked.amount) g.R.Ranked.amount refl (λ _ _. refl))
