use Rattle.std.proofs.Common.{◌&&◌, ◌∙◌, refl, rules, tests}
use Rattle.std.specs.List.{list_all}
use Rattle.std.proofs.lemmas.Iterator.{YieldsList-from_slice}
use Rattle.std.proofs.lemmas.Iterator.Search.{all_from_yields_List}
use Rattle.std.proofs.lemmas.List.Recursion.{same_from_clauses}
use Rattle.trading.specs.Queues.{all_pass}
use Rattle.checks.proofs.fits.all_fit.Goals as goal

pub returns : goal.returns
returns g c =
    let xs = c.args.queue.now in
    let fits = g.R.Fitting.fits c.args.side in
    all_from_yields_List fits _ _ c.all.result c.all.ensures.ran (YieldsList-from_slice xs cc) (λ x b q k. search (rules, tests))
    ∙ same_from_clauses (list_all fits) (all_pass fits) (λ x b. fits x && b) refl (λ _ _. refl) (λ _ _. refl) xs
