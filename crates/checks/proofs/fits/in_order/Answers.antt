use Rattle.std.proofs.Common.{ap, ◌∙◌, rules, tests}
use Rattle.trading.specs.Queues.{in_order}
use Rattle.checks.proofs.Passing.{order_walked}
use Rattle.checks.proofs.fits.in_order.Goals as goal

pub returns : goal.returns
returns g c =
    let ahead = g.R.Ranked.ahead in
    order_walked _ ahead (λ f f' x y b k. search (rules, tests)) c.iter.result _ c.is_sorted_by.result c.is_sorted_by.ensures.ran ∙ ap (in_order ahead) c.iter.ensures.rest
