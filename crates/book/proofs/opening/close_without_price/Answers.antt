use Rattle.std.proofs.Common.{◌≡◌, sym, ap}
use Rattle.trading.specs.Desks.{Desk}
use Rattle.book.proofs.opening.close_without_price.Goals as goal

pub returns-clause-came : goal.returns-clause-came
returns-clause-came c n =
    let d = c.args.desk.now in
    let t = c.tables.result in
    let buys : d.buys.now ≡ t.buys.now = sym (ap (λ (x : Desk). x.buys) c.tables.ensures) in
    let sells : d.sells.now ≡ t.sells.now = sym (ap (λ (x : Desk). x.sells) c.tables.ensures) in
    let stops : d.stops.now ≡ t.stops.now = sym (ap (λ (x : Desk). x.stops) c.tables.ensures) in
    rw (buys, sells, stops) (c.close_unprinted-desk.ensures.came n)
