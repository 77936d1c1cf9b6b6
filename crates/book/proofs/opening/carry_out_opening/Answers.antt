use Rattle.trading.specs.Desks.{book_of, capacity}
use Rattle.lent.specs.Contents.{contents, page}
use Rattle.sweeping.specs.Beside.{venue}
use Rattle.book.proofs.Openings.{opening_as, trading_unprinted, closed_unprinted, trading_printed}
use Rattle.book.proofs.opening.carry_out_opening.Goals as goal

pub returns-in-NoPrice-Trading-clause-came : goal.returns-in-NoPrice-Trading-clause-came
returns-in-NoPrice-Trading-clause-came g c grid =
    let d = contents c.args.desk.now in
    let p = page c.args.report.now in
    let x = c.open_without_price in
    let v = venue grid (g.C.Collar.allows c.args.collar.now) in
    let i = c.in-NoPrice-Trading in
    opening_as (capacity d) v _ _ (book_of d) _ _ d p (contents x.new.desk) (page x.new.report) i.is-1 i.is-0 (trading_unprinted (capacity d) v d p (contents x.new.desk) (page x.new.report) (x.ensures.came grid))

pub returns-in-NoPrice-Close-clause-came : goal.returns-in-NoPrice-Close-clause-came
returns-in-NoPrice-Close-clause-came g c grid =
    let d = contents c.args.desk.now in
    let p = page c.args.report.now in
    let x = c.close_without_price in
    let v = venue grid (g.C.Collar.allows c.args.collar.now) in
    let i = c.in-NoPrice-Close in
    opening_as (capacity d) v _ _ (book_of d) _ _ d p (contents x.new.desk) (page x.new.report) i.is-1 i.is-0 (closed_unprinted (capacity d) v d p (contents x.new.desk) (page x.new.report) (x.ensures.came (capacity d)))

pub returns-in-Printed-Trading-clause-came : goal.returns-in-Printed-Trading-clause-came
returns-in-Printed-Trading-clause-came g c grid =
    let d = contents c.args.desk.now in
    let p = page c.args.report.now in
    let x = c.open_at_price in
    let v = venue grid (g.C.Collar.allows c.args.collar.now) in
    let i = c.in-Printed-Trading in
    opening_as (capacity d) v _ _ (book_of d) _ _ d p (contents x.new.desk) (page x.new.report) i.is-1 i.is-0 (trading_printed (capacity d) v d p (contents x.new.desk) (page x.new.report) i.price i.volume-0 (x.ensures.came grid))
