use Rattle.std.proofs.Common.{length}
use Rattle.trading.specs.Desks.{capacity}
use Rattle.lent.specs.Contents.{contents, page}
use Rattle.sweeping.specs.Beside.{venue}
use Rattle.sweeping.proofs.Following.{came_own}
use Rattle.book.proofs.Again.{room_again, came_again}
use Rattle.book.proofs.amending.enter_again.Goals as goal

pub returns-clause-again : goal.returns-clause-again
returns-clause-again g c = λ grid.
    let d = contents c.args.desk.now in
    let p = page c.args.report.now in
    let t = c.take_out-lapsed in
    let w = c.write in
    let x = c.enter_order in
    let d' = contents t.new.desk in
    let p' = page w.new.self in
    let out = t.ensures.out c.args.asked.number c.requires.stands.at in
    came_again c.args.asked.number t.result d d' c.args.standing p p' c.requires.fit c.requires.stands c.requires.wide out w.ensures.line w.ensures.written
    (venue grid (g.C.Collar.allows c.args.collar.now)) c.args.asked.limit c.args.asked.quantity (contents x.new.desk) (page x.new.report)
    (came_own (x.ensures.entered grid) (capacity d) (length p.lines) p'.written (room_again c.args.asked.number t.result d d' c.args.standing p p' c.requires.fit c.requires.stands c.requires.wide out w.ensures.line w.ensures.written))
