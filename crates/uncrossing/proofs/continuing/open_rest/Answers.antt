use Rattle.lent.specs.Contents.{contents, page, beside}
use Rattle.uncrossing.proofs.Moving.{rest_beside, opens}
use Rattle.uncrossing.proofs.continuing.open_rest.Goals as goal

pub returns-clause-came : goal.returns-clause-came
returns-clause-came c =
    let b = c.sift-desk in
    let s = c.sift-desk-2 in
    λ stops n hb hs ht. opens c.args.met (beside (contents c.args.desk.now) stops) _ _ (page c.args.report.now) (page b.new.report) (page s.new.report) b.result s.result n (rest_beside c.requires stops) b.auto.orders s.auto.orders b.ensures.sifted s.ensures.sifted hb hs ht
