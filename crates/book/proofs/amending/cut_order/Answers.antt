use Rattle.std.proofs.Common.{sym, ap, ◌∙◌, subst}
use Rattle.trading.specs.Calls.{cut, place}
use Rattle.trading.specs.Desks.{Desk, book_of, capacity}
use Rattle.lent.specs.Contents.{contents, page}
use Rattle.lent.specs.Moves.{Comes}
use Rattle.book.proofs.Cuts.{with_quantity, cut_at, same_state, same_stops}
use Rattle.book.proofs.amending.cut_order.Goals as goal

pub returns-clause-cut : goal.returns-clause-cut
returns-clause-cut c =
    let d = contents c.args.desk.now in
    let w = c.write_cut in
    let st = c.args.standing in
    record {
      came = λ fit s. subst (λ (d' : Desk). Comes (capacity d) (cut c.args.asked.number c.args.asked.quantity (book_of d) (place c.args.asked.number (book_of d)) st.order) d (page c.args.report.now) d' (page w.new.report)) (sym c.put_order.ensures.put)
          (cut_at c.args.asked.number c.args.asked.quantity d (page c.args.report.now) (page w.new.report) st.order fit c.requires.cut w.ensures.wrote st.spot s.at s.is);
      few = w.ensures.few;
      state = ap (λ (d' : Desk). d'.state) c.put_order.ensures.put ∙ same_state st.spot (with_quantity st.order c.args.asked.quantity) d;
      stops = ap (λ (d' : Desk). d'.stops) c.put_order.ensures.put ∙ same_stops st.spot (with_quantity st.order c.args.asked.quantity) d;
    }
