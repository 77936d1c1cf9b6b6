-- A desk after an uncrossing, from what its parts did.
use Rattle.std.proofs.Common.{◌≡◌, ℕ, ◌≤◌, List, ◌++◌, length, drop, refl, ap, ◌∙◌, subst, arith}
use native.Mathlib.Nat.{sub-zero}
use Rattle.rules.specs.declared.order.Order.{Order}
use Rattle.trading.specs.declared.state.State.{State}
use Rattle.trading.specs.declared.state.Phase.TheVariants.{Continuous}
use Rattle.trading.specs.declared.report.ReportLine.{ReportLine}
use Rattle.trading.specs.declared.stop.StopOrder.{StopOrder}
use Rattle.trading.specs.Books.{Book}
use Rattle.trading.specs.Desks.{Desk, desk_of, book_of}
use Rattle.trading.specs.Moves.{Ready}
use Rattle.trading.specs.Sweeps.{moved}
use Rattle.trading.specs.Uncrossings.{vfu_lapses, without_vfu, printed_at}
use Rattle.lent.specs.Contents.{Page, Wrote, beside}
use Rattle.lent.specs.Moves.{Comes}
use Rattle.uncrossing.specs.declared.pairing.Met.{Met}
use Rattle.uncrossing.specs.Sifted.{SiftedTo}
use Rattle.uncrossing.specs.Fits.{RestFits}
use Rattle.uncrossing.specs.Meetings.{paired_at}
use Rattle.uncrossing.specs.Prints.{book_from, PrintedAs}
use Rattle.lent.proofs.Behind.{past_later}
use Rattle.lent.proofs.Pages.{wrote_both}

-- the VFU orders of what is left of both queues have lapsed
pub opens : (met : Met) (d : Desk) (buys' sells' : List Order) (p p1 p' : Page) (k m n : ℕ)
    → RestFits met d p → length buys' ≡ length d.buys → length sells' ≡ length d.sells
    → SiftedTo d.buys buys' met.buys d.state.buys p p1 k → SiftedTo d.sells sells' met.sells d.state.sells p1 p' m
    → d.state.buys ≤ n → d.state.sells ≤ n → d.state.stops ≤ length d.stops
    → Comes n (moved (without_vfu (book_from met d)) (vfu_lapses (book_from met d))) d p (desk_of (record { phase = Continuous; buys = k; sells = m; stops = d.state.stops; static_price = d.state.static_price; last = d.state.last }) buys' sells' d.stops) p'
opens met d buys' sells' p p1 p' k m n fit bl sl a b hb hs ht =
    let bq = a.queue in
    let sq = b.queue in
    let both = wrote_both a.lines b.lines (omega (arith, a.few, b.few, fit.lines)) in
    record {
      book = rw (bq, sq);
      counts = record { buys = omega (arith, a.few, a.lines.place, fit.queues.buys); sells = omega (arith, b.few, b.lines.place, fit.queues.sells); stops = ht };
      lines = both.lines;
      place = both.place;
      beyond = record {
        buys_length = bl;
        sells_length = sl;
        stops_length = refl;
        buys = past_later buys' d.buys d.state.buys n hb a.beyond;
        sells = past_later sells' d.sells d.state.sells n hs b.beyond;
        stops = refl;
      };
    }

-- the same facts, whatever stops stand in the book
pub rest_beside : {met : Met} {d : Desk} {p : Page} → RestFits met d p → (stops : List StopOrder) → RestFits met (beside d stops) p
rest_beside h stops = record { queues = record { buys_start = h.queues.buys_start; sells_start = h.queues.sells_start; buys = h.queues.buys; sells = h.queues.sells }; lines = h.lines }

pub printed_beside : {p : ℕ} {d d1 : Desk} {page page1 : Page} {met : Met} → PrintedAs p d page d1 page1 met → (stops : List StopOrder) → PrintedAs p (beside d stops) page (beside d1 stops) page1 met
printed_beside h stops = record {
  state = h.state;
  paired = record { buys_left = h.paired.buys_left; sells_left = h.paired.sells_left; trades = h.paired.trades; buys_start = h.paired.buys_start; sells_start = h.paired.sells_start; few = h.paired.few; buys_beyond = h.paired.buys_beyond; sells_beyond = h.paired.sells_beyond; stops = refl };
}

-- what is done before any trade is done with the whole queues
pub unmet_on : {n : ℕ} {d d' : Desk} {p p' : Page} {met : Met} (f : Book → Book) (g : Book → List ReportLine)
    → (met.buys ≡ 0) × (met.sells ≡ 0) → Comes n (moved (f (book_from met d)) (g (book_from met d))) d p d' p' → Comes n (moved (f (book_of d)) (g (book_of d))) d p d' p'
unmet_on {n} {d} {d'} {p} {p'} {met} f g unmet =
    let b = unmet.0 in
    let s = unmet.1 in
    let whole : book_from met d ≡ book_of d = simp (b, s, sub-zero) in
    subst (λ b. Comes n (moved (f b) (g b)) d p d' p') whole

-- what is done after a print is done after the trades
pub printed_on : {p n room at : ℕ} {d d1 d' : Desk} {page page1 page' : Page} {met : Met} (f : Book → Book) (g : Book → List ReportLine)
    → PrintedAs p d page d1 page1 met → length d1.buys ≡ length d.buys → length d1.sells ≡ length d.sells → Ready n d room at 0 → page'.written ≤ length page.lines
    → Comes n (moved (f (book_from met d1)) (g (book_from met d1))) d1 page1 d' page'
    → Comes n (moved (f (printed_at p (book_of d))) ((paired_at p d).trades ++ g (printed_at p (book_of d)))) d page d' page'
printed_on {p} {n} {room} {at} {d} {d1} {d'} {page} {page1} {page'} {met} f g h bl sl ready within c =
    let e = h.state in
    let bq = h.paired.buys_left in
    let sq = h.paired.sells_left in
    let ts = h.paired.stops in
    let book : book_from met d1 ≡ printed_at p (book_of d) = rw (e, bq, sq, ts) in
    let later : Wrote (g (printed_at p (book_of d))) page1 page' = subst (λ b. Wrote (g b) page1 page') book (record { lines = c.lines; place = c.place }) in
    let both = wrote_both h.paired.trades later within in
    record {
      book = c.book ∙ ap f book;
      counts = c.counts;
      lines = both.lines;
      place = both.place;
      beyond = record {
        buys_length = c.beyond.buys_length ∙ bl;
        sells_length = c.beyond.sells_length ∙ sl;
        stops_length = c.beyond.stops_length ∙ ap length ts;
        buys = c.beyond.buys ∙ past_later d1.buys d.buys d.state.buys n (omega (arith, ready.records)) h.paired.buys_beyond;
        sells = c.beyond.sells ∙ past_later d1.sells d.sells d.state.sells n (omega (arith, ready.records)) h.paired.sells_beyond;
        stops = c.beyond.stops ∙ ap (drop n) ts;
      };
    }

-- what is done with a desk is done with one of the same state and tables
pub done_with : {n : ℕ} {s s1 : State} {bs bs1 ss ss1 : List Order} {stops : List StopOrder} {d' : Desk} {p p' : Page} (met : Met) (f : Book → Book) (g : Book → List ReportLine)
    → s ≡ s1 → bs ≡ bs1 → ss ≡ ss1
    → Comes n (moved (f (book_from met (desk_of s bs ss stops))) (g (book_from met (desk_of s bs ss stops)))) (desk_of s bs ss stops) p d' p'
    → Comes n (moved (f (book_from met (desk_of s1 bs1 ss1 stops))) (g (book_from met (desk_of s1 bs1 ss1 stops)))) (desk_of s1 bs1 ss1 stops) p d' p'
done_with {n} {s} {s1} {bs} {bs1} {ss} {ss1} {stops} {d'} {p} {p'} met f g same buys sells =
    let whole : desk_of s bs ss stops ≡ desk_of s1 bs1 ss1 stops = rw (same, buys, sells) in
    subst (λ d. Comes n (moved (f (book_from met d)) (g (book_from met d))) d p d' p') whole
