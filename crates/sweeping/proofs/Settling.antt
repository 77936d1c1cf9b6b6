-- What is left of an order that has swept is settled, in memory.
use Rattle.std.proofs.Common.{◌≡◌, ℕ, ◌+◌, ◌<◌, true, false, [], ◌∷◌, length, set, sym, refl, ap, ◌∙◌, subst}
use Rattle.rules.specs.declared.order.Order.{Order}
use Rattle.trading.specs.declared.state.State.{State}
use Rattle.trading.specs.declared.state.Phase.{Phase}
use Rattle.trading.specs.declared.state.Phase.TheVariants.{Call}
use Rattle.trading.specs.declared.sweep.Ending.{Ending}
use Rattle.trading.specs.declared.sweep.Ending.TheVariants.{Filled, Nobody, Collared}
use Rattle.trading.specs.declared.report.ReportLine.TheVariants.{Lapse}
use Rattle.trading.specs.Books.{Book, is_day, with_phase, with_open}
use Rattle.trading.specs.Sweeps.{Moved, moved, join, settled}
use Rattle.trading.specs.Desks.{Desk, desk_of, book_of}
use Rattle.lent.specs.Contents.{Page, beside}
use Rattle.lent.specs.Moves.{Comes}
use Rattle.sweeping.specs.declared.tables.AfterSweep.{AfterSweep}
use Rattle.sweeping.specs.Beside.{Moves}
use Rattle.lent.proofs.Pages.{written_one}
use Rattle.sweeping.proofs.Following.{ready_fits}

lapses : (t : Order) (b : Book) (rest : ℕ) (e : Ending) → (e ≡ Filled → ⊥) → settled false t b rest e ≡ moved b (Lapse t.number rest ∷ [])
lapses t b rest Filled unfilled = absurd (unfilled refl)
lapses t b rest Nobody unfilled = refl
lapses t b rest Collared unfilled = refl

abbrev pub in_phase : Phase → State → State
in_phase p s = record { phase = p; buys = s.buys; sells = s.sells; stops = s.stops; static_price = s.static_price; last = s.last }

module _ (t : Order) (r : AfterSweep) (d : Desk) (p : Page) where
  abbrev move : Book → Moved
  move b = settled (is_day t.validity) t b r.rest r.ending

  pub settled_lapsed : (p' : Page) → is_day t.validity ≡ false → (r.ending ≡ Filled → ⊥) → p.written < length p.lines
      → p'.lines ≡ set p.lines p.written (Lapse t.number r.rest) → p'.written ≡ p.written + 1
      → Moves move d p d p'
  settled_lapsed p' day unfilled lt line-is next = record {
    came = λ stops n room from ready.
        let line = Lapse t.number r.rest in
        let is : move (book_of (beside d stops)) ≡ moved (book_of (beside d stops)) (line ∷ []) = ap (λ day. settled day t (book_of (beside d stops)) r.rest r.ending) day ∙ lapses t (book_of (beside d stops)) r.rest r.ending unfilled in
        subst (λ m. Comes n m (beside d stops) p (beside d stops) p') (sym is) (record {
          book = refl;
          counts = ready_fits n (beside d stops) room from 1 ready;
          lines = line-is ∙ written_one p.lines p.written line lt;
          place = next;
          beyond = record { buys_length = refl; sells_length = refl; stops_length = refl; buys = refl; sells = refl; stops = refl };
        });
    stops = refl;
  }

  module _ (d' : Desk) (day : is_day t.validity ≡ true) (h : Moves (λ b. moved (join (with_open t r.rest) b) []) d p d' p) where
    pub settled_joined : r.ending ≡ Nobody → Moves move d p d' p
    settled_joined e = record {
      came = λ stops n room from ready.
          let is : move (book_of (beside d stops)) ≡ settled true t (book_of (beside d stops)) r.rest Nobody = ap (λ day. settled day t (book_of (beside d stops)) r.rest r.ending) day ∙ ap (settled true t (book_of (beside d stops)) r.rest) e in
          subst (λ m. Comes n m (beside d stops) p (beside d' stops) p) (sym is) (h.came stops n room from ready);
      stops = h.stops;
    }

    pub settled_called : r.ending ≡ Collared → Moves move d p (desk_of (in_phase Call d'.state) d'.buys d'.sells d'.stops) p
    settled_called e = record {
      came = λ stops n room from ready.
          let c = h.came stops n room from ready in
          let is : move (book_of (beside d stops)) ≡ settled true t (book_of (beside d stops)) r.rest Collared = ap (λ day. settled day t (book_of (beside d stops)) r.rest r.ending) day ∙ ap (settled true t (book_of (beside d stops)) r.rest) e in
          subst (λ m. Comes n m (beside d stops) p (desk_of (in_phase Call d'.state) d'.buys d'.sells stops) p) (sym is) (record {
            book = ap (with_phase Call) c.book;
            counts = record { buys = c.counts.buys; sells = c.counts.sells; stops = c.counts.stops };
            lines = c.lines;
            place = c.place;
            beyond = record { buys_length = c.beyond.buys_length; sells_length = c.beyond.sells_length; stops_length = c.beyond.stops_length; buys = c.beyond.buys; sells = c.beyond.sells; stops = c.beyond.stops };
          });
      stops = h.stops;
    }
