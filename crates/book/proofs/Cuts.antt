-- An order cut where it stands.
use Rattle.std.proofs.Common.{◌≡◌, ℕ, ◌+◌, ◌-◌, ◌<◌, ◌≤◌, false, eqb, length, get_or, set, sym, refl, ap, ◌∙◌, subst, arith, length-set, length-take, drop-set-lt}
use lib.Seq.{take-set-lt}
use Rattle.std.proofs.lemmas.List.{length-take-le}
use Rattle.std.proofs.lemmas.Bool.{ne_eqb, cond-false}
use Rattle.trading.specs.declared.report.ReportLine.TheVariants.{Lapse}
use Rattle.lent.proofs.Pages.{written_one}
use Rattle.rules.specs.declared.order.Order.{Order}
use Rattle.trading.specs.Books.{with_orders, reduced, blank_order, blank_stop}
use Rattle.trading.specs.Calls.{Place, nowhere, in_buys, in_sells, in_stops, place, cut, cut_by, reduced_by, lapse_above0}
use Rattle.trading.specs.Desks.{Desk, book_of, capacity}
use Rattle.lent.specs.Contents.{Page, Wrote}
use Rattle.lent.specs.Moves.{Comes}
use Rattle.book.specs.declared.finding.Spot.{Spot}
use Rattle.book.specs.declared.finding.Spot.TheVariants.{Buys, Sells, Stops}
use Rattle.book.specs.declared.amendment.Standing.{Standing}
use Rattle.book.specs.Finding.{AtSpot}
use Rattle.book.specs.Out.{Fit}
use Rattle.book.specs.Amending.{place_as, Stands, Inside, desk_with}

-- the order at a place, and any where there is none
abbrev order_in : Place → Order
order_in nowhere = blank_order
order_in (in_buys o) = o
order_in (in_sells o) = o
order_in (in_stops s) = blank_order

-- the order with a new quantity
abbrev pub with_quantity : Order → ℕ → Order
with_quantity o q = record { number = o.number; side = o.side; limit = o.limit; «open» = q; validity = o.validity }

cut_is : (o : Order) (q : ℕ) → q ≤ o.«open» → with_quantity o q ≡ reduced o (o.«open» - q)
cut_is o q le = let e : q ≡ o.«open» - (o.«open» - q) = omega arith in λ k. with_quantity o (e k)

module _ (n q : ℕ) (d : Desk) (p p' : Page) (o : Order) (fit : Fit d) (le : q ≤ o.«open») (w : Wrote (lapse_above0 n (o.«open» - q)) p p') where
  abbrev CutTo : Spot → Type 0
  CutTo spot = Comes (capacity d) (cut n q (book_of d) (place n (book_of d)) o) d p (desk_with spot (with_quantity o q) d) p'

  buys_cut : (i : ℕ) → AtSpot n (book_of d) (Buys i) → place n (book_of d) ≡ in_buys o → CutTo (Buys i)
  buys_cut i at is =
      let b = book_of d in
      let within : i < d.state.buys = omega (arith, at.0.within, length-take-le d.state.buys d.buys fit.counts.buys) in
      let same : get_or b.buys i blank_order ≡ o = ap order_in (sym (at.1 blank_order) ∙ is) in
      let changed = at.0.changed (reduced_by (o.«open» - q)) blank_order ∙ ap (λ x. set b.buys i (reduced_by (o.«open» - q) x)) same ∙ ap (set b.buys i) (sym (cut_is o q le)) in
      let long = length-set d.buys i (with_quantity o q) in
      record {
        book = ap (λ xs. with_orders xs b.sells b) (take-set-lt d.state.buys d.buys i (with_quantity o q) within ∙ sym changed) ∙ sym (ap (cut_by n (o.«open» - q) b) is);
        counts = record { buys = omega (arith, fit.counts.buys, long); sells = fit.counts.sells; stops = fit.counts.stops };
        lines = w.lines;
        place = w.place;
        beyond = record { buys_length = long; sells_length = refl; stops_length = refl; buys = drop-set-lt (capacity d) d.buys i (with_quantity o q) (omega (arith, fit.few)); sells = refl; stops = refl };
      }

  sells_cut : (i : ℕ) → AtSpot n (book_of d) (Sells i) → place n (book_of d) ≡ in_sells o → CutTo (Sells i)
  sells_cut i at is =
      let b = book_of d in
      let within : i < d.state.sells = omega (arith, at.0.within, length-take-le d.state.sells d.sells fit.counts.sells) in
      let same : get_or b.sells i blank_order ≡ o = ap order_in (sym (at.1 blank_order) ∙ is) in
      let changed = at.0.changed (reduced_by (o.«open» - q)) blank_order ∙ ap (λ x. set b.sells i (reduced_by (o.«open» - q) x)) same ∙ ap (set b.sells i) (sym (cut_is o q le)) in
      let long = length-set d.sells i (with_quantity o q) in
      record {
        book = ap (λ xs. with_orders b.buys xs b) (take-set-lt d.state.sells d.sells i (with_quantity o q) within ∙ sym changed) ∙ sym (ap (cut_by n (o.«open» - q) b) is);
        counts = record { buys = fit.counts.buys; sells = omega (arith, fit.counts.sells, long); stops = fit.counts.stops };
        lines = w.lines;
        place = w.place;
        beyond = record { buys_length = refl; sells_length = long; stops_length = refl; buys = refl; sells = drop-set-lt (capacity d) d.sells i (with_quantity o q) (omega (arith, fit.few)); stops = refl };
      }

  pub cut_at : (spot : Spot) → AtSpot n (book_of d) spot → place n (book_of d) ≡ place_as spot o → CutTo spot
  cut_at (Buys i) at is = buys_cut i at is
  cut_at (Sells i) at is = sells_cut i at is
  cut_at (Stops i) at is = absurd (let p = at.1 blank_stop in let z : ◌≡◌ {A = ℕ} 0 1 = cc in omega arith)

-- an order stands within its table
pub stands_inside : (n : ℕ) (d : Desk) (x : Standing) → Stands n (book_of d) x → Inside x.spot d
stands_inside n d x s = by_spot x.spot s.at s.is
  where
    by_spot : (spot : Spot) → AtSpot n (book_of d) spot → place n (book_of d) ≡ place_as spot x.order → Inside spot d
    by_spot (Buys i) at is = omega (arith, at.0.within, length-take d.state.buys d.buys)
    by_spot (Sells i) at is = omega (arith, at.0.within, length-take d.state.sells d.sells)
    by_spot (Stops i) at is = absurd (let p = at.1 blank_stop in let z : ◌≡◌ {A = ℕ} 0 1 = cc in omega arith)

-- a lapse of more than nothing is written
pub wrote_lapse : (n q : ℕ) (p p' : Page) → 0 < q → p.written < length p.lines → p'.lines ≡ set p.lines p.written (Lapse n q) → p'.written ≡ p.written + 1 → Wrote (lapse_above0 n q) p p'
wrote_lapse n q p p' some room line next =
    let e : eqb q 0 ≡ false = ne_eqb q 0 (omega arith) in
    subst (λ ls. Wrote ls p p') (sym (cond-false (eqb q 0) _ _ e)) (record { lines = line ∙ written_one p.lines p.written (Lapse n q) room; place = next })

-- putting an order leaves the state
pub same_state : (spot : Spot) (o : Order) (d : Desk) → (desk_with spot o d).state ≡ d.state
same_state (Buys i) o d = refl
same_state (Sells i) o d = refl
same_state (Stops i) o d = refl

-- and the stops
pub same_stops : (spot : Spot) (o : Order) (d : Desk) → (desk_with spot o d).stops ≡ d.stops
same_stops (Buys i) o d = refl
same_stops (Sells i) o d = refl
same_stops (Stops i) o d = refl
