-- An amendment has come about.
use Rattle.std.proofs.Common.{◌≡◌, ℕ, ◌+◌, ◌≤◌, true, false, cond, List, length, sym, ap, ◌∙◌, arith}
use Rattle.rules.specs.declared.order.Order.{Order}
use Rattle.trading.specs.declared.answer.Outcome.TheVariants.{PriorityKept, PriorityLost}
use Rattle.trading.specs.declared.report.ReportLine.{ReportLine}
use Rattle.trading.specs.declared.request.Request.TheVariants.{Amend}
use Rattle.trading.specs.Books.{Venue, Book, blank_stop}
use Rattle.trading.specs.Sweeps.{release_all, then_released}
use Rattle.trading.specs.Effects.{Effect, plainly}
use Rattle.trading.specs.Calls.{place, keeps_priority, cut, enters_again, amended, amend_at, amend_effect, effect_of}
use Rattle.trading.specs.Desks.{Desk, book_of, capacity}
use Rattle.trading.specs.Carried.{Took}
use Rattle.checks.specs.Ground.{Standing as Sound}
use Rattle.book.specs.declared.finding.Spot.{Spot}
use Rattle.book.specs.declared.finding.Spot.TheVariants.{Buys, Sells, Stops}
use Rattle.book.specs.declared.amendment.Standing.{Standing}
use Rattle.book.specs.Finding.{AtSpot}
use Rattle.lent.specs.Contents.{Page}
use Rattle.lent.specs.Moves.{Comes}
use Rattle.book.specs.Amending.{place_as, Stands, AgainCame}
use Rattle.book.proofs.Coming.{Fresh, told, released_took}

module _ (v : Venue) (n limit quantity : ℕ) (x : Standing) where
  abbrev o : Order
  o = x.order

  -- the effect is that on the order which stands
  amends_as : (b : Book) → Stands n b x → amend_effect v n limit quantity b ≡ amended v n limit quantity b (place n b) o
  unfolding amend_effect
  amends_as b s = by_spot x.spot s.at s.is
    where
      by_spot : (spot : Spot) → AtSpot n b spot → place n b ≡ place_as spot o → amend_at v n limit quantity b (place n b) ≡ amended v n limit quantity b (place n b) o
      by_spot (Buys i) at is = ap (amend_at v n limit quantity b) is ∙ sym (ap (λ at. amended v n limit quantity b at o) is)
      by_spot (Sells i) at is = ap (amend_at v n limit quantity b) is ∙ sym (ap (λ at. amended v n limit quantity b at o) is)
      by_spot (Stops i) at is = absurd (let p = at.1 blank_stop in let z : ◌≡◌ {A = ℕ} 0 1 = cc in omega arith)

  module _ (d d' d'' : Desk) (report : List ReportLine) (p p' p'' : Page) (s : Sound d (length report)) (fresh : Fresh report p) (stands : Stands n (book_of d) x) (released : Comes (capacity d') (release_all v (book_of d')) d' p' d'' p'') where
    abbrev kept : Effect
    kept = plainly PriorityKept (then_released v (cut n quantity (book_of d) (place n (book_of d)) o))

    abbrev lost : Effect
    lost = plainly PriorityLost (then_released v (enters_again v n limit quantity (book_of d) (place n (book_of d)) o))

    pub kept_took : keeps_priority o limit quantity ≡ true → p'.written ≤ p.written + 1 → Comes (capacity d) (cut n quantity (book_of d) (place n (book_of d)) o) d p d' p'
        → Took (effect_of v (book_of d) (Amend n limit quantity)) d report (told PriorityKept d'' p'') d'' p''.lines
    kept_took e few came =
        released_took v (Amend n limit quantity) PriorityKept (cut n quantity (book_of d) (place n (book_of d)) o) d d' d'' report p p' p'' s fresh
        (amends_as (book_of d) stands ∙ ap (λ k. cond k kept lost) e) (omega (arith, few, came.place, s.wide)) came released

    pub lost_took : keeps_priority o limit quantity ≡ false → AgainCame v n limit quantity o d p d' p'
        → Took (effect_of v (book_of d) (Amend n limit quantity)) d report (told PriorityLost d'' p'') d'' p''.lines
    lost_took e again =
        released_took v (Amend n limit quantity) PriorityLost (enters_again v n limit quantity (book_of d) (place n (book_of d)) o) d d' d'' report p p' p'' s fresh
        (amends_as (book_of d) stands ∙ ap (λ k. cond k kept lost) e) (omega (arith, again.ready.lines, again.came.place, ap length fresh.lines)) again.came released
